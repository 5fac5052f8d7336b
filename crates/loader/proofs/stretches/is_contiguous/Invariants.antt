use Rattle.std.proofs.Common.{◌≡◌, ◌-◌, ◌≤◌, drop}
use Rattle.loader.specs.Stretches.{is_contiguous}
use Rattle.loader.proofs.stretches.is_contiguous.Given as goal

abbrev pub invariant-loop-index : goal.invariant-loop-index
invariant-loop-index l = record {
  behind : 1 ≤ l.index;
  same : is_contiguous (drop (l.index - 1) l.cells) ≡ is_contiguous l.cells;
}
