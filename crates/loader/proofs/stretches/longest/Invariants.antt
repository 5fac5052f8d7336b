use Rattle.std.proofs.Common.{◌≡◌, ◌≤◌, true, take, drop}
use Rattle.loader.specs.Stretches.{is_lawful, stretches_from, stretches_of}
use Rattle.loader.proofs.stretches.longest.Given as goal

abbrev pub invariant-loop-end : goal.invariant-loop-end
invariant-loop-end l = record {
  some : 1 ≤ l.end;
  lawful : is_lawful (take l.end l.cells) ≡ true;
  split : stretches_from (take l.end l.cells) (drop l.end l.cells) ≡ stretches_of l.cells;
}
