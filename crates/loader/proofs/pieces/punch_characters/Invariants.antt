use Rattle.std.proofs.Common.{◌≡◌, ◌+◌, ◌++◌, length, map, take}
use Rattle.loader.proofs.pieces.punch_characters.Given as goal

abbrev pub invariant-loop-cell : goal.invariant-loop-cell
invariant-loop-cell l = record {
  punched : l.columns ≡ l.fn.columns ++ map (λ c. c.code) (take l.cell-index l.stretch);
  length : length l.columns ≡ length l.fn.columns + l.cell-index;
}
