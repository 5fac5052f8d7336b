use Rattle.std.proofs.Common.{◌≡◌, length, take}
use Rattle.std.specs.List.{All}
use Rattle.ledger_rows.specs.Pockets.{IsPocketOf, with_pockets}
use Rattle.ledger_rows.proofs.pockets.put_into_pockets.Given as goal

abbrev pub invariant-loop-row : goal.invariant-loop-row
invariant-loop-row l = record {
  put : l.cards ≡ with_pockets l.fn.cards (take l.row-index l.rows);
  are : All (IsPocketOf (length l.fn.cards)) (take l.row-index l.rows);
  size : length l.cards ≡ length l.fn.cards;
}
