use Rattle.std.proofs.Common.{◌≡◌, length, take}
use Rattle.ledger_rows.specs.Pages.{AreCells, with_bytes}
use Rattle.ledger_rows.proofs.storage.put_cells.Given as goal

abbrev pub invariant-loop-place : goal.invariant-loop-place
invariant-loop-place g l = record {
  put : g.C.Core.cells l.core ≡ with_bytes (g.C.Core.cells l.fn.core) l.first (take l.place l.bytes);
  cells : AreCells (take l.place l.bytes);
  size : length (g.C.Core.cells l.core) ≡ length (g.C.Core.cells l.fn.core);
}
