use Rattle.std.proofs.Common.{◌≡◌, length, take}
use Rattle.std.specs.List.{All}
use Rattle.core_store.specs.Pages.{page_count}
use Rattle.ledger_rows.specs.Pages.{IsPageOf, with_pages}
use Rattle.ledger_rows.proofs.pages.put_pages.Given as goal

abbrev pub invariant-loop-row : goal.invariant-loop-row
invariant-loop-row g l = record {
  put : g.C.Core.cells l.core ≡ with_pages (g.C.Core.cells l.fn.core) (take l.row-index l.rows);
  are : All (IsPageOf (page_count (g.C.Core.cells l.fn.core))) (take l.row-index l.rows);
  size : length (g.C.Core.cells l.core) ≡ length (g.C.Core.cells l.fn.core);
}
