use Rattle.std.proofs.Common.{◌≡◌, length, take, map}
use Rattle.core_store.specs.Pages.{page_at}
use Rattle.ledger_rows.specs.Columns.{byte_of}
use Rattle.ledger_rows.proofs.pages.page_bytes.Given as goal

abbrev pub invariant-loop-place : goal.invariant-loop-place
invariant-loop-place g l = record {
  size : length l.bytes ≡ 100;
  filled : take l.place l.bytes ≡ map byte_of (take l.place (page_at (g.C.Core.cells l.core) l.page));
}
