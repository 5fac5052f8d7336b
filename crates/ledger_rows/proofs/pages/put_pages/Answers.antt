use Rattle.std.proofs.Common.{◌/◌, ◌∙◌, subst}
use Rattle.std.proofs.lemmas.List.Elements.{All-more}
use Rattle.core_store.specs.Pages.{page_count}
use Rattle.ledger_rows.specs.Pages.{IsPageOf}
use Rattle.ledger_rows.proofs.PagesRead.{one_page_more}
use Rattle.ledger_rows.proofs.pages.put_pages.Goals as goal

pub loop-row-preserved : goal.loop-row-preserved
loop-row-preserved g c =
    let s = g.C.Core.cells c.args.core.now in
    let now = g.C.Core.cells c.loop-row.core in
    let loop = c.loop-row.invariant in
    let rows = c.args.rows.now in
    let i = c.loop-row.row-index in
    let row = c.row-item.result in
    let is : IsPageOf (page_count s) row = subst (λ n. IsPageOf (n / 100) row) loop.size (c.put_page.ensures.is.0 c.if-not-put_page.false) in
    record {
      put = c.put_page.ensures.put c.if-not-put_page.false ∙ one_page_more s now rows i row row c.loop-row-test.true c.row-item.is loop.put;
      are = All-more (IsPageOf (page_count s)) rows i row c.loop-row-test.true loop.are (subst (IsPageOf (page_count s)) c.row-item.is is);
      size = c.put_page.ensures.size ∙ loop.size;
    }
