use Rattle.std.proofs.Common.{◌≡◌, ◌∙◌, ap, length, refl, sym, true≢false}
use Rattle.std.proofs.lemmas.List.{length-replicate}
use Rattle.core_store.specs.Storage.{Storage, blank_storage, positions_of}
use Rattle.ledger_rows.specs.Pages.{with_pages}
use Rattle.ledger_rows.proofs.PagesRead.{all_pages, has_storage, pages_are_all}
use Rattle.ledger_rows.proofs.parts.read_core.Goals as goal

pub returns-then-not-put_pages-clause-all : goal.returns-then-not-put_pages-clause-all
returns-then-not-put_pages-clause-all g c = λ s size characters long are.
    let u = g.C.Core.cells c.in_ok-core.core in
    let many : length u ≡ length s = ap (λ (x : Storage). length x) c.in_ok-core.ensures ∙ length-replicate (positions_of c.in-Some.size) _ ∙ c.in-Some.ensures.found ∙ long in
    absurd (true≢false (sym (c.put_pages.ensures.are.1 (all_pages s characters c.args.pages.now u many are)) ∙ c.if-not-put_pages.true))

pub returns-clause-all : goal.returns-clause-all
returns-clause-all g c = λ s size characters long are. (
  c.put_pages.ensures.put c.if-not-put_pages.false
      ∙ ap (λ (u : Storage). with_pages u c.args.pages.now) (c.in_ok-core.ensures ∙ ap (λ n. blank_storage n) (c.in-Some.ensures.found ∙ long))
      ∙ pages_are_all s characters c.args.pages.now size.0 size.1 are,
  refl,
)

pub returns-clause-only : goal.returns-clause-only
returns-clause-only g c =
    has_storage c.args.positions c.in-Some.size c.args.pages.now (g.C.Core.cells c.in_ok-core.core) (g.C.Core.cells c.put_pages.new.core) c.in-Some.ensures.found c.in_ok-core.ensures c.put_pages.ensures.size
    (c.put_pages.ensures.are.0 c.if-not-put_pages.false) (c.put_pages.ensures.put c.if-not-put_pages.false)
