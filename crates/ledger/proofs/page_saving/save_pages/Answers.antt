use Rattle.std.proofs.Common.{◌≡◌, ◌+◌, ◌/◌, ◌<◌, ◌∙◌, ◌++◌, false, [], ◌∷◌, ap, arith, get_or, length, subst, sym, take}
use Rattle.std.proofs.lemmas.List.{take_more, take_all}
use Rattle.sqlite.specs.State.{HasCleanDisk}
use Rattle.core_store.specs.Pages.{cells_of, page_count}
use Rattle.ledger_tables.specs.Cells.{Pages}
use Rattle.ledger_tables.specs.Steps.{seen}
use Rattle.ledger_tables.specs.Tables.{HoldsAs, with_pages}
use Rattle.ledger_tables.proofs.Stepping.{step_still, step_then, step_ends}
use Rattle.ledger.proofs.PageMixes.{is_among, mixed, pages_still, not_among, page_before, page_put, all_put, planes_fit}
use Rattle.ledger.proofs.page_saving.save_pages.Goals as goal

pub loop-place-preserved : goal.loop-place-preserved
loop-place-preserved g c =
    let mid = seen g.S.Store c.loop-place.tables in
    let last = seen g.S.Store c.write_page.new.tables in
    let did = c.in_ok-write_page.ensures in
    let was = c.loop-place.invariant in
    let early = λ (clean : HasCleanDisk last). let h : HasCleanDisk mid = omega (arith, c.write_page.ensures.step.survives.clean) in h in
    let old = cells_of c.args.earlier.now in
    let new = cells_of c.args.core.now in
    let place = c.loop-place.place in
    let changed = c.in_ok-changed.changed.items in
    let page = c.index-page.result.now in
    let within : place < length changed = omega (arith, c.loop-place-test.true) in
    let more : take (place + 1) changed ≡ take place changed ++ page ∷ [] = take_more changed place page within ∙ ap (λ k. take place changed ++ k ∷ []) (sym c.index-page.ensures) in
    let listed : page < page_count old = subst (λ k. k < page_count old) (sym c.index-page.ensures) (c.in_ok-changed.ensures.differ place page within).0 in
    let counts : page_count old ≡ page_count new = ap (λ n. n / 100) c.requires in
    let less : page < page_count new = omega (arith, listed, counts) in
    let out : is_among page (take place changed) ≡ false = not_among page place changed (λ i before inside. subst (λ k. get_or changed i page < k) (sym c.index-page.ensures) (c.in_ok-changed.ensures.rise i place page before within)) in
    record {
      step = step_ends g.S.Store _ _ _ _ (step_then g.S.Store _ _ _ _ _ was.step did.step);
      saved = λ clean inside there version t holds has.
          let on = was.step.frame (early clean) inside in
          let before = was.saved (early clean) inside there version t holds has in
          let had = page_before t c.args.name.customer.now c.args.name.number old new (take place changed) page _ out listed c.page_bytes-before.ensures in
          let written = rw c.from.ensures at (did.written clean on.inside there version (with_pages c.args.name.customer.now c.args.name.number (mixed old new (take place changed)) t) before) in
          let after = written had in
          page_put there version last.now t c.args.name.customer.now c.args.name.number old new (take place changed) (take (place + 1) changed) page _ more less c.page_bytes-bytes.ensures after;
    }

pub returns-clause-saved : goal.returns-clause-saved
returns-clause-saved g c clean inside there version t holds has =
    let old = cells_of c.args.earlier.now in
    let new = cells_of c.args.core.now in
    let changed = c.in_ok-changed.changed.items in
    let place = c.loop-place.place in
    let all : mixed old new (take place changed) ≡ _ = ap (mixed old new) (take_all place changed (omega (arith, c.loop-place-test.false))) ∙ all_put old new changed c.requires c.in_ok-changed.ensures in
    subst (λ (p : Pages). HoldsAs there version (seen g.S.Store c.loop-place.tables).now (with_pages c.args.name.customer.now c.args.name.number p t)) all (c.loop-place.invariant.saved clean inside there version t holds has)

pub loop-place-init : goal.loop-place-init
loop-place-init g c = record {
  step = step_still g.S.Store c.args.tables.now 0;
  saved = λ clean inside there version t holds has. pages_still there version _ t c.args.name.customer.now c.args.name.number _ holds has;
}

pub page_bytes-before-requires-clause-limit : goal.page_bytes-before-requires-clause-limit
page_bytes-before-requires-clause-limit g c = planes_fit c.args.earlier.now

pub page_bytes-bytes-requires-clause-limit : goal.page_bytes-bytes-requires-clause-limit
page_bytes-bytes-requires-clause-limit g c = planes_fit c.args.core.now
