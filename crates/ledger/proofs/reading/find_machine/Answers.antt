use Rattle.std.proofs.Common.{◌≡◌, ◌∙◌, ap, sym, subst, arith, rules}
use Rattle.cards.specs.Decks.{IsDeck}
use Rattle.sqlite.specs.State.{HasCleanDisk}
use Rattle.ledger_rows.specs.Pages.{rows_of}
use Rattle.ledger_tables.specs.Named.{ArePages}
use Rattle.ledger_tables.specs.Steps.{seen}
use Rattle.machine.specs.Earlier.{without_outputs}
use Rattle.office.specs.Jobs.{picture}
use Rattle.office_tables.specs.Standing.{tables_of, state_of, pages_of}
use Rattle.ledger.proofs.BureauResults.{store_passed}
use Rattle.ledger.proofs.Offices.{still, if_ok_then, job_is}
use Rattle.ledger.proofs.ReadFaults.{failed_later, failed_unless, not_there, pages_read, state_read}
use Rattle.ledger.proofs.StateRows.{row_alone}
use Rattle.office_tables.proofs.ReadingLemmas.{some_is, picture_deck, picture_size}
use Rattle.ledger.proofs.reading.find_machine.Goals as goal

pub returns-clause-found : goal.returns-clause-found
returns-clause-found g c clean inside = if_ok_then _ _ c.machine_of.result (λ machine made office s.
    let old = seen g.S.Store c.args.tables.now in
    let mid = seen g.S.Store c.find_state.new.self in
    let new = seen g.S.Store c.find_pages.new.self in
    let early : HasCleanDisk mid = omega (arith, c.find_pages.ensures.step.survives.clean) in
    let found = c.in_ok-found.ensures.found early inside (tables_of office) s.tables in
    let on = c.in_ok-found.ensures.step.frame early inside in
    let here = still old mid office found.0 s in
    let rest = c.in_ok-pages.ensures.found clean on.inside (tables_of office) here.tables in
    let rows : c.as_slice.result.now ≡ c.in_ok-pages.pages.items = search rules in (
      still mid new office rest.0 here,
      λ job is size media.
          let kept = job_is c.args.name.customer.now c.args.name.number office job s.jobs is in
          let m = without_outputs (picture job) in
          let range = (c.commands_keep_jobs.ensures.in_range job kept.job).machine in
          let state = some_is (sym c.in_ok-row.ensures.some ∙ found.1 ∙ ap state_of is) ∙ sym (row_alone (picture job)) in
          let pages = subst (λ o. ArePages c.in_ok-pages.pages.items (pages_of o)) is rest.1 in
          made m (c.outputs_are_put_back.ensures.in_range (picture job) range) kept.storage (record {
            size_is = size ∙ sym (picture_size c.runs_only_add.ensures.size job);
            state = record { row_is = state; deck = media.deck; switches = media.switches; punch = media.punch; lines = media.lines };
            pages_are = subst (λ xs. ArePages xs (rows_of m.works.storage)) (sym rows) pages;
          }),
    )) c.machine_of.ensures.machine

pub returns-in_err-found-clause-failed : goal.returns-in_err-found-clause-failed
returns-in_err-found-clause-failed g c job size media clean inside store office has is =
    failed_unless (seen g.S.Store c.args.tables.now) (seen g.S.Store c.find_state.new.self) (λ opened.
    let kept = job_is c.args.name.customer.now c.args.name.number office job (has opened).jobs is in
    let range = (c.commands_keep_jobs.ensures.in_range job kept.job).machine in
    let deck = subst IsDeck (sym (picture_deck c.runs_only_add.ensures.deck job)) kept.job.loaded in
    c.in_err-found.ensures.failed clean inside (store_passed c.from_residual.result _ c.from_residual.ensures.1 store) (tables_of office) (λ on. (has on).tables) (state_read _ job is range deck))

pub returns-in_err-row-clause-failed : goal.returns-in_err-row-clause-failed
returns-in_err-row-clause-failed g c job size media clean inside store office has is =
    failed_unless (seen g.S.Store c.args.tables.now) (seen g.S.Store c.find_state.new.self) (λ opened.
    let found = c.in_ok-found.ensures.found clean inside (tables_of office) (has opened).tables in
    absurd (not_there c.in_err-row.ensures.none.1 (found.1 ∙ ap state_of is)))

pub returns-in_err-pages-clause-failed : goal.returns-in_err-pages-clause-failed
returns-in_err-pages-clause-failed g c job size media clean inside store office has is =
    let old = seen g.S.Store c.args.tables.now in
    let mid = seen g.S.Store c.find_state.new.self in
    let new = seen g.S.Store c.find_pages.new.self in
    let early : HasCleanDisk mid = omega (arith, clean, c.find_pages.ensures.step.survives.clean) in
    failed_unless old new (λ opened.
    let s = has opened in
    let found = c.in_ok-found.ensures.found early inside (tables_of office) s.tables in
    let on = c.in_ok-found.ensures.step.frame early inside in
    let here = still old mid office found.0 s in
    let kept = job_is c.args.name.customer.now c.args.name.number office job s.jobs is in
    let range = (c.commands_keep_jobs.ensures.in_range job kept.job).machine in
    failed_later old mid new c.find_state.ensures.step.survives c.find_pages.ensures.step.survives early opened
    (c.in_err-pages.ensures.failed clean on.inside (store_passed c.from_residual-in_err-pages.result _ c.from_residual-in_err-pages.ensures.1 store) (tables_of office) (λ on. here.tables) (pages_read _ job is range)))

pub returns-clause-failed : goal.returns-clause-failed
returns-clause-failed g c job size media clean inside store office has is =
    let old = seen g.S.Store c.args.tables.now in
    let mid = seen g.S.Store c.find_state.new.self in
    let new = seen g.S.Store c.find_pages.new.self in
    let early : HasCleanDisk mid = omega (arith, clean, c.find_pages.ensures.step.survives.clean) in
    failed_unless old new (λ opened.
    let s = has opened in
    let found = c.in_ok-found.ensures.found early inside (tables_of office) s.tables in
    let on = c.in_ok-found.ensures.step.frame early inside in
    let here = still old mid office found.0 s in
    let rest = c.in_ok-pages.ensures.found clean on.inside (tables_of office) here.tables in
    let rows : c.as_slice.result.now ≡ c.in_ok-pages.pages.items = search rules in
    let kept = job_is c.args.name.customer.now c.args.name.number office job s.jobs is in
    let m = without_outputs (picture job) in
    let range = (c.commands_keep_jobs.ensures.in_range job kept.job).machine in
    let state = some_is (sym c.in_ok-row.ensures.some ∙ found.1 ∙ ap state_of is) ∙ sym (row_alone (picture job)) in
    let pages = subst (λ o. ArePages c.in_ok-pages.pages.items (pages_of o)) is rest.1 in
    absurd (c.machine_of.ensures.store store m (c.outputs_are_put_back.ensures.in_range (picture job) range) kept.storage (record {
      size_is = size ∙ sym (picture_size c.runs_only_add.ensures.size job);
      state = record { row_is = state; deck = media.deck; switches = media.switches; punch = media.punch; lines = media.lines };
      pages_are = subst (λ xs. ArePages xs (rows_of m.works.storage)) (sym rows) pages;
    })))
