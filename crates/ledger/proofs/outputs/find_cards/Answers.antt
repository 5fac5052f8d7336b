use Rattle.std.proofs.Common.{ap, subst, sym, Some, ◌∙◌, arith}
use Rattle.sqlite.specs.State.{HasCleanDisk}
use Rattle.ledger_tables.specs.Cells.{Pockets}
use Rattle.ledger_tables.specs.Named.{ArePockets}
use Rattle.ledger_tables.specs.Steps.{seen}
use Rattle.office.specs.Jobs.{picture}
use Rattle.ledger_rows.specs.declared.progress.Progress.{Progress}
use Rattle.ledger.specs.Standing.{tables_of, cards_of, pockets_of}
use Rattle.ledger.proofs.BureauResults.{store_passed}
use Rattle.ledger.proofs.ListFaults.{counts_cards, failed_second, failed_third, pockets_read}
use Rattle.ledger.proofs.Offices.{still, if_ok_then, job_is}
use Rattle.ledger.proofs.outputs.find_cards.Goals as goal

pub returns-clause-found : goal.returns-clause-found
returns-clause-found g c clean inside = if_ok_then _ _ c.read_cards.result (λ cards read office s.
    let first = seen g.S.Store c.find_progress.new.tables in
    let mid = seen g.S.Store c.find_cards.new.self in
    let new = seen g.S.Store c.find_pockets.new.self in
    let early : HasCleanDisk mid = omega (arith, c.find_pockets.ensures.step.survives.clean) in
    let earlier : HasCleanDisk first = omega (arith, early, c.find_cards.ensures.step.survives.clean) in
    let progress = c.in_ok-progress.ensures.found earlier inside office s in
    let on = c.in_ok-progress.ensures.step.frame earlier inside in
    let rows = c.in_ok-rows.ensures.found early on.inside (tables_of office) progress.0.tables in
    let further = c.in_ok-rows.ensures.step.frame early on.inside in
    let after = still first mid office rows.0 progress.0 in
    let pockets = c.in_ok-pockets.ensures.found clean further.inside (tables_of office) after.tables in (
      still mid new office pockets.0 after,
      λ job named.
          read (picture job).works.units.punch.cards (job_is c.args.name.customer.now c.args.name.number office job s.jobs named).cards (c.as_slice.ensures.value ∙ rows.1 ∙ ap cards_of named)
          (subst (λ rows. ArePockets rows (pockets_of (Some job))) (sym c.as_slice-2.ensures.value) (subst (λ (p : Pockets). ArePockets c.in_ok-pockets.pockets.items p) (ap pockets_of named) pockets.1)),
    )) c.read_cards.ensures.cards

pub returns-in_err-progress-clause-failed : goal.returns-in_err-progress-clause-failed
returns-in_err-progress-clause-failed g c job clean inside store office has is =
    c.in_err-progress.ensures.failed job clean inside (store_passed c.from_residual.result _ c.from_residual.ensures.1 store) office has is

pub returns-in_err-rows-clause-failed : goal.returns-in_err-rows-clause-failed
returns-in_err-rows-clause-failed g c job clean inside store office has is =
    failed_second _ _ _ c.find_progress.ensures.step.survives c.find_cards.ensures.step.survives clean (λ early opened.
    let on = c.in_ok-progress.ensures.step.frame early inside in
    let after = (c.in_ok-progress.ensures.found early inside office (has opened)).0 in
    c.in_err-rows.ensures.failed clean on.inside (store_passed c.from_residual-in_err-rows.result _ c.from_residual-in_err-rows.ensures.1 store) (tables_of office) (λ _. after.tables) tt)

pub returns-in_err-pockets-clause-failed : goal.returns-in_err-pockets-clause-failed
returns-in_err-pockets-clause-failed g c job clean inside store office has is =
    failed_third _ _ _ _ c.find_progress.ensures.step.survives c.find_cards.ensures.step.survives c.find_pockets.ensures.step.survives clean (λ early earlier opened.
    let first = seen g.S.Store c.find_progress.new.tables in
    let mid = seen g.S.Store c.find_cards.new.self in
    let s = has opened in
    let on = c.in_ok-progress.ensures.step.frame earlier inside in
    let then = (c.in_ok-progress.ensures.found earlier inside office s).0 in
    let further = c.in_ok-rows.ensures.step.frame early on.inside in
    let rows = c.in_ok-rows.ensures.found early on.inside (tables_of office) then.tables in
    let after = still first mid office rows.0 then in
    let kept = job_is c.args.name.customer.now c.args.name.number office job s.jobs is in
    c.in_err-pockets.ensures.failed clean further.inside (store_passed c.from_residual-in_err-pockets.result _ c.from_residual-in_err-pockets.ensures.1 store) (tables_of office) (λ _. after.tables) (pockets_read job (c.commands_keep_jobs.ensures.in_range job kept.job).machine _ is))

pub returns-clause-failed : goal.returns-clause-failed
returns-clause-failed g c job clean inside store office has is =
    let first = seen g.S.Store c.find_progress.new.tables in
    let mid = seen g.S.Store c.find_cards.new.self in
    let early : HasCleanDisk mid = omega (arith, clean, c.find_pockets.ensures.step.survives.clean) in
    let earlier : HasCleanDisk first = omega (arith, early, c.find_cards.ensures.step.survives.clean) in
    let s = has (c.in_ok-progress.ensures.step.opened earlier) in
    let progress = c.in_ok-progress.ensures.found earlier inside office s in
    let on = c.in_ok-progress.ensures.step.frame earlier inside in
    let rows = c.in_ok-rows.ensures.found early on.inside (tables_of office) progress.0.tables in
    let further = c.in_ok-rows.ensures.step.frame early on.inside in
    let after = still first mid office rows.0 progress.0 in
    let pockets = c.in_ok-pockets.ensures.found clean further.inside (tables_of office) after.tables in
    let kept = job_is c.args.name.customer.now c.args.name.number office job s.jobs is in
    absurd (c.read_cards.ensures.store store (picture job).works.units.punch.cards kept.cards (c.as_slice.ensures.value ∙ rows.1 ∙ ap cards_of is)
    (subst (λ rows. ArePockets rows (pockets_of (Some job))) (sym c.as_slice-2.ensures.value) (subst (λ (p : Pockets). ArePockets c.in_ok-pockets.pockets.items p) (ap pockets_of is) pockets.1))
    (counts_cards job ∙ ap (λ (p : Progress). p.cards) (sym (progress.1 job is))))
