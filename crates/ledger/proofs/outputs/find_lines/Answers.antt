use Rattle.std.proofs.Common.{ap, subst, sym, ◌∙◌, arith}
use Rattle.sqlite.specs.State.{HasCleanDisk}
use Rattle.ledger_tables.specs.Steps.{seen}
use Rattle.office.specs.Jobs.{picture}
use Rattle.units.specs.Ranges.{HasPrinted}
use Rattle.units.specs.declared.carriage.Carriage.{Carriage}
use Rattle.ledger_rows.specs.declared.progress.Progress.{Progress}
use Rattle.ledger.specs.Found.{printed_with}
use Rattle.machine.specs.Run.{lines_of}
use Rattle.ledger.specs.Standing.{tables_of}
use Rattle.ledger.specs.Standing as standing
use Rattle.ledger.proofs.BureauResults.{store_passed}
use Rattle.ledger.proofs.ListFaults.{counts_lines, failed_second, failed_third, lines_read, printed_alone}
use Rattle.ledger.proofs.Offices.{still, if_ok_then, job_is}
use Rattle.ledger.proofs.outputs.find_lines.Goals as goal

pub returns-clause-found : goal.returns-clause-found
returns-clause-found g c clean inside = if_ok_then _ _ c.read_lines.result (λ lines read office s.
    let first = seen g.S.Store c.find_progress.new.tables in
    let mid = seen g.S.Store c.find_carriage.new.tables in
    let new = seen g.S.Store c.find_lines.new.self in
    let early : HasCleanDisk mid = omega (arith, c.find_lines.ensures.step.survives.clean) in
    let earlier : HasCleanDisk first = omega (arith, early, c.find_carriage.ensures.step.survives.clean) in
    let progress = c.in_ok-progress.ensures.found earlier inside office s in
    let on = c.in_ok-progress.ensures.step.frame earlier inside in
    let carriage = c.in_ok-carriage.ensures.found early on.inside office progress.0 in
    let further = c.in_ok-carriage.ensures.step.frame early on.inside in
    let found = c.in_ok-rows.ensures.found clean further.inside (tables_of office) carriage.0.tables in
    (still mid new office found.0 carriage.0, λ job named. read (lines_of (picture job)) (job_is c.args.name.customer.now c.args.name.number office job s.jobs named).lines (c.as_slice.ensures.value ∙ found.1 ∙ ap standing.lines_of named))) c.read_lines.ensures.lines

pub returns-in_err-progress-clause-failed : goal.returns-in_err-progress-clause-failed
returns-in_err-progress-clause-failed g c job clean inside store office has is =
    c.in_err-progress.ensures.failed job clean inside (store_passed c.from_residual.result _ c.from_residual.ensures.1 store) office has is

pub returns-in_err-carriage-clause-failed : goal.returns-in_err-carriage-clause-failed
returns-in_err-carriage-clause-failed g c job clean inside store office has is =
    failed_second _ _ _ c.find_progress.ensures.step.survives c.find_carriage.ensures.step.survives clean (λ early opened.
    let on = c.in_ok-progress.ensures.step.frame early inside in
    let after = (c.in_ok-progress.ensures.found early inside office (has opened)).0 in
    c.in_err-carriage.ensures.failed job clean on.inside (store_passed c.from_residual-in_err-carriage.result _ c.from_residual-in_err-carriage.ensures.1 store) office (λ _. after) is)

pub returns-in_err-rows-clause-failed : goal.returns-in_err-rows-clause-failed
returns-in_err-rows-clause-failed g c job clean inside store office has is =
    failed_third _ _ _ _ c.find_progress.ensures.step.survives c.find_carriage.ensures.step.survives c.find_lines.ensures.step.survives clean (λ early earlier opened.
    let s = has opened in
    let on = c.in_ok-progress.ensures.step.frame earlier inside in
    let then = (c.in_ok-progress.ensures.found earlier inside office s).0 in
    let further = c.in_ok-carriage.ensures.step.frame early on.inside in
    let after = (c.in_ok-carriage.ensures.found early on.inside office then).0 in
    let kept = job_is c.args.name.customer.now c.args.name.number office job s.jobs is in
    c.in_err-rows.ensures.failed clean further.inside (store_passed c.from_residual-in_err-rows.result _ c.from_residual-in_err-rows.ensures.1 store) (tables_of office) (λ _. after.tables)
    (lines_read job (c.commands_keep_jobs.ensures.in_range job kept.job).machine _ is))

pub returns-clause-failed : goal.returns-clause-failed
returns-clause-failed g c job clean inside store office has is =
    let first = seen g.S.Store c.find_progress.new.tables in
    let mid = seen g.S.Store c.find_carriage.new.tables in
    let early : HasCleanDisk mid = omega (arith, clean, c.find_lines.ensures.step.survives.clean) in
    let earlier : HasCleanDisk first = omega (arith, early, c.find_carriage.ensures.step.survives.clean) in
    let s = has (c.in_ok-progress.ensures.step.opened earlier) in
    let progress = c.in_ok-progress.ensures.found earlier inside office s in
    let on = c.in_ok-progress.ensures.step.frame earlier inside in
    let carriage = c.in_ok-carriage.ensures.found early on.inside office progress.0 in
    let further = c.in_ok-carriage.ensures.step.frame early on.inside in
    let found = c.in_ok-rows.ensures.found clean further.inside (tables_of office) carriage.0.tables in
    let kept = job_is c.args.name.customer.now c.args.name.number office job s.jobs is in
    let printed = printed_alone job (c.commands_keep_jobs.ensures.in_range job kept.job).machine in
    absurd (c.read_lines.ensures.store store (lines_of (picture job)) kept.lines (c.as_slice.ensures.value ∙ found.1 ∙ ap standing.lines_of is)
    (subst (λ (at : Carriage). HasPrinted 0 (printed_with at (lines_of (picture job)))) (sym (carriage.1 job is)) printed)
    (counts_lines job ∙ ap (λ (p : Progress). p.lines) (sym (progress.1 job is))))
