use Rattle.std.proofs.Common.{◌≡◌, sym, ap, ◌∙◌}
use Rattle.office.specs.Jobs.{picture}
use Rattle.ledger_rows.specs.Columns.{state_row}
use Rattle.ledger_rows.proofs.PartPictures.{carriage_line, has_carriage}
use Rattle.ledger_tables.specs.Steps.{seen}
use Rattle.ledger_tables.specs.declared.faults.Fault.TheVariants.{Store}
use Rattle.ledger.specs.Standing.{tables_of, state_of}
use Rattle.ledger.proofs.BureauResults.{store_passed}
use Rattle.ledger.proofs.ListFaults.{reads_deck}
use Rattle.ledger.proofs.Offices.{still, if_ok_then, job_is}
use Rattle.ledger.proofs.ReadFaults.{err_is, failed_unless, not_there, state_read}
use Rattle.office_tables.proofs.ReadingLemmas.{some_is}
use Rattle.ledger.proofs.outputs.find_carriage.Goals as goal

pub returns-clause-found : goal.returns-clause-found
returns-clause-found g c clean inside = if_ok_then _ _ c.stored-2.result (λ carriage is office s.
    let old = seen g.S.Store c.args.tables.now in
    let new = seen g.S.Store c.find_state.new.self in
    let found = c.in_ok-found.ensures.found clean inside (tables_of office) s.tables in (
      still old new office found.0 s,
      λ job is_job.
          let kept = job_is c.args.name.customer.now c.args.name.number office job s.jobs is_job in
          let range = (c.commands_keep_jobs.ensures.in_range job kept.job).machine in
          let row : c.in_ok-row.row ≡ state_row (picture job) = some_is (sym c.in_ok-row.ensures.some ∙ found.1 ∙ ap state_of is_job) in
          some_is (sym is ∙ c.read_carriage.ensures.all (picture job).works.units.printer.carriage (carriage_line (picture job) range) (has_carriage c.in_ok-row.row (picture job) row)),
    )) c.stored-2.ensures.some

pub returns-in_err-found-clause-failed : goal.returns-in_err-found-clause-failed
returns-in_err-found-clause-failed g c job clean inside store office has is = failed_unless (seen g.S.Store c.args.tables.now) (seen g.S.Store c.find_state.new.self) (λ opened.
    let kept = job_is c.args.name.customer.now c.args.name.number office job (has opened).jobs is in
    let range = (c.commands_keep_jobs.ensures.in_range job kept.job).machine in
    c.in_err-found.ensures.failed clean inside (store_passed c.from_residual.result _ c.from_residual.ensures.1 store) (tables_of office) (λ on. (has on).tables) (state_read _ job is range (reads_deck job kept.job)))

pub returns-in_err-row-clause-failed : goal.returns-in_err-row-clause-failed
returns-in_err-row-clause-failed g c job clean inside store office has is =
    let s = has (c.in_ok-found.ensures.step.opened clean) in
    let found = c.in_ok-found.ensures.found clean inside (tables_of office) s.tables in
    absurd (not_there c.in_err-row.ensures.none.1 (found.1 ∙ ap state_of is))

pub returns-clause-failed : goal.returns-clause-failed
returns-clause-failed g c job clean inside store office has is =
    let s = has (c.in_ok-found.ensures.step.opened clean) in
    let found = c.in_ok-found.ensures.found clean inside (tables_of office) s.tables in
    let kept = job_is c.args.name.customer.now c.args.name.number office job s.jobs is in
    let range = (c.commands_keep_jobs.ensures.in_range job kept.job).machine in
    let row : c.in_ok-row.row ≡ state_row (picture job) = some_is (sym c.in_ok-row.ensures.some ∙ found.1 ∙ ap state_of is) in
    let none = err_is _ Store c.stored-2.result store c.stored-2.ensures.none in
    absurd (not_there none.1 (c.read_carriage.ensures.all (picture job).works.units.printer.carriage (carriage_line (picture job) range) (has_carriage c.in_ok-row.row (picture job) row)))
