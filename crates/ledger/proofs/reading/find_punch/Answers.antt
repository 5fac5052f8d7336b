use Rattle.std.proofs.Common.{◌≡◌, sym, ap, ◌∙◌}
use Rattle.office.specs.Jobs.{picture}
use Rattle.ledger_rows.specs.Columns.{profile_row}
use Rattle.ledger_tables.specs.Steps.{seen}
use Rattle.ledger.specs.Saving.{job_in}
use Rattle.office_tables.specs.Standing.{tables_of, profile_of}
use Rattle.ledger.proofs.BureauResults.{store_passed}
use Rattle.ledger.proofs.Offices.{still, if_ok_then}
use Rattle.ledger.proofs.ReadFaults.{err_is, failed_unless, not_there, profile_read}
use Rattle.office_tables.proofs.ReadingLemmas.{some_is}
use Rattle.ledger.proofs.reading.find_punch.Goals as goal

pub returns-clause-found : goal.returns-clause-found
returns-clause-found g c clean inside = if_ok_then _ _ c.stored-2.result (λ punch is office s.
    let old = seen g.S.Store c.args.tables.now in
    let new = seen g.S.Store c.find_profile.new.self in
    let found = c.in_ok-found.ensures.found clean inside (tables_of office) s.tables in (
      still old new office found.0 s,
      λ job is_job.
          let row : c.in_ok-row.row ≡ profile_row (picture job).works.units.punch = some_is (sym c.in_ok-row.ensures.some ∙ found.1 ∙ ap profile_of is_job) in
          some_is (sym is ∙ c.read_punch.ensures.all (picture job).works.units.punch row),
    )) c.stored-2.ensures.some

pub returns-in_err-found-clause-failed : goal.returns-in_err-found-clause-failed
returns-in_err-found-clause-failed g c job clean inside store office has is =
    c.in_err-found.ensures.failed clean inside (store_passed c.from_residual.result _ c.from_residual.ensures.1 store) (tables_of office) (λ opened. (has opened).tables) (profile_read (job_in c.args.name office))

pub returns-in_err-row-clause-failed : goal.returns-in_err-row-clause-failed
returns-in_err-row-clause-failed g c job clean inside store office has is =
    failed_unless (seen g.S.Store c.args.tables.now) (seen g.S.Store c.find_profile.new.self) (λ opened.
    let found = c.in_ok-found.ensures.found clean inside (tables_of office) (has opened).tables in
    absurd (not_there c.in_err-row.ensures.none.1 (found.1 ∙ ap profile_of is)))

pub returns-clause-failed : goal.returns-clause-failed
returns-clause-failed g c job clean inside store office has is =
    failed_unless (seen g.S.Store c.args.tables.now) (seen g.S.Store c.find_profile.new.self) (λ opened.
    let found = c.in_ok-found.ensures.found clean inside (tables_of office) (has opened).tables in
    let row : c.in_ok-row.row ≡ profile_row (picture job).works.units.punch = some_is (sym c.in_ok-row.ensures.some ∙ found.1 ∙ ap profile_of is) in
    absurd (not_there (err_is _ _ c.stored-2.result store c.stored-2.ensures.none).1 (c.read_punch.ensures.all (picture job).works.units.punch row)))
