use Rattle.std.proofs.Common.{◌≡◌, ap, map, ◌∙◌}
use Rattle.std.specs.List.{All}
use Rattle.ledger_tables.specs.Steps.{seen}
use Rattle.office.specs.Jobs.{HasSwitches}
use Rattle.office_tables.specs.Standing.{tables_of, stretch_row, stretches_of}
use Rattle.ledger.proofs.BureauResults.{store_passed}
use Rattle.ledger.proofs.Offices.{still, if_ok_then, job_is}
use Rattle.ledger.proofs.ReadFaults.{failed_unless, stretches_read, stretches_there}
use Rattle.office_tables.proofs.ReadingLemmas.{ok_is}
use Rattle.ledger.proofs.reading.find_stretches.Goals as goal

pub returns-clause-found : goal.returns-clause-found
returns-clause-found g c clean inside = if_ok_then _ _ c.told.result (λ stretches is office s.
    let old = seen g.S.Store c.args.tables.now in
    let new = seen g.S.Store c.find_stretches.new.self in
    let found = c.in_ok-rows.ensures.found clean inside (tables_of office) s.tables in
    let here = still old new office found.0 s in
    (here, λ job named. (ok_is _ _ c.read_stretches.result is c.read_stretches.ensures.all job.stretches (job_is c.args.name.customer.now c.args.name.number office job s.jobs named).job.stretches.switches (c.as_slice.ensures.value ∙ found.1 ∙ ap stretches_of named)).0)) c.told.ensures.found

pub returns-clause-rows : goal.returns-clause-rows
returns-clause-rows g c clean inside = if_ok_then _ _ c.told.result (λ stretches is t holds.
    let found = c.in_ok-rows.ensures.found clean inside t holds in
    let read : (map stretch_row stretches.items ≡ c.as_slice.result.now) × All HasSwitches stretches.items = ok_is _ _ c.read_stretches.result is c.read_stretches.ensures.only in
    (found.0, read.0 ∙ c.as_slice.ensures.value ∙ found.1)) c.told.ensures.found

pub returns-in_err-rows-clause-failed : goal.returns-in_err-rows-clause-failed
returns-in_err-rows-clause-failed g c clean inside store office has any =
    failed_unless (seen g.S.Store c.args.tables.now) (seen g.S.Store c.find_stretches.new.self) (λ opened.
    c.in_err-rows.ensures.failed clean inside (store_passed c.from_residual.result _ c.from_residual.ensures.1 store) (tables_of office) (λ on. (has on).tables) (stretches_read c.args.name.customer.now c.args.name.number office (has opened).jobs))

pub returns-clause-failed : goal.returns-clause-failed
returns-clause-failed g c clean inside store office has any =
    failed_unless (seen g.S.Store c.args.tables.now) (seen g.S.Store c.find_stretches.new.self) (λ opened.
    let s = has opened in
    let found = c.in_ok-rows.ensures.found clean inside (tables_of office) s.tables in
    let there = stretches_there c.args.name.customer.now c.args.name.number office s.jobs in
    let read = ok_is _ _ c.read_stretches.result (c.told.ensures.store store) c.read_stretches.ensures.all there.0 there.1 (c.as_slice.ensures.value ∙ found.1 ∙ there.2) in
    absurd (let no = read.1 in cc))
