use Rattle.std.proofs.Common.{arith}
use Rattle.sqlite.specs.State.{HasCleanDisk}
use Rattle.ledger_tables.specs.Steps.{seen}
use Rattle.office_tables.specs.Standing.{tables_of}
use Rattle.ledger.proofs.BureauResults.{store_passed}
use Rattle.ledger.proofs.Offices.{job_is, row_found, row_none, still}
use Rattle.ledger.proofs.ReadFaults.{failed_later, job_read}
use Rattle.ledger.proofs.reading.find_handed.Goals as goal

pub returns-in_ok-switches-in-Some-clause-found : goal.returns-in_ok-switches-in-Some-clause-found
returns-in_ok-switches-in-Some-clause-found g c clean inside office s =
    let old = seen g.S.Store c.args.tables.now in
    let mid = seen g.S.Store c.find_job.new.self in
    let early : HasCleanDisk mid = omega (arith, c.first_switches.ensures.step.survives.clean) in
    let found = c.in_ok-row.ensures.found early inside (tables_of office) s.tables in
    let on = c.in_ok-row.ensures.step.frame early inside in
    let it = row_found c.args.name.customer.now c.args.name.number office c.in_ok-row.field-0 c.in-Some.row found.1 c.in-Some.is in
    let rest = c.in_ok-switches-in-Some.ensures.found clean on.inside office (still old mid office found.0 s) in
    (rest.0, (it.0, it.1, it.2, rest.1 it.0 it.1))

pub returns-in-None-clause-found : goal.returns-in-None-clause-found
returns-in-None-clause-found g c clean inside office s =
    let old = seen g.S.Store c.args.tables.now in
    let new = seen g.S.Store c.find_job.new.self in
    let found = c.in_ok-row.ensures.found clean inside (tables_of office) s.tables in
    (still old new office found.0 s, row_none c.args.name.customer.now c.args.name.number office c.in_ok-row.field-0 found.1 c.in-None.is)

pub returns-in_err-row-clause-failed : goal.returns-in_err-row-clause-failed
returns-in_err-row-clause-failed g c clean inside store office has any =
    c.in_err-row.ensures.failed clean inside (store_passed c.from_residual.result _ c.from_residual.ensures.1 store) (tables_of office) (λ opened. (has opened).tables) (job_read c.args.name.customer.now c.args.name.number office)

pub returns-in_err-check_handed-in-Some-clause-failed : goal.returns-in_err-check_handed-in-Some-clause-failed
returns-in_err-check_handed-in-Some-clause-failed g c clean inside store office has any =
    let early : HasCleanDisk (seen g.S.Store c.find_job.new.self) = clean in
    let s = has (c.in_ok-row.ensures.step.opened early) in
    let found = c.in_ok-row.ensures.found early inside (tables_of office) s.tables in
    let it = row_found c.args.name.customer.now c.args.name.number office c.in_ok-row.field-0 c.in-Some.row found.1 c.in-Some.is in
    let kept = job_is c.args.name.customer.now c.args.name.number office it.0 s.jobs it.1 in
    absurd (c.in_err-check_handed-in-Some.ensures.store (store_passed c.from_residual-in_err-check_handed-in-Some.result _ c.from_residual-in_err-check_handed-in-Some.ensures.1 store) it.0 kept it.2)

pub returns-in_err-switches-in-Some-clause-failed : goal.returns-in_err-switches-in-Some-clause-failed
returns-in_err-switches-in-Some-clause-failed g c clean inside store office has any =
    let old = seen g.S.Store c.args.tables.now in
    let mid = seen g.S.Store c.find_job.new.self in
    let new = seen g.S.Store c.first_switches.new.tables in
    let early : HasCleanDisk mid = omega (arith, clean, c.first_switches.ensures.step.survives.clean) in
    let s = has (c.in_ok-row.ensures.step.opened early) in
    let found = c.in_ok-row.ensures.found early inside (tables_of office) s.tables in
    let on = c.in_ok-row.ensures.step.frame early inside in
    let it = row_found c.args.name.customer.now c.args.name.number office c.in_ok-row.field-0 c.in-Some.row found.1 c.in-Some.is in
    failed_later old mid new c.find_job.ensures.step.survives c.first_switches.ensures.step.survives early (c.in_ok-row.ensures.step.opened early)
    (c.in_err-switches-in-Some.ensures.failed it.0 clean on.inside (store_passed c.from_residual-in_err-switches-in-Some.result _ c.from_residual-in_err-switches-in-Some.ensures.1 store) office (λ opened. still old mid office found.0 s) it.1)
