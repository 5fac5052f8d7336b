use Rattle.std.proofs.Common.{◌≡◌, ◌+◌, ℕ, get_or, ap, arith}
use Rattle.office.proofs.JobMeters.{on_err}
use Rattle.office.specs.declared.stretches.Stretch.{Stretch}
use Rattle.office_tables.specs.Standing.{stretch_row}
use Rattle.ledger_tables.specs.Tables as row
use Rattle.job_checks.proofs.PlacedLemmas.{placed_fails, placed_step}
use Rattle.job_checks.proofs.machines.check_stretches.Goals as goal

pub loop-at-preserved : goal.loop-at-preserved
loop-at-preserved c =
    let stretches = c.args.stretches.now in
    let at = c.loop-at.at in
    let d : Stretch = record { switches = record { 0 = 0 }; granted = 0 } in
    let told : ℕ → _ = λ k. row.stretch_row c.args.name.customer.now c.args.name.number k (stretch_row (get_or stretches at d)) in
    let same : at ≡ 0 + at = omega arith in
    placed_step (row.stretch_row c.args.name.customer.now c.args.name.number) stretch_row 0 stretches at d _ _ _ _ _ c.loop-at-test.true c.loop-at.invariant c.in_ok-rest.ensures.passed (ap told same)

pub returns-in_err-rest-clause-other : goal.returns-in_err-rest-clause-other
returns-in_err-rest-clause-other c =
    let stretches = c.args.stretches.now in
    let at = c.loop-at.at in
    let d : Stretch = record { switches = record { 0 = 0 }; granted = 0 } in
    let told : ℕ → _ = λ k. row.stretch_row c.args.name.customer.now c.args.name.number k (stretch_row (get_or stretches at d)) in
    let same : at ≡ 0 + at = omega arith in
    on_err c.from_residual.result _
    (placed_fails (row.stretch_row c.args.name.customer.now c.args.name.number) stretch_row 0 stretches at d _ _ _ _ c.loop-at-test.true c.loop-at.invariant c.in_err-rest.ensures.other (ap told same))
