use Rattle.std.proofs.Common.{ap, subst}
use Rattle.machine.specs.Run.{State, IsGivenUp}
use Rattle.office.specs.Kept.{Kept}
use Rattle.office.proofs.JobMeters.{on_err, given_up_within}
use Rattle.office.proofs.jobs.Job.slice.Goals as goal

pub returns-in_err-ran-clause-given_up : goal.returns-in_err-ran-clause-given_up
returns-in_err-ran-clause-given_up g c =
    let old = c.args.meter.now in
    let new = c.run.new.meter in
    let machine = ap (λ (k : Kept). k.machine) c.self.view_is in
    let done = subst (λ (m : State). IsGivenUp m c.args.limit old new) machine c.in_err-ran.ensures.given_up in
    on_err c.from_residual.result _ (given_up_within _ _ _ _ done)
