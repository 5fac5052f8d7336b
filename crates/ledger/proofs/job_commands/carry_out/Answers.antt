use Rattle.std.proofs.Common.{◌≡◌, rules, subst}
use Rattle.machine.specs.Run.{State}
use Rattle.ledger.specs.Saving.{IsEarlier}
use Rattle.ledger.proofs.job_commands.carry_out.Goals as goal

pub take_and_save-requires : goal.take_and_save-requires
take_and_save-requires g c =
    let machine : c.parts-parts.result.machine.now ≡ c.args.job.now.machine = search rules in
    subst (λ (m : State). IsEarlier c.in_ok-earlier.earlier m) machine c.in_ok-earlier.ensures
