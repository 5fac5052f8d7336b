use Rattle.std.proofs.Common.{refl}
use Rattle.machine.proofs.EarlierSteps.{after_along, behind_after, attempts_along, executed_along, makes_along}
use Rattle.machine.proofs.earlier.earlier_outputs_stay_in_front.Goals as goal

pub returns : goal.returns
returns c = record {
  machine = after_along;
  behind = behind_after;
  attempts = attempts_along;
  executed = executed_along;
  makes = makes_along;
  started = λ cards lines m switches. refl;
  standing = λ cards lines m. refl;
}
