use Rattle.std.proofs.Common.{◌∙◌, ap, sym, subst, length}
use Rattle.machine.specs.Ranges.{IsInRange}
use Rattle.machine.specs.Run.{State}
use Rattle.machine.proofs.EarlierSteps.{without_in_range}
use Rattle.machine.proofs.runs.Machine.set_aside.Goals as goal

pub invariant_of-self : goal.invariant_of-self
invariant_of-self g c = (
  subst IsInRange (sym c.set_aside.ensures) (without_in_range c.self.inside.parts c.self.invariant.0),
  ap (λ (m : State). length m.works.storage) c.set_aside.ensures ∙ c.self.invariant.1,
)
