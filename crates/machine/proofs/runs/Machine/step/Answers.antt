use Rattle.std.proofs.Common.{◌∙◌, ap, length}
use Rattle.machine.specs.Run.{State, event_of, step}
use Rattle.machine.proofs.InRange.{step_in_range}
use Rattle.machine.proofs.Steps.{step_keeps}
use Rattle.machine.proofs.runs.Machine.step.Goals as goal

pub returns-clause-event : goal.returns-clause-event
returns-clause-event g c =
    c.event.ensures
    ∙ ap (λ (m : State). event_of m.standing) (c.in-Ok.ensures.machine ∙ ap step c.self.view_is)

pub invariant_of-self-2 : goal.invariant_of-self-2
invariant_of-self-2 g c =
    let old = c.self.inside.parts in
    let stepped = c.in-Ok.ensures.machine in (
      step_in_range old c.work_once.new.self stepped c.self.invariant.0,
      ap (λ (m : State). length m.works.storage) stepped ∙ (step_keeps old).size ∙ c.self.invariant.1,
    )
