use Rattle.std.proofs.Common.{◌≡◌, ◌∙◌, ap, sym, arith}
use Rattle.machine.specs.Effect.{works_of}
use Rattle.machine.specs.Run.{State, after, attempts, running}
use Rattle.machine.proofs.Steps.{ended_at_once, running_is}
use Rattle.machine.proofs.parts.Parts.work.Goals as goal

pub returns-then-not-is_running-clause-machine : goal.returns-then-not-is_running-clause-machine
returns-then-not-is_running-clause-machine g c = (ended_at_once c.args.self.now c.args.limit (sym c.is_running.ensures ∙ c.if-not-is_running.true)).machine

pub returns-then-not-is_running-clause-attempted : goal.returns-then-not-is_running-clause-attempted
returns-then-not-is_running-clause-attempted g c = (ended_at_once c.args.self.now c.args.limit (sym c.is_running.ensures ∙ c.if-not-is_running.true)).attempts

pub returns-clause-machine : goal.returns-clause-machine
returns-clause-machine g c =
    let m = c.args.self.now in
    let w = works_of (g.C.Core.cells c.self.inside.core) c.self.inside.registers c.self.inside.units in
    let began : running w ≡ m = running_is m w (ap (λ (x : State). x.works) c.self.view_is) (sym c.is_running.ensures ∙ c.if-not-is_running.false) in
    c.in_ok-made.ensures.machine ∙ ap (λ (x : State). after x c.args.limit) began

pub returns-clause-attempted : goal.returns-clause-attempted
returns-clause-attempted g c =
    let m = c.args.self.now in
    let w = works_of (g.C.Core.cells c.self.inside.core) c.self.inside.registers c.self.inside.units in
    let began : running w ≡ m = running_is m w (ap (λ (x : State). x.works) c.self.view_is) (sym c.is_running.ensures ∙ c.if-not-is_running.false) in
    c.in_ok-made.ensures.attempted ∙ ap (λ (x : State). attempts x c.args.limit) began

pub invariant_of-self : goal.invariant_of-self
invariant_of-self g c = omega (arith, c.execute_up_to.ensures.size, c.self.invariant)

pub invariant_of-self-2 : goal.invariant_of-self-2
invariant_of-self-2 g c = omega (arith, c.execute_up_to.ensures.size, c.self.invariant)
