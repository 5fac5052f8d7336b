use Rattle.std.proofs.Common.{◌∙◌, sym, ap, arith}
use Rattle.machine.specs.Run.{after}
use Rattle.console.specs.Goes.{goes_on_from}
use Rattle.console.proofs.GoLemmas.{comes_last, comes_next, comes_none, comes_on, comes_stopped, comes_whole}
use Rattle.console.proofs.going.go.Goals as goal

pub loop-made-init : goal.loop-made-init
loop-made-init g c = comes_none _ _ _ _

pub loop-made-preserved : goal.loop-made-preserved
loop-made-preserved g c =
    let on = sym (c.goes_on.ensures ∙ ap (λ seen. goes_on_from c.args.stops.now c.args.watched seen c.step.new.self) c.cell_of-before.ensures) ∙ c.if-not-goes_on.false in
    comes_on c.loop-made.invariant _ (omega arith) (sym c.is_running.ensures ∙ c.if-not-is_running.false) on c.in_ok-step.ensures.machine

pub returns-then-not-is_running-clause-machine : goal.returns-then-not-is_running-clause-machine
returns-then-not-is_running-clause-machine g c =
    c.loop-made.invariant.machine ∙ ap (after c.args.machine.now) (comes_stopped c.loop-made.invariant (sym c.is_running.ensures ∙ c.if-not-is_running.true))

pub returns-then-not-is_running-clause-made : goal.returns-then-not-is_running-clause-made
returns-then-not-is_running-clause-made g c = comes_stopped c.loop-made.invariant (sym c.is_running.ensures ∙ c.if-not-is_running.true)

pub returns-then-not-goes_on-clause-machine : goal.returns-then-not-goes_on-clause-machine
returns-then-not-goes_on-clause-machine g c =
    let off = sym (c.goes_on.ensures ∙ ap (λ seen. goes_on_from c.args.stops.now c.args.watched seen c.step.new.self) c.cell_of-before.ensures) ∙ c.if-not-goes_on.true in
    comes_next c.loop-made.invariant _ c.in_ok-step.ensures.machine
    ∙ ap (after c.args.machine.now) (comes_last c.loop-made.invariant _ (omega arith) (sym c.is_running.ensures ∙ c.if-not-is_running.false) off c.in_ok-step.ensures.machine)

pub returns-then-not-goes_on-clause-made : goal.returns-then-not-goes_on-clause-made
returns-then-not-goes_on-clause-made g c =
    let off = sym (c.goes_on.ensures ∙ ap (λ seen. goes_on_from c.args.stops.now c.args.watched seen c.step.new.self) c.cell_of-before.ensures) ∙ c.if-not-goes_on.true in
    comes_last c.loop-made.invariant _ (omega arith) (sym c.is_running.ensures ∙ c.if-not-is_running.false) off c.in_ok-step.ensures.machine

pub returns-clause-machine : goal.returns-clause-machine
returns-clause-machine g c = c.loop-made.invariant.machine ∙ ap (after c.args.machine.now) (comes_whole c.loop-made.invariant (omega arith))

pub returns-clause-made : goal.returns-clause-made
returns-clause-made g c = omega (arith, comes_whole c.loop-made.invariant (omega arith))
