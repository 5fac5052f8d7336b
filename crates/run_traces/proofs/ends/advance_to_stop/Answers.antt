use Rattle.std.proofs.Common.{◌≡◌, ◌∙◌, ap, arith, sym}
use Rattle.machine.specs.Run.{after}
use Rattle.run_traces.specs.Ends.{goes_on}
use Rattle.run_traces.proofs.EndLemmas.{comes_none, comes_on, comes_to_end, comes_whole}
use Rattle.run_traces.proofs.ends.advance_to_stop.Goals as goal

pub loop-made-init : goal.loop-made-init
loop-made-init g c = comes_none _ _ _

pub loop-made-preserved : goal.loop-made-preserved
loop-made-preserved g c =
    let on = sym (c.goes_on.ensures ∙ ap (goes_on c.args.stop) c.parts.ensures.picture) ∙ c.if-not-goes_on.false in
    comes_on _ _ _ _ _ _ c.loop-made.invariant (omega arith) on c.in_ok-step.ensures.machine

pub returns-then-not-goes_on-clause-machine : goal.returns-then-not-goes_on-clause-machine
returns-then-not-goes_on-clause-machine g c =
    let off = sym (c.goes_on.ensures ∙ ap (goes_on c.args.stop) c.parts.ensures.picture) ∙ c.if-not-goes_on.true in
    c.loop-made.invariant.machine ∙ ap (after c.args.machine.now) (comes_to_end _ _ _ _ _ c.loop-made.invariant off)

pub returns-then-not-goes_on-clause-attempts : goal.returns-then-not-goes_on-clause-attempts
returns-then-not-goes_on-clause-attempts g c =
    let off = sym (c.goes_on.ensures ∙ ap (goes_on c.args.stop) c.parts.ensures.picture) ∙ c.if-not-goes_on.true in
    comes_to_end _ _ _ _ _ c.loop-made.invariant off

pub returns-clause-machine : goal.returns-clause-machine
returns-clause-machine g c =
    c.loop-made.invariant.machine ∙ ap (after c.args.machine.now) (comes_whole _ _ _ _ _ c.loop-made.invariant (omega arith))

pub returns-clause-attempts : goal.returns-clause-attempts
returns-clause-attempts g c =
    let all : c.args.limit ≡ c.loop-made.made = omega arith in
    all ∙ comes_whole _ _ _ _ _ c.loop-made.invariant (omega arith)
