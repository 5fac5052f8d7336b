use Rattle.std.proofs.Common.{◌≡◌, ◌<◌, ◌∙◌, ap, arith, get_or, None, subst, sym}
use Rattle.core_store.specs.Storage.{largest_size}
use Rattle.machine.specs.Run.{State, after, most_instructions}
use Rattle.run_traces.specs.Ends.{goes_on}
use Rattle.run_traces.proofs.CountLemmas.{began_fits, counted_on}
use Rattle.run_traces.proofs.EndLemmas.{comes_none, comes_on, comes_to_end, comes_whole}
use Rattle.run_traces.proofs.counting.count_run.Goals as goal

pub loop-made-init : goal.loop-made-init
loop-made-init g c = record { comes = comes_none _ _ _; counted = c.requires }

pub loop-made-preserved : goal.loop-made-preserved
loop-made-preserved g c =
    let on = sym (c.goes_on.ensures ∙ ap (goes_on None) c.parts.ensures.picture) ∙ c.if-not-goes_on.false in
    record {
      comes = comes_on _ _ _ most_instructions None _ c.loop-made.invariant.comes (omega arith) on c.in_ok-step.ensures.machine;
      counted = counted_on c.args.machine.now c.parts-in-loop-made.result.now c.loop-made.made c.loop-made.places.items c.count_attempt.new.places.items c.loop-made.invariant.counted (c.parts-in-loop-made.ensures.picture ∙ c.loop-made.invariant.comes.machine) c.in_ok-count_attempt.ensures (subst (λ (m : State). m.works.registers.i < largest_size) (sym c.parts-in-loop-made.ensures.picture) c.parts-in-loop-made.ensures.in_range.registers.i);
    }

pub count_attempt-requires-clause-few : goal.count_attempt-requires-clause-few
count_attempt-requires-clause-few g c = λ other.
    let i = c.loop-made.machine.works.registers.i in
    let few : (get_or c.loop-made.places.items i other).count < most_instructions = omega (arith, c.loop-made.invariant.counted.counts i other c.parts-in-loop-made.ensures.in_range.registers.i, began_fits c.args.machine.now c.loop-made.made i) in
    subst (λ (m : State). (get_or c.loop-made.places.items m.works.registers.i other).count < most_instructions) (sym c.parts-in-loop-made.ensures.picture) few

pub returns-then-not-goes_on-clause-machine : goal.returns-then-not-goes_on-clause-machine
returns-then-not-goes_on-clause-machine g c =
    let off = sym (c.goes_on.ensures ∙ ap (goes_on None) c.parts.ensures.picture) ∙ c.if-not-goes_on.true in
    c.loop-made.invariant.comes.machine ∙ ap (after c.args.machine.now) (comes_to_end _ _ _ _ _ c.loop-made.invariant.comes off)

pub returns-then-not-goes_on-clause-attempts : goal.returns-then-not-goes_on-clause-attempts
returns-then-not-goes_on-clause-attempts g c =
    let off = sym (c.goes_on.ensures ∙ ap (goes_on None) c.parts.ensures.picture) ∙ c.if-not-goes_on.true in
    comes_to_end _ _ _ _ _ c.loop-made.invariant.comes off

pub returns-clause-machine : goal.returns-clause-machine
returns-clause-machine g c =
    c.loop-made.invariant.comes.machine ∙ ap (after c.args.machine.now) (comes_whole _ _ _ _ _ c.loop-made.invariant.comes (omega arith))

pub returns-clause-attempts : goal.returns-clause-attempts
returns-clause-attempts g c =
    let all : most_instructions ≡ c.loop-made.made = omega arith in
    all ∙ comes_whole _ _ _ _ _ c.loop-made.invariant.comes (omega arith)
