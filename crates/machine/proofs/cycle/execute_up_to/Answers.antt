use Rattle.std.proofs.Common.{◌∙◌, ap, refl, arith, length}
use Rattle.machine.specs.Effect.{Works, works_of}
use Rattle.machine.specs.declared.operations.Course.TheVariants.{GoesOn, Halts}
use Rattle.machine.proofs.Steps.{attempt_size, checked_here, ended_whole, goes_on_here, halted_here, reached_none, reached_unchanged, wanting_next}
use Rattle.machine.proofs.cycle.execute_up_to.Goals as goal

pub loop-attempted-init : goal.loop-attempted-init
loop-attempted-init g c = record { reached = reached_none _; size = refl; cache = c.new-cache.ensures ∙ c.size.ensures.size; here = refl }

pub loop-attempted-preserved-in-Ok : goal.loop-attempted-preserved-in-Ok
loop-attempted-preserved-in-Ok g c =
    let w = works_of (g.C.Core.cells c.loop-attempted.core) c.loop-attempted.registers c.loop-attempted.units in
    let x = works_of (g.C.Core.cells c.attempt_at_once.new.core) c.attempt_at_once.new.registers c.loop-attempted.units in
    record {
      reached = goes_on_here _ w x _ c.loop-attempted.invariant.reached c.in-Ok.ensures.done;
      size = attempt_size w x GoesOn c.in-Ok.ensures.done ∙ c.loop-attempted.invariant.size;
      cache = c.loop-attempted.invariant.cache;
      here = c.in-Ok.ensures.next;
    }

pub loop-attempted-preserved : goal.loop-attempted-preserved
loop-attempted-preserved g c =
    let before = c.in-Err.ensures.unchanged in
    let reached = reached_unchanged _ _ _ _ _ _ _ c.loop-attempted.invariant.reached before.0 before.1 in
    let w = works_of (g.C.Core.cells c.attempt_at_once.new.core) c.attempt_at_once.new.registers c.loop-attempted.units in
    let x = works_of (g.C.Core.cells c.attempt.new.core) c.attempt.new.registers c.attempt.new.units in
    let outcome = rw c.in-Ok-GoesOn.field-0-is at c.in-Ok-GoesOn.ensures.ended in
    record {
      reached = goes_on_here _ w x _ reached outcome;
      size = attempt_size w x GoesOn outcome ∙ ap length c.in-Err.ensures.unchanged.0 ∙ c.loop-attempted.invariant.size;
      cache = c.in-Ok-GoesOn.ensures.cache ∙ c.loop-attempted.invariant.cache;
      here = refl;
    }

pub returns-in-Ok-Halts-clause-machine : goal.returns-in-Ok-Halts-clause-machine
returns-in-Ok-Halts-clause-machine g c =
    let before = c.in-Err.ensures.unchanged in
    let reached = reached_unchanged _ _ _ _ _ _ _ c.loop-attempted.invariant.reached before.0 before.1 in
    let outcome = rw c.in-Ok-Halts.field-0-is at c.in-Ok-Halts.ensures.ended in
    (halted_here _ _ _ _ reached c.args.limit (omega arith) outcome).machine

pub returns-in-Ok-Halts-clause-attempted : goal.returns-in-Ok-Halts-clause-attempted
returns-in-Ok-Halts-clause-attempted g c =
    let before = c.in-Err.ensures.unchanged in
    let reached = reached_unchanged _ _ _ _ _ _ _ c.loop-attempted.invariant.reached before.0 before.1 in
    let outcome = rw c.in-Ok-Halts.field-0-is at c.in-Ok-Halts.ensures.ended in
    (halted_here _ _ _ _ reached c.args.limit (omega arith) outcome).attempts

pub returns-in-Ok-Halts-clause-size : goal.returns-in-Ok-Halts-clause-size
returns-in-Ok-Halts-clause-size g c =
    let outcome = rw c.in-Ok-Halts.field-0-is at c.in-Ok-Halts.ensures.ended in
    attempt_size _ _ Halts outcome ∙ ap length c.in-Err.ensures.unchanged.0 ∙ c.loop-attempted.invariant.size

pub returns-in-Stopped-clause-machine : goal.returns-in-Stopped-clause-machine
returns-in-Stopped-clause-machine g c =
    let before = c.in-Err.ensures.unchanged in
    let reached = reached_unchanged _ _ _ _ _ _ _ c.loop-attempted.invariant.reached before.0 before.1 in
    let outcome = rw c.in-Stopped.is at c.in-Err-attempt.ensures.ended.0 in
    (checked_here _ _ _ _ reached c.args.limit c.in-Stopped.check (omega arith) outcome c.in-Err-attempt.ensures.ended.1).machine

pub returns-in-Stopped-clause-attempted : goal.returns-in-Stopped-clause-attempted
returns-in-Stopped-clause-attempted g c =
    let before = c.in-Err.ensures.unchanged in
    let reached = reached_unchanged _ _ _ _ _ _ _ c.loop-attempted.invariant.reached before.0 before.1 in
    let outcome = rw c.in-Stopped.is at c.in-Err-attempt.ensures.ended.0 in
    (checked_here _ _ _ _ reached c.args.limit c.in-Stopped.check (omega arith) outcome c.in-Err-attempt.ensures.ended.1).attempts

pub returns-in-Stopped-clause-size : goal.returns-in-Stopped-clause-size
returns-in-Stopped-clause-size g c = ap (λ (w : Works). length w.storage) c.in-Err-attempt.ensures.ended.1 ∙ ap length c.in-Err.ensures.unchanged.0 ∙ c.loop-attempted.invariant.size

pub returns-in-NoMemory-clause-given_up : goal.returns-in-NoMemory-clause-given_up
returns-in-NoMemory-clause-given_up g c =
    let before = c.in-Err.ensures.unchanged in
    let reached = reached_unchanged _ _ _ _ _ _ _ c.loop-attempted.invariant.reached before.0 before.1 in
    let makes = rw c.in-NoMemory.is at c.in-Err-attempt.ensures.ended.0 in
    wanting_next _ _ _ _ reached c.args.limit (omega arith) makes c.in-Err-attempt.ensures.ended.1

pub returns-in-NoMemory-clause-size : goal.returns-in-NoMemory-clause-size
returns-in-NoMemory-clause-size g c = ap (λ (w : Works). length w.storage) c.in-Err-attempt.ensures.ended.1 ∙ ap length c.in-Err.ensures.unchanged.0 ∙ c.loop-attempted.invariant.size

pub returns-clause-machine : goal.returns-clause-machine
returns-clause-machine g c = (ended_whole _ _ _ c.loop-attempted.invariant.reached c.args.limit (omega arith)).machine

pub returns-clause-attempted : goal.returns-clause-attempted
returns-clause-attempted g c = (ended_whole _ _ _ c.loop-attempted.invariant.reached c.args.limit (omega arith)).attempts
