use Rattle.std.proofs.Common.{◌<◌, ◌+◌, ◌∙◌, ap, sym, arith, length}
use Rattle.machine.specs.Effect.{works_of}
use Rattle.machine.specs.Kinds.{shape_effect}
use Rattle.machine.proofs.ShapeDecoding.{attempt_by_shape, next_within, shape_ends, shape_short}
use Rattle.machine.proofs.cycle.attempt_at_once.Goals as goal

pub overflow_add-i : goal.overflow_add-i
overflow_add-i g c =
    let s = g.C.Core.cells c.args.core.now in
    let read = c.in-Some.ensures.same s c.args.i c.at.ensures in
    omega (arith, shape_ends s c.args.i c.in-Some.entry.now.shape read)

pub returns-then-execute_at_once-clause-done : goal.returns-then-execute_at_once-clause-done
returns-then-execute_at_once-clause-done g c =
    let s = g.C.Core.cells c.args.core.now in
    let r = c.args.registers.now in
    let w = works_of s r c.args.units.now in
    let shape = c.in-Some.entry.now.shape in
    let read = c.in-Some.ensures.same s c.args.i c.at.ensures in
    let inside : r.i < length s = omega (arith, c.requires.here) in
    let there = rw (sym c.requires.here) at read in
    attempt_by_shape w inside shape there
    ∙ ap (λ n. shape_effect shape n w) (next_within r.i shape.length (omega (arith, shape_short s c.args.i shape read, c.size.ensures.limit, c.size.ensures.size, c.requires.here)))
    ∙ ap (λ k. shape_effect shape (k + shape.length) w) c.requires.here
    ∙ c.execute_at_once.ensures.done c.if-execute_at_once.true
