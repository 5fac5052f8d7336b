use Rattle.std.proofs.Common.{◌∙◌, ap, refl, sym, length}
use Rattle.core_store.specs.Storage.{largest_size}
use Rattle.machine.specs.Effect.{attempt, effect, works_of}
use Rattle.machine.specs.Instructions.{decoded_by}
use Rattle.machine.specs.Shapes.{instruction_at}
use Rattle.machine.proofs.OperationEffects.{ends_by, ends_stopped}
use Rattle.machine.proofs.ShapeDecoding.{attempt_refused, attempt_shaped, shape_looks_inside}
use Rattle.machine.proofs.cycle.carry_out.Goals as goal

pub returns-in_err-a : goal.returns-in_err-a
returns-in_err-a g c =
    let w = works_of (g.C.Core.cells c.args.core.now) c.args.registers.now c.args.units.now in
    let check = c.in_err-a.field-0.0 in
    ends_stopped c.from_residual.result check c.from_residual.ensures.1 w w attempt
    (attempt_refused w c.requires.inside c.args.shape.now check c.requires.shape (sym c.in_err-a.ensures.operands)) refl

pub execute-requires-clause-inside : goal.execute-requires-clause-inside
execute-requires-clause-inside g c =
    let s = g.C.Core.cells c.args.core.now in
    rw c.working_at.ensures (shape_looks_inside s c.args.registers.now.i c.args.shape.now c.in_ok-a.a c.in_ok-a.b (length s) c.requires.shape c.in_ok-a.ensures.inside)

pub execute-requires-clause-below : goal.execute-requires-clause-below
execute-requires-clause-below g c =
    let s = g.C.Core.cells c.args.core.now in
    rw c.working_at.ensures (shape_looks_inside s c.args.registers.now.i c.args.shape.now c.in_ok-a.a c.in_ok-a.b largest_size c.requires.shape c.in_ok-a.ensures.below)

pub returns : goal.returns
returns g c =
    let w = works_of (g.C.Core.cells c.args.core.now) c.args.registers.now c.args.units.now in
    let i = instruction_at c.args.shape.now c.in_ok-a.a c.in_ok-a.b in
    ends_by _ w _ attempt (effect (decoded_by c.working_at.result).operation (decoded_by c.working_at.result) c.next_of-next.result)
    (attempt_shaped w c.requires.inside c.args.shape.now c.in_ok-a.a c.in_ok-a.b c.requires.shape (sym c.in_ok-a.ensures.operands)
    ∙ ap (λ n. effect (decoded_by i).operation (decoded_by i) n w) (sym c.next_of-next.ensures)
    ∙ ap (λ x. effect (decoded_by x).operation (decoded_by x) c.next_of-next.result w) (sym c.working_at.ensures))
    c.execute.ensures
