use Rattle.std.proofs.Common.{◌∙◌, ap, sym}
use Rattle.machine.specs.Effect.{effect, works_of}
use Rattle.machine.specs.Instructions.{decoded_by, operation_by}
use Rattle.machine.proofs.KindLemmas.{placed_effect}
use Rattle.machine.proofs.OperationNames.{names_move}
use Rattle.machine.proofs.at_once.move_indexed.Goals as goal

pub returns-then-are_clear-clause-done : goal.returns-then-are_clear-clause-done
returns-then-are_clear-clause-done g c = λ did units.
    let shape = c.args.entry.now.shape in
    let x = c.in-Some.instruction in
    let w = works_of (g.C.Core.cells c.args.core.now) c.args.registers.now units in
    placed_effect shape (x.a, x.b) c.args.next w c.in-Some.ensures.placed
    ∙ ap (λ y. effect (operation_by shape.first) (decoded_by y) c.args.next w) (sym c.in-Some.ensures.shape)
    ∙ ap (λ o. effect o (decoded_by x) c.args.next w) (names_move shape.first c.requires)
    ∙ c.work_on_fields_at_once.ensures.done did units
