use Rattle.std.proofs.Common.{◌∙◌}
use Rattle.machine.specs.Effect.{works_of}
use Rattle.machine.specs.Instructions.{decoded_by}
use Rattle.machine.specs.Shapes.{instruction_at}
use Rattle.machine.proofs.KindLemmas.{branch_done, placed_effect}
use Rattle.machine.proofs.OperationNames.{meant_by_eight, on_character}
use Rattle.machine.proofs.at_once.branch_indexed.Goals as goal

pub returns-then-are_inside-clause-done : goal.returns-then-are_inside-clause-done
returns-then-are_inside-clause-done g c = λ _ units.
    let shape = c.args.entry.now.shape in
    let x = c.in-Some.instruction in
    let w = works_of (g.C.Core.cells c.args.core.now) c.args.registers.now units in
    placed_effect shape (x.a, x.b) c.args.next w c.in-Some.ensures.placed
    ∙ branch_done shape x.a x.b c.args.next w c.branch_on_character.new.registers c.requires.named
    (rw c.in-Some.ensures.shape at c.branch_on_character.ensures
    ∙ on_character (decoded_by (instruction_at shape x.a x.b)) c.args.next w shape.last (meant_by_eight shape.first shape.length shape.last c.requires.named c.requires.eight))
