use Rattle.std.proofs.Common.{◌∙◌, sym, ap, refl}
use Rattle.std.proofs.lemmas.Bool.{eqb-true}
use Rattle.machine.specs.Branches.{condition_of}
use Rattle.machine.specs.Effect.{effect, works_of}
use Rattle.machine.specs.Instructions.{condition_by, decoded_by}
use Rattle.machine.specs.Kinds.{is_usual}
use Rattle.machine.specs.Shapes.{instruction_at}
use Rattle.machine.specs.declared.named.Operation.TheVariants.{OnFields}
use Rattle.machine.specs.declared.operations.FieldOperation.TheVariants.{Add, Subtract, Compare, ZeroAdd, ZeroSubtract, ModifyAddress, Move, Load, Suppress, Edit}
use Rattle.machine.proofs.KindLemmas.{both_true, branch_done, placed_effect, unlike}
use Rattle.machine.proofs.OperationNames.{always, meant_by_eight, meant_by_five, meant_by_four, names_add, names_compare, names_edit, names_load, names_modify_address, names_move, names_subtract, names_suppress, names_zero_add, names_zero_subtract, on_character, on_condition}
use Rattle.machine.proofs.at_once.execute_at_once.Goals as goal

pub returns-in-Add-clause-done : goal.returns-in-Add-clause-done
returns-in-Add-clause-done g c = λ did.
    let entry = c.args.entry.now in
    let x = instruction_at entry.shape entry.a entry.b in
    let w = works_of (g.C.Core.cells c.args.core.now) c.args.registers.now c.args.units.now in
    placed_effect entry.shape (entry.a, entry.b) c.args.next w ((c.requires.right.placed (ap is_usual c.in-Add.is)).operands w.storage w.registers refl)
    ∙ ap (λ o. effect o (decoded_by x) c.args.next w) (names_add entry.shape.first (rw c.in-Add.is at c.requires.right.kind))
    ∙ ap (λ y. effect (OnFields Add) (decoded_by y) c.args.next w) (sym c.working_at-instruction.ensures)
    ∙ c.work_on_fields_at_once.ensures.done did c.args.units.now

pub returns-in-Subtract-clause-done : goal.returns-in-Subtract-clause-done
returns-in-Subtract-clause-done g c = λ did.
    let entry = c.args.entry.now in
    let x = instruction_at entry.shape entry.a entry.b in
    let w = works_of (g.C.Core.cells c.args.core.now) c.args.registers.now c.args.units.now in
    placed_effect entry.shape (entry.a, entry.b) c.args.next w ((c.requires.right.placed (ap is_usual c.in-Subtract.is)).operands w.storage w.registers refl)
    ∙ ap (λ o. effect o (decoded_by x) c.args.next w) (names_subtract entry.shape.first (rw c.in-Subtract.is at c.requires.right.kind))
    ∙ ap (λ y. effect (OnFields Subtract) (decoded_by y) c.args.next w) (sym c.working_at-instruction.ensures)
    ∙ c.work_on_fields_at_once-in-Subtract.ensures.done did c.args.units.now

pub returns-in-Compare-clause-done : goal.returns-in-Compare-clause-done
returns-in-Compare-clause-done g c = λ did.
    let entry = c.args.entry.now in
    let x = instruction_at entry.shape entry.a entry.b in
    let w = works_of (g.C.Core.cells c.args.core.now) c.args.registers.now c.args.units.now in
    placed_effect entry.shape (entry.a, entry.b) c.args.next w ((c.requires.right.placed (ap is_usual c.in-Compare.is)).operands w.storage w.registers refl)
    ∙ ap (λ o. effect o (decoded_by x) c.args.next w) (names_compare entry.shape.first (rw c.in-Compare.is at c.requires.right.kind))
    ∙ ap (λ y. effect (OnFields Compare) (decoded_by y) c.args.next w) (sym c.working_at-instruction.ensures)
    ∙ c.work_on_fields_at_once-in-Compare.ensures.done did c.args.units.now

pub returns-in-Move-clause-done : goal.returns-in-Move-clause-done
returns-in-Move-clause-done g c = λ did.
    let entry = c.args.entry.now in
    let x = instruction_at entry.shape entry.a entry.b in
    let w = works_of (g.C.Core.cells c.args.core.now) c.args.registers.now c.args.units.now in
    placed_effect entry.shape (entry.a, entry.b) c.args.next w ((c.requires.right.placed (ap is_usual c.in-Move.is)).operands w.storage w.registers refl)
    ∙ ap (λ o. effect o (decoded_by x) c.args.next w) (names_move entry.shape.first (rw c.in-Move.is at c.requires.right.kind))
    ∙ ap (λ y. effect (OnFields Move) (decoded_by y) c.args.next w) (sym c.working_at-instruction.ensures)
    ∙ c.work_on_fields_at_once-in-Move.ensures.done did c.args.units.now

pub returns-in-Load-clause-done : goal.returns-in-Load-clause-done
returns-in-Load-clause-done g c = λ did.
    let entry = c.args.entry.now in
    let x = instruction_at entry.shape entry.a entry.b in
    let w = works_of (g.C.Core.cells c.args.core.now) c.args.registers.now c.args.units.now in
    placed_effect entry.shape (entry.a, entry.b) c.args.next w ((c.requires.right.placed (ap is_usual c.in-Load.is)).operands w.storage w.registers refl)
    ∙ ap (λ o. effect o (decoded_by x) c.args.next w) (names_load entry.shape.first (rw c.in-Load.is at c.requires.right.kind))
    ∙ ap (λ y. effect (OnFields Load) (decoded_by y) c.args.next w) (sym c.working_at-instruction.ensures)
    ∙ c.work_on_fields_at_once-in-Load.ensures.done did c.args.units.now

pub returns-in-ZeroAdd-clause-done : goal.returns-in-ZeroAdd-clause-done
returns-in-ZeroAdd-clause-done g c = λ did.
    let entry = c.args.entry.now in
    let x = instruction_at entry.shape entry.a entry.b in
    let w = works_of (g.C.Core.cells c.args.core.now) c.args.registers.now c.args.units.now in
    placed_effect entry.shape (entry.a, entry.b) c.args.next w ((c.requires.right.placed (ap is_usual c.in-ZeroAdd.is)).operands w.storage w.registers refl)
    ∙ ap (λ o. effect o (decoded_by x) c.args.next w) (names_zero_add entry.shape.first (rw c.in-ZeroAdd.is at c.requires.right.kind))
    ∙ ap (λ y. effect (OnFields ZeroAdd) (decoded_by y) c.args.next w) (sym c.working_at-instruction.ensures)
    ∙ c.work_on_fields_at_once-in-ZeroAdd.ensures.done did c.args.units.now

pub returns-in-ZeroSubtract-clause-done : goal.returns-in-ZeroSubtract-clause-done
returns-in-ZeroSubtract-clause-done g c = λ did.
    let entry = c.args.entry.now in
    let x = instruction_at entry.shape entry.a entry.b in
    let w = works_of (g.C.Core.cells c.args.core.now) c.args.registers.now c.args.units.now in
    placed_effect entry.shape (entry.a, entry.b) c.args.next w ((c.requires.right.placed (ap is_usual c.in-ZeroSubtract.is)).operands w.storage w.registers refl)
    ∙ ap (λ o. effect o (decoded_by x) c.args.next w) (names_zero_subtract entry.shape.first (rw c.in-ZeroSubtract.is at c.requires.right.kind))
    ∙ ap (λ y. effect (OnFields ZeroSubtract) (decoded_by y) c.args.next w) (sym c.working_at-instruction.ensures)
    ∙ c.work_on_fields_at_once-in-ZeroSubtract.ensures.done did c.args.units.now

pub returns-in-ModifyAddress-clause-done : goal.returns-in-ModifyAddress-clause-done
returns-in-ModifyAddress-clause-done g c = λ did.
    let entry = c.args.entry.now in
    let x = instruction_at entry.shape entry.a entry.b in
    let w = works_of (g.C.Core.cells c.args.core.now) c.args.registers.now c.args.units.now in
    placed_effect entry.shape (entry.a, entry.b) c.args.next w ((c.requires.right.placed (ap is_usual c.in-ModifyAddress.is)).operands w.storage w.registers refl)
    ∙ ap (λ o. effect o (decoded_by x) c.args.next w) (names_modify_address entry.shape.first (rw c.in-ModifyAddress.is at c.requires.right.kind))
    ∙ ap (λ y. effect (OnFields ModifyAddress) (decoded_by y) c.args.next w) (sym c.working_at-instruction.ensures)
    ∙ c.work_on_fields_at_once-in-ModifyAddress.ensures.done did c.args.units.now

pub returns-in-Suppress-clause-done : goal.returns-in-Suppress-clause-done
returns-in-Suppress-clause-done g c = λ did.
    let entry = c.args.entry.now in
    let x = instruction_at entry.shape entry.a entry.b in
    let w = works_of (g.C.Core.cells c.args.core.now) c.args.registers.now c.args.units.now in
    placed_effect entry.shape (entry.a, entry.b) c.args.next w ((c.requires.right.placed (ap is_usual c.in-Suppress.is)).operands w.storage w.registers refl)
    ∙ ap (λ o. effect o (decoded_by x) c.args.next w) (names_suppress entry.shape.first (rw c.in-Suppress.is at c.requires.right.kind))
    ∙ ap (λ y. effect (OnFields Suppress) (decoded_by y) c.args.next w) (sym c.working_at-instruction.ensures)
    ∙ c.work_on_fields_at_once-in-Suppress.ensures.done did c.args.units.now

pub returns-in-Edit-clause-done : goal.returns-in-Edit-clause-done
returns-in-Edit-clause-done g c = λ did.
    let entry = c.args.entry.now in
    let x = instruction_at entry.shape entry.a entry.b in
    let w = works_of (g.C.Core.cells c.args.core.now) c.args.registers.now c.args.units.now in
    placed_effect entry.shape (entry.a, entry.b) c.args.next w ((c.requires.right.placed (ap is_usual c.in-Edit.is)).operands w.storage w.registers refl)
    ∙ ap (λ o. effect o (decoded_by x) c.args.next w) (names_edit entry.shape.first (rw c.in-Edit.is at c.requires.right.kind))
    ∙ ap (λ y. effect (OnFields Edit) (decoded_by y) c.args.next w) (sym c.working_at-instruction.ensures)
    ∙ c.work_on_fields_at_once-in-Edit.ensures.done did c.args.units.now

pub returns-in-Branch-clause-done : goal.returns-in-Branch-clause-done
returns-in-Branch-clause-done g c = λ _.
    let entry = c.args.entry.now in
    let x = instruction_at entry.shape entry.a entry.b in
    let w = works_of (g.C.Core.cells c.args.core.now) c.args.registers.now c.args.units.now in
    let named = both_true _ _ (rw c.in-Branch.is at c.requires.right.kind) in
    let lengths = both_true _ _ named.1 in
    placed_effect entry.shape (entry.a, entry.b) c.args.next w ((c.requires.right.placed (ap is_usual c.in-Branch.is)).operands w.storage w.registers refl)
    ∙ branch_done entry.shape entry.a entry.b c.args.next w c.take_branch.new.registers named.0
    (rw c.working_at-instruction.ensures at c.take_branch.ensures
    ∙ always (decoded_by x) c.args.next w (meant_by_four entry.shape.first entry.shape.length entry.shape.last named.0 (unlike entry.shape.length 5 lengths.0) (unlike entry.shape.length 8 lengths.1)))

pub returns-in-BranchOnCondition-clause-done : goal.returns-in-BranchOnCondition-clause-done
unfolding condition_by
returns-in-BranchOnCondition-clause-done g c = λ _.
    let entry = c.args.entry.now in
    let x = instruction_at entry.shape entry.a entry.b in
    let w = works_of (g.C.Core.cells c.args.core.now) c.args.registers.now c.args.units.now in
    let named = both_true _ _ (rw c.in-BranchOnCondition.is at c.requires.right.kind) in
    placed_effect entry.shape (entry.a, entry.b) c.args.next w ((c.requires.right.placed (ap is_usual c.in-BranchOnCondition.is)).operands w.storage w.registers refl)
    ∙ branch_done entry.shape entry.a entry.b c.args.next w c.branch_on_condition.new.registers named.0
    (rw c.working_at-instruction.ensures at c.branch_on_condition.ensures
    ∙ on_condition (decoded_by x) c.args.next w (condition_of entry.shape.last) (meant_by_five entry.shape.first entry.shape.length entry.shape.last named.0 (eqb-true entry.shape.length 5 named.1)))

pub returns-in-BranchOnCharacter-clause-done : goal.returns-in-BranchOnCharacter-clause-done
returns-in-BranchOnCharacter-clause-done g c = λ _.
    let entry = c.args.entry.now in
    let x = instruction_at entry.shape entry.a entry.b in
    let w = works_of (g.C.Core.cells c.args.core.now) c.args.registers.now c.args.units.now in
    let named = both_true _ _ (rw c.in-BranchOnCharacter.is at c.requires.right.kind) in
    placed_effect entry.shape (entry.a, entry.b) c.args.next w ((c.requires.right.placed (ap is_usual c.in-BranchOnCharacter.is)).operands w.storage w.registers refl)
    ∙ branch_done entry.shape entry.a entry.b c.args.next w c.branch_on_character.new.registers named.0
    (rw c.working_at-instruction.ensures at c.branch_on_character.ensures
    ∙ on_character (decoded_by x) c.args.next w entry.shape.last (meant_by_eight entry.shape.first entry.shape.length entry.shape.last named.0 (eqb-true entry.shape.length 8 named.1)))

pub move_and_go_on-requires : goal.move_and_go_on-requires
move_and_go_on-requires g c = rw c.in-IndexedMove.is at c.requires.right.kind
