use Rattle.std.proofs.Common.{◌≢◌, ◌∙◌, arith}
use Rattle.machine.specs.Effect.{works_of}
use Rattle.machine.specs.Branches.{condition_of}
use Rattle.machine.specs.Instructions.{decoded_by, condition_by}
use Rattle.machine.proofs.OperationNames.{meant_by_four, meant_by_five, meant_by_eight, on_condition, on_character, always, character_inside}
use Rattle.machine.proofs.operations.branch.Goals as goal

pub returns-then-instruction-eq5 : goal.returns-then-instruction-eq5
unfolding condition_by
returns-then-instruction-eq5 g c =
    let i = c.args.instruction in
    c.branch_on_condition.ensures
    ∙ on_condition (decoded_by i) c.args.next (works_of (g.C.Core.cells c.args.core.now) c.args.registers.now c.args.units.now) (condition_of i.last)
    (meant_by_five i.first i.length i.last c.requires.branch c.if-instruction-eq5.true)

pub branch_on_character-requires-clause-inside : goal.branch_on_character-requires-clause-inside
branch_on_character-requires-clause-inside g c =
    let i = c.args.instruction in
    character_inside _ i.last i.b _ (meant_by_eight i.first i.length i.last c.requires.branch c.if-instruction-eq8.true) c.requires.inside

pub branch_on_character-requires-clause-below : goal.branch_on_character-requires-clause-below
branch_on_character-requires-clause-below g c =
    let i = c.args.instruction in
    character_inside _ i.last i.b _ (meant_by_eight i.first i.length i.last c.requires.branch c.if-instruction-eq8.true) c.requires.below

pub returns-then-instruction-eq8 : goal.returns-then-instruction-eq8
returns-then-instruction-eq8 g c =
    let i = c.args.instruction in
    c.branch_on_character.ensures
    ∙ on_character (decoded_by i) c.args.next (works_of (g.C.Core.cells c.args.core.now) c.args.registers.now c.args.units.now) i.last
    (meant_by_eight i.first i.length i.last c.requires.branch c.if-instruction-eq8.true)

pub returns : goal.returns
returns g c =
    let i = c.args.instruction in
    let not_five : i.length ≢ 5 = omega arith in
    let not_eight : i.length ≢ 8 = omega arith in
    c.take_branch.ensures
    ∙ always (decoded_by i) c.args.next (works_of (g.C.Core.cells c.args.core.now) c.args.registers.now c.args.units.now)
    (meant_by_four i.first i.length i.last c.requires.branch not_five not_eight)
