use Rattle.std.proofs.Common.{◌∙◌, sym}
use Rattle.machine.specs.Effect.{works_of}
use Rattle.machine.specs.Instructions.{decoded_by}
use Rattle.machine.proofs.OperationNames.{meant_by_test, meant_by_no_test, always, test_inside, test_passed, test_failed}
use Rattle.machine.proofs.operations.branch_on_test.Goals as goal

pub returns-in_default : goal.returns-in_default
returns-in_default g c =
    let i = c.args.instruction in
    c.take_branch.ensures
    ∙ always (decoded_by i) c.args.next (works_of (g.C.Core.cells c.args.core.now) c.args.registers.now c.args.units.now)
    (meant_by_no_test i.first i.length i.last c.requires.branch (sym c.of_code.ensures ∙ c.in_default.is))

pub passes-requires : goal.passes-requires
passes-requires g c =
    let i = c.args.instruction in
    test_inside _ c.in-Some.test i.b _ (meant_by_test i.first i.length i.last c.in-Some.test c.requires.branch (sym c.of_code.ensures ∙ c.in-Some.is)) c.requires.inside

pub pass_position-requires : goal.pass_position-requires
pass_position-requires g c =
    let i = c.args.instruction in
    test_inside _ c.in-Some.test i.b _ (meant_by_test i.first i.length i.last c.in-Some.test c.requires.branch (sym c.of_code.ensures ∙ c.in-Some.is)) c.requires.below

pub returns-then-passes : goal.returns-then-passes
returns-then-passes g c =
    let i = c.args.instruction in
    c.take_branch-then-passes.ensures
    ∙ test_passed (decoded_by i) c.args.next (works_of (g.C.Core.cells c.args.core.now) c.args.registers.now c.args.units.now) c.in-Some.test
    (meant_by_test i.first i.length i.last c.in-Some.test c.requires.branch (sym c.of_code.ensures ∙ c.in-Some.is)) (sym c.passes.ensures ∙ c.if-passes.true)

pub returns-else-passes : goal.returns-else-passes
returns-else-passes g c =
    let i = c.args.instruction in
    c.pass_position.ensures
    ∙ test_failed (decoded_by i) c.args.next (works_of (g.C.Core.cells c.args.core.now) c.args.registers.now c.args.units.now) c.in-Some.test
    (meant_by_test i.first i.length i.last c.in-Some.test c.requires.branch (sym c.of_code.ensures ∙ c.in-Some.is)) (sym c.passes.ensures ∙ c.if-passes.false)
