use Rattle.std.proofs.Common.{◌∙◌, Err, ap, sym}
use Rattle.std.proofs.lemmas.Result.{err_from_is_err_and}
use Rattle.core_store.specs.Storage.{codes_from}
use Rattle.machine.specs.Effect.{works_of}
use Rattle.check_causes.proofs.InstructionLemmas.{not_taken, without_operands, with_operands}
use Rattle.check_causes.proofs.telling.test_instruction.Goals as goal

pub returns-then-not-is_instruction : goal.returns-then-not-is_instruction
returns-then-not-is_instruction g c =
    let s = g.C.Core.cells c.args.core.now in
    not_taken (works_of s c.args.registers.now c.args.units.now) c.args.word.length (codes_from s c.args.word.first c.args.word.length) c.character-first.result c.character-last.result c.character-first.ensures c.character-last.ensures
    c.sign.result c.sign.ensures (sym c.is_instruction.ensures.allowed ∙ c.if-not-is_instruction.true)

pub returns-in_err-a : goal.returns-in_err-a
returns-in_err-a g c =
    let s = g.C.Core.cells c.args.core.now in
    let returned = err_from_is_err_and c.from_residual.result c.from_residual.ensures.1 in
    rw returned.1
    (ap (λ cause. Err cause) returned.2
    ∙ without_operands (works_of s c.args.registers.now c.args.units.now) c.args.word.length (codes_from s c.args.word.first c.args.word.length) c.character-first.result c.character-last.result c.character-first.ensures c.character-last.ensures
    c.addresses_in-count.result c.in_err-a.field-0.0 (sym c.is_instruction.ensures.allowed ∙ c.if-not-is_instruction.false) c.addresses_in-count.ensures.count (sym c.in_err-a.ensures))

pub returns : goal.returns
returns g c =
    let s = g.C.Core.cells c.args.core.now in
    with_operands (works_of s c.args.registers.now c.args.units.now) c.args.word.length (codes_from s c.args.word.first c.args.word.length) c.character-first.result c.character-last.result c.character-first.ensures c.character-last.ensures
    c.addresses_in-count.result c.in_ok-a.a c.in_ok-a.b c.test_operation.result (sym c.is_instruction.ensures.allowed ∙ c.if-not-is_instruction.false) c.addresses_in-count.ensures.count (sym c.operands.ensures ∙ c.in_ok-a.was)
    c.test_operation.ensures
