use Rattle.std.proofs.Common.{◌∙◌, ◌+◌, ◌<◌, ◌≤◌, ap, arith, length}
use Rattle.core_store.specs.Storage.{codes_from}
use Rattle.machine.specs.Effect.{works_of}
use Rattle.check_causes.specs.Causes.{instruction_told}
use Rattle.check_causes.proofs.InstructionLemmas.{attempted, not_attempted}
use Rattle.check_causes.proofs.telling.test_attempt.Goals as goal

pub returns-in-Ok : goal.returns-in-Ok
returns-in-Ok g c =
    let s = g.C.Core.cells c.args.core.now in
    let w = works_of s c.args.registers.now c.args.units.now in
    let inside : c.args.registers.now.i < length s = omega arith in
    let within : c.args.registers.now.i + c.in-Ok.word.length ≤ length s = c.in-Ok.ensures.within.2 in
    attempted w c.in-Ok.word.length c.test_instruction.result inside within c.in-Ok.ensures.word
    (c.test_instruction.ensures ∙ ap (λ i. instruction_told w c.in-Ok.word.length (codes_from s i c.in-Ok.word.length)) c.in-Ok.ensures.place)

pub returns-in-Err : goal.returns-in-Err
returns-in-Err g c =
    let s = g.C.Core.cells c.args.core.now in
    let inside : c.args.registers.now.i < length s = omega arith in
    not_attempted (works_of s c.args.registers.now c.args.units.now) c.in-Err.cause inside c.in-Err.ensures.none
