use Rattle.std.proofs.Common.{◌∙◌, ◌+◌, ◌<◌, ◌≤◌, ap, arith, length}
use Rattle.core_store.specs.Storage.{codes_from}
use Rattle.machine.specs.Effect.{works_of}
use Rattle.check_causes.specs.Worked.{fields_by}
use Rattle.check_causes.proofs.WorkedLemmas.{worked, not_inside, not_worked}
use Rattle.check_causes.proofs.worked.fields_at.Goals as goal

pub returns-in-Ok : goal.returns-in-Ok
returns-in-Ok g c = λ units.
    let s = g.C.Core.cells c.args.core.now in
    let w = works_of s c.args.registers.now units in
    let inside : c.args.registers.now.i < length s = omega arith in
    let within : c.args.registers.now.i + c.in-Ok.word.length ≤ length s = c.in-Ok.ensures.within.2 in
    worked w c.in-Ok.word.length c.fields_by.result inside within c.in-Ok.ensures.word
    (c.fields_by.ensures units ∙ ap (λ i. fields_by w c.in-Ok.word.length (codes_from s i c.in-Ok.word.length)) c.in-Ok.ensures.place)

pub returns-in-Err : goal.returns-in-Err
returns-in-Err g c = λ units.
    let s = g.C.Core.cells c.args.core.now in
    let inside : c.args.registers.now.i < length s = omega arith in
    not_worked (works_of s c.args.registers.now units) c.in-Err.field-0 inside c.in-Err.ensures.none

pub returns-then-registers-size : goal.returns-then-registers-size
returns-then-registers-size g c = λ units.
    let s = g.C.Core.cells c.args.core.now in
    let past : length s ≤ c.args.registers.now.i = omega arith in
    not_inside (works_of s c.args.registers.now units) past
