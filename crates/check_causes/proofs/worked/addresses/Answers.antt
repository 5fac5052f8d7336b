use Rattle.std.proofs.Common.{◌∙◌, sym, ap}
use Rattle.core_store.specs.Storage.{codes_from}
use Rattle.check_causes.specs.Worked.{if_read}
use Rattle.check_causes.proofs.WorkedLemmas.{not_read, is_read}
use Rattle.check_causes.proofs.worked.addresses.Goals as goal

pub returns-then-not-is_instruction : goal.returns-then-not-is_instruction
returns-then-not-is_instruction g c =
    let s = g.C.Core.cells c.args.core.now in
    not_read s c.args.word.length c.args.registers.now (codes_from s c.args.word.first c.args.word.length) c.character-first.result c.character-last.result c.character-first.ensures c.character-last.ensures
    (sym c.is_instruction.ensures.allowed ∙ c.if-not-is_instruction.true)

pub returns-in-Ok : goal.returns-in-Ok
returns-in-Ok g c =
    let s = g.C.Core.cells c.args.core.now in
    ap if_read (sym c.in-Ok.is) ∙ is_read s c.args.word.length c.args.registers.now (codes_from s c.args.word.first c.args.word.length) c.character-first.result c.character-last.result c.character-first.ensures c.character-last.ensures
    c.addresses_in-count.result c.operands.result (sym c.is_instruction.ensures.allowed ∙ c.if-not-is_instruction.false) c.addresses_in-count.ensures.count c.operands.ensures

pub returns-in-Err : goal.returns-in-Err
returns-in-Err g c =
    let s = g.C.Core.cells c.args.core.now in
    ap if_read (sym c.in-Err.is) ∙ is_read s c.args.word.length c.args.registers.now (codes_from s c.args.word.first c.args.word.length) c.character-first.result c.character-last.result c.character-first.ensures c.character-last.ensures
    c.addresses_in-count.result c.operands.result (sym c.is_instruction.ensures.allowed ∙ c.if-not-is_instruction.false) c.addresses_in-count.ensures.count c.operands.ensures
