use Rattle.std.proofs.Common.{Err, ap, inl, inr, refl}
use Rattle.ledger.proofs.WorkLemmas.{worked_doubted, worked_one, worked_still}
use Rattle.exchanges.proofs.AnsweringLemmas.{made, no_memory, not_made, store_failed}
use Rattle.exchanges.proofs.answering.carry_out.Goals as goal

pub returns-in-Err-NoMemory-clause-comes : goal.returns-in-Err-NoMemory-clause-comes
returns-in-Err-NoMemory-clause-comes g c clean =
    no_memory g.S.Store c.args.bureau.now.conn c.apply.new.self.conn c.apply.new.self.broken c.args.meter.now c.apply.new.meter c.args.command.now _ _
    (c.in-Err-NoMemory.ensures.no_memory clean (ap Err c.in-Err-NoMemory.field-0-is)) (c.in-Err-NoMemory.ensures.given_up clean) (c.fault_message.ensures.status, c.fault_message.ensures.bytes)

pub returns-in-Err-Store-clause-comes : goal.returns-in-Err-Store-clause-comes
returns-in-Err-Store-clause-comes g c clean =
    store_failed g.S.Store c.args.bureau.now.conn c.apply.new.self.conn c.apply.new.self.broken c.args.meter.now c.apply.new.meter c.args.command.now _ _
    (c.in-Err-Store.ensures.broken (ap Err c.in-Err-Store.field-0-is)) (c.in-Err-Store.ensures.crash clean) (c.in-Err-Store.ensures.given_up clean) (c.fault_message-in-Err-Store.ensures.status, c.fault_message-in-Err-Store.ensures.bytes)

pub returns-in-Ok-reply_to-clause-comes : goal.returns-in-Ok-reply_to-clause-comes
returns-in-Ok-reply_to-clause-comes g c clean =
    made g.S.Store c.args.bureau.now.conn c.apply.new.self.conn c.apply.new.self.broken c.args.meter.now c.apply.new.meter c.args.command.now _ _
    c.in-Ok.reply c.lines_rise.ensures (c.in-Ok.ensures.reply clean) (c.in-Ok.ensures.meter clean) c.status_of.ensures.status c.in-Ok-reply_to.ensures

pub returns-clause-comes : goal.returns-clause-comes
returns-clause-comes g c clean =
    not_made g.S.Store c.args.bureau.now.conn c.apply.new.self.conn c.apply.new.self.broken c.args.meter.now c.apply.new.meter c.args.command.now _ _
    c.in-Ok.reply (c.in-Ok.ensures.reply clean) (c.in-Ok.ensures.meter clean) (c.fault_message-in-Err.ensures.status, c.fault_message-in-Err.ensures.bytes)

pub returns-in-Err-NoMemory-clause-works : goal.returns-in-Err-NoMemory-clause-works
returns-in-Err-NoMemory-clause-works g c =
    worked_still c.kept_offices_run_whole.ensures g.S.Store c.args.bureau.now.conn c.apply.new.self.conn c.apply.new.self.broken _
    (λ clean. c.in-Err-NoMemory.ensures.no_memory clean (ap Err c.in-Err-NoMemory.field-0-is)) (refl, inr (c.fault_message.ensures.status, c.fault_message.ensures.bytes))

pub returns-in-Err-Store-clause-works : goal.returns-in-Err-Store-clause-works
returns-in-Err-Store-clause-works g c =
    worked_doubted c.kept_offices_run_whole.ensures g.S.Store c.args.bureau.now.conn c.apply.new.self.conn c.apply.new.self.broken _ c.args.command.now
    (c.in-Err-Store.ensures.broken (ap Err c.in-Err-Store.field-0-is)) c.in-Err-Store.ensures.crash (refl, (c.fault_message-in-Err-Store.ensures.status, c.fault_message-in-Err-Store.ensures.bytes))

pub returns-in-Ok-reply_to-clause-works : goal.returns-in-Ok-reply_to-clause-works
returns-in-Ok-reply_to-clause-works g c =
    worked_one c.kept_offices_run_whole.ensures g.S.Store c.args.bureau.now.conn c.apply.new.self.conn c.apply.new.self.broken _ c.args.command.now c.in-Ok.reply
    c.in-Ok.ensures.reply (refl, refl, inl (c.status_of.ensures.status, c.in-Ok-reply_to.ensures))

pub returns-clause-works : goal.returns-clause-works
returns-clause-works g c =
    worked_one c.kept_offices_run_whole.ensures g.S.Store c.args.bureau.now.conn c.apply.new.self.conn c.apply.new.self.broken _ c.args.command.now c.in-Ok.reply
    c.in-Ok.ensures.reply (refl, refl, inr (c.fault_message-in-Err.ensures.status, c.fault_message-in-Err.ensures.bytes))
