use Rattle.std.proofs.Common.{Err, ap, refl}
use Rattle.ledger.proofs.WorkLemmas.{worked_doubted, worked_one, worked_still}
use Rattle.office.specs.declared.commands.Command.TheVariants.{Job as OnJob}
use Rattle.bureau_work.specs.Work.{TellsAsked}
use Rattle.bureau_work.proofs.exporting.ask.Goals as goal

pub returns-in_default-clause-works : goal.returns-in_default-clause-works
returns-in_default-clause-works g c =
    worked_still c.kept_offices_run_whole.ensures g.S.Store c.args.bureau.now.conn c.args.bureau.now.conn c.args.bureau.now.broken _ (λ clean o s. s) tt

pub returns-in-Ok-apply-clause-works : goal.returns-in-Ok-apply-clause-works
returns-in-Ok-apply-clause-works g c =
    worked_one c.kept_offices_run_whole.ensures g.S.Store c.args.bureau.now.conn c.apply.new.self.conn c.apply.new.self.broken
    (TellsAsked c.args.customer.now c.args.number c.args.command) (OnJob c.in-Ok.customer c.args.number c.args.command) c.in-Ok-apply.reply
    c.in-Ok-apply.ensures.reply ((c.in-Ok.ensures.ok, refl, refl), tt)

pub returns-in-Err-NoMemory-clause-works : goal.returns-in-Err-NoMemory-clause-works
returns-in-Err-NoMemory-clause-works g c =
    worked_still c.kept_offices_run_whole.ensures g.S.Store c.args.bureau.now.conn c.apply.new.self.conn c.apply.new.self.broken _
    (λ clean. c.in-Err-NoMemory.ensures.no_memory clean (ap Err c.in-Err-NoMemory.field-0-is)) tt

pub returns-clause-works : goal.returns-clause-works
returns-clause-works g c =
    worked_doubted c.kept_offices_run_whole.ensures g.S.Store c.args.bureau.now.conn c.apply.new.self.conn c.apply.new.self.broken
    (TellsAsked c.args.customer.now c.args.number c.args.command) (OnJob c.in-Ok.customer c.args.number c.args.command)
    (c.in-Err-Store.ensures.broken (ap Err c.in-Err-Store.field-0-is)) c.in-Err-Store.ensures.crash ((c.in-Ok.ensures.ok, refl, refl), tt)
