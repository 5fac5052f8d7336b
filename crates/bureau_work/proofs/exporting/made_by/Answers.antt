use Rattle.std.proofs.Common.{arith, false, subst}
use Rattle.ledger.proofs.WorkLemmas.{worked_still}
use Rattle.ledger.specs.Working.{HasWorked}
use Rattle.bureau_work.specs.Work.{TellsExport}
use Rattle.bureau_work.proofs.WorkLemmas.{asked_more, whole_so_far}
use Rattle.bureau_work.proofs.exporting.made_by.Goals as goal

pub loop-ending-init : goal.loop-ending-init
loop-ending-init g c = record {
  works = worked_still c.kept_offices_run_whole.ensures g.S.Store c.args.bureau.now.conn c.args.bureau.now.conn false _ (λ clean o s. s) tt;
  clean = omega arith;
}

pub loop-ending-preserved : goal.loop-ending-preserved
loop-ending-preserved g c =
    let was = c.loop-ending.invariant in
    record {
      works = subst (λ b. HasWorked g.S.Store c.args.bureau.now.conn c.bytes_for.new.bureau.conn b (TellsExport c.args.customer.now c.args.number)) c.in_ok-bytes.ensures.whole
          (asked_more g.S.Store c.args.bureau.now.conn c.bytes_for.new.bureau.conn c.args.customer.now c.args.number c.loop-ending.bureau.conn c.bytes_for.new.bureau.broken _
          c.bytes_for.ensures.clean was.works c.bytes_for.ensures.works);
      clean = omega (arith, was.clean, c.bytes_for.ensures.clean);
    }

pub returns-in_err-bytes-clause-works : goal.returns-in_err-bytes-clause-works
returns-in_err-bytes-clause-works g c =
    asked_more g.S.Store c.args.bureau.now.conn c.bytes_for.new.bureau.conn c.args.customer.now c.args.number c.loop-ending.bureau.conn c.bytes_for.new.bureau.broken _ c.bytes_for.ensures.clean
    c.loop-ending.invariant.works c.bytes_for.ensures.works

pub returns-then-is_err-clause-works : goal.returns-then-is_err-clause-works
returns-then-is_err-clause-works g c =
    asked_more g.S.Store c.args.bureau.now.conn c.bytes_for.new.bureau.conn c.args.customer.now c.args.number c.loop-ending.bureau.conn c.bytes_for.new.bureau.broken _ c.bytes_for.ensures.clean
    c.loop-ending.invariant.works c.bytes_for.ensures.works

pub returns-clause-works : goal.returns-clause-works
returns-clause-works g c = whole_so_far g.S.Store c.args.bureau.now.conn c.loop-ending.bureau.conn (TellsExport c.args.customer.now c.args.number) c.loop-ending.bureau.broken c.loop-ending.invariant.works
