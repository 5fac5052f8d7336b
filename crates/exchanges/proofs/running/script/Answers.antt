use Rattle.std.proofs.Common.{refl, inl, inr, subst}
use Rattle.scripts.specs.Scripts.{IsFaultOf}
use Rattle.scripts.specs.declared.faults.ScriptFault.TheVariants as fault
use Rattle.ledger.proofs.WorkLemmas.{worked_still}
use Rattle.exchanges.proofs.RunningLemmas.{long_is_other, line_is_other, read_as, read_bad, script_worked}
use Rattle.exchanges.proofs.running.script.Goals as goal

pub returns-in-Ok-parse-clause-end : goal.returns-in-Ok-parse-clause-end
returns-in-Ok-parse-clause-end g c = inr (
  c.deref-in-Ok-parse.result.now,
  read_as (g.R.Read.remaining c.args.reader.now) c.in-Ok.bytes.items c.deref.result.now c.in-Ok-parse.commands.items c.deref-in-Ok-parse.result.now
      c.in-Ok.ensures c.deref.ensures.value c.in-Ok-parse.ensures.script c.deref-in-Ok-parse.ensures.value,
  c.apply_all.ensures.count,
  c.apply_all.ensures.runs,
  c.apply_all.ensures.stands,
  c.apply_all.ensures.crash,
  c.apply_all.ensures.meter,
)

pub returns-in-Err-NoMemory-clause-end : goal.returns-in-Err-NoMemory-clause-end
returns-in-Err-NoMemory-clause-end g c = inl (refl, refl, (c.give_up.ensures.none, inr (inl c.give_up.ensures.end)))

pub returns-in-Err-NoMemory-parse-clause-end : goal.returns-in-Err-NoMemory-parse-clause-end
returns-in-Err-NoMemory-parse-clause-end g c =
    inl (refl, refl, (c.give_up-in-Err-NoMemory-parse.ensures.none, inr (inl c.give_up-in-Err-NoMemory-parse.ensures.end)))

pub returns-in-Err-TooLong-clause-end : goal.returns-in-Err-TooLong-clause-end
returns-in-Err-TooLong-clause-end g c =
    let found = subst (IsFaultOf c.deref.result.now) c.in-Err-TooLong.field-0-is c.in-Err-TooLong.ensures.fault in
    let bad = read_bad (g.R.Read.remaining c.args.reader.now) c.in-Ok.bytes.items c.deref.result.now fault.TooLong c.in-Ok.ensures c.deref.ensures.value found in
    inl (refl, refl, (c.turn_down.ensures.none, inr (inr (fault.TooLong, long_is_other, bad, c.turn_down.ensures.end))))

pub returns-clause-end : goal.returns-clause-end
returns-clause-end g c =
    let number = c.in-Err-BadLine.number in
    let found = subst (IsFaultOf c.deref.result.now) c.in-Err-BadLine.field-0-is c.in-Err-BadLine.ensures.fault in
    let bad = read_bad (g.R.Read.remaining c.args.reader.now) c.in-Ok.bytes.items c.deref.result.now (fault.BadLine number) c.in-Ok.ensures c.deref.ensures.value found in
    inl (refl, refl, (c.turn_down-in-Err-BadLine.ensures.none, inr (inr (fault.BadLine number, line_is_other number, bad, c.turn_down-in-Err-BadLine.ensures.end))))

-- ---- the work

pub returns-in-Ok-parse-clause-works : goal.returns-in-Ok-parse-clause-works
returns-in-Ok-parse-clause-works g c =
    script_worked c.kept_offices_run_whole.ensures g.S.Store c.args.bureau.now.conn c.apply_all.new.bureau.conn c.apply_all.new.bureau.broken c.apply_all.result
    c.deref-in-Ok-parse.result.now (g.R.Read.remaining c.args.reader.now) (g.W.Write.contents c.args.writer.now) (g.W.Write.contents c.apply_all.new.writer)
    (read_as (g.R.Read.remaining c.args.reader.now) c.in-Ok.bytes.items c.deref.result.now c.in-Ok-parse.commands.items c.deref-in-Ok-parse.result.now
    c.in-Ok.ensures c.deref.ensures.value c.in-Ok-parse.ensures.script c.deref-in-Ok-parse.ensures.value)
    c.apply_all.ensures.count c.apply_all.ensures.runs c.apply_all.ensures.stands c.apply_all.ensures.crash c.apply_all.ensures.broken

pub returns-in-Err-NoMemory-clause-works : goal.returns-in-Err-NoMemory-clause-works
returns-in-Err-NoMemory-clause-works g c =
    worked_still c.kept_offices_run_whole.ensures g.S.Store c.args.bureau.now.conn c.args.bureau.now.conn c.args.bureau.now.broken _ (λ clean o s. s)
    (inl (refl, refl, (c.give_up.ensures.none, inr (inl c.give_up.ensures.end))))

pub returns-in-Err-ReadFailed-clause-works : goal.returns-in-Err-ReadFailed-clause-works
returns-in-Err-ReadFailed-clause-works g c =
    worked_still c.kept_offices_run_whole.ensures g.S.Store c.args.bureau.now.conn c.args.bureau.now.conn c.args.bureau.now.broken _ (λ clean o s. s)
    (inl (refl, refl, ((refl, refl), inl (refl, refl, refl))))

pub returns-in-Err-NoMemory-parse-clause-works : goal.returns-in-Err-NoMemory-parse-clause-works
returns-in-Err-NoMemory-parse-clause-works g c =
    worked_still c.kept_offices_run_whole.ensures g.S.Store c.args.bureau.now.conn c.args.bureau.now.conn c.args.bureau.now.broken _ (λ clean o s. s)
    (inl (refl, refl, (c.give_up-in-Err-NoMemory-parse.ensures.none, inr (inl c.give_up-in-Err-NoMemory-parse.ensures.end))))

pub returns-in-Err-TooLong-clause-works : goal.returns-in-Err-TooLong-clause-works
returns-in-Err-TooLong-clause-works g c =
    let found = subst (IsFaultOf c.deref.result.now) c.in-Err-TooLong.field-0-is c.in-Err-TooLong.ensures.fault in
    let bad = read_bad (g.R.Read.remaining c.args.reader.now) c.in-Ok.bytes.items c.deref.result.now fault.TooLong c.in-Ok.ensures c.deref.ensures.value found in
    worked_still c.kept_offices_run_whole.ensures g.S.Store c.args.bureau.now.conn c.args.bureau.now.conn c.args.bureau.now.broken _ (λ clean o s. s)
    (inl (refl, refl, (c.turn_down.ensures.none, inr (inr (fault.TooLong, long_is_other, bad, c.turn_down.ensures.end)))))

pub returns-clause-works : goal.returns-clause-works
returns-clause-works g c =
    let number = c.in-Err-BadLine.number in
    let found = subst (IsFaultOf c.deref.result.now) c.in-Err-BadLine.field-0-is c.in-Err-BadLine.ensures.fault in
    let bad = read_bad (g.R.Read.remaining c.args.reader.now) c.in-Ok.bytes.items c.deref.result.now (fault.BadLine number) c.in-Ok.ensures c.deref.ensures.value found in
    worked_still c.kept_offices_run_whole.ensures g.S.Store c.args.bureau.now.conn c.args.bureau.now.conn c.args.bureau.now.broken _ (λ clean o s. s)
    (inl (refl, refl, (c.turn_down-in-Err-BadLine.ensures.none, inr (inr (fault.BadLine number, line_is_other number, bad, c.turn_down-in-Err-BadLine.ensures.end)))))

-- ---- a broken bureau

pub returns-in-Ok-parse-clause-ended : goal.returns-in-Ok-parse-clause-ended
returns-in-Ok-parse-clause-ended g c broken =
    let now = c.apply_all.ensures.ended broken in (
      now.0,
      now.1,
      inr (
        c.deref-in-Ok-parse.result.now,
        read_as (g.R.Read.remaining c.args.reader.now) c.in-Ok.bytes.items c.deref.result.now c.in-Ok-parse.commands.items c.deref-in-Ok-parse.result.now
            c.in-Ok.ensures c.deref.ensures.value c.in-Ok-parse.ensures.script c.deref-in-Ok-parse.ensures.value,
        now.2,
      ),
    )

pub returns-in-Err-NoMemory-clause-ended : goal.returns-in-Err-NoMemory-clause-ended
returns-in-Err-NoMemory-clause-ended g c broken = (refl, refl, inl (c.give_up.ensures.none, inr (inl c.give_up.ensures.end)))

pub returns-in-Err-NoMemory-parse-clause-ended : goal.returns-in-Err-NoMemory-parse-clause-ended
returns-in-Err-NoMemory-parse-clause-ended g c broken =
    (refl, refl, inl (c.give_up-in-Err-NoMemory-parse.ensures.none, inr (inl c.give_up-in-Err-NoMemory-parse.ensures.end)))

pub returns-in-Err-TooLong-clause-ended : goal.returns-in-Err-TooLong-clause-ended
returns-in-Err-TooLong-clause-ended g c broken =
    let found = subst (IsFaultOf c.deref.result.now) c.in-Err-TooLong.field-0-is c.in-Err-TooLong.ensures.fault in
    let bad = read_bad (g.R.Read.remaining c.args.reader.now) c.in-Ok.bytes.items c.deref.result.now fault.TooLong c.in-Ok.ensures c.deref.ensures.value found in
    (refl, refl, inl (c.turn_down.ensures.none, inr (inr (fault.TooLong, long_is_other, bad, c.turn_down.ensures.end))))

pub returns-clause-ended : goal.returns-clause-ended
returns-clause-ended g c broken =
    let number = c.in-Err-BadLine.number in
    let found = subst (IsFaultOf c.deref.result.now) c.in-Err-BadLine.field-0-is c.in-Err-BadLine.ensures.fault in
    let bad = read_bad (g.R.Read.remaining c.args.reader.now) c.in-Ok.bytes.items c.deref.result.now (fault.BadLine number) c.in-Ok.ensures c.deref.ensures.value found in
    (refl, refl, inl (c.turn_down-in-Err-BadLine.ensures.none, inr (inr (fault.BadLine number, line_is_other number, bad, c.turn_down-in-Err-BadLine.ensures.end))))
