use Rattle.std.proofs.Common.{◌≡◌, ◌<◌, ◌+◌, arith, take as beginning_of, get_or, length, [], ◌∷◌, ◌++◌, Some, inl, inr, subst, sym, refl, ap, ◌∙◌}
use Rattle.std.specs.Prelude.{IsTrue}
use Rattle.office.specs.Office as offices
use Rattle.sqlite.specs.State.{HasCleanDisk}
use Rattle.sqlite.specs.Held.{state}
use Rattle.ledger.specs.Meters.{RisenWithin, attempted_by_all}
use Rattle.machine.specs.Run.{risen}
use Rattle.exchanges.specs.Running.{office_after, reply_lines}
use Rattle.scripts.specs.Replies.{fault_line}
use Rattle.ledger_tables.specs.Faults.{fault_number}
use Rattle.ledger.proofs.ShiftLemmas.{attempted_more, leaves_after, leaves_either, risen_just, risen_more, risen_on_fault}
use Rattle.exchanges.proofs.ApplyingLemmas.{begun_after, count_one, nothing_sent, part_more, refused_more, so_far_more, stands_more, stopped_at_first, stopped_at_none}
use Rattle.exchanges.proofs.applying.apply_all.Goals as goal

pub loop-command-init : goal.loop-command-init
unfolding offices.fold attempted_by_all
loop-command-init g c = record {
  count = refl;
  kept = refl;
  clean = omega arith;
  runs = record { replies = []; count = refl; refusing = refl; lines = nothing_sent _; stands = λ clean office s. (s, refl) };
  ticks = λ clean office s. omega arith;
  untouched = λ broken. (refl, refl, refl, refl, refl, refl);
}

pub loop-command-preserved : goal.loop-command-preserved
loop-command-preserved g c =
    let was = c.loop-command.invariant in
    let commands = c.args.commands.now in
    let done = c.loop-command.acknowledged in
    let it = c.command-item.result in
    let within : done < length commands = omega (arith, was.count) in
    let is : it ≡ get_or commands done it = c.command-item.is ∙ ap (λ n. get_or commands n it) (sym was.count) in
    let contents = g.W.Write.contents in
    let step = c.in-Replied.ensures.step in
    record {
      count = ap (λ n. n + 1) was.count;
      kept = elim c.in-Replied.ensures.kept [ inl same ↦ same ∙ was.kept | inr fault ↦ absurd (let e = fault in cc) ];
      clean = omega (arith, was.clean, c.carry_out.ensures.clean);
      runs = so_far_more g.S.Store c.args.bureau.now.conn c.loop-command.bureau.conn c.carry_out.new.bureau.conn c.carry_out.ensures.clean commands done it within is step.0 step.1
          c.loop-command.refused (contents c.args.writer.now) (contents c.loop-command.writer) c.loop-command.sent was.runs
          c.in-Replied.now c.any_refused-refused.result (contents c.carry_out.new.writer) c.carry_out.new.sent step.2 step.3 c.any_refused-refused.ensures;
      ticks = λ clean office s.
          let early : HasCleanDisk (state g.S.Store c.loop-command.bureau.conn) = omega (arith, c.carry_out.ensures.clean) in
          risen_more _ _ _ _ _ (was.ticks early office s) (c.in-Replied.ensures.meter clean (office_after done commands office) (was.runs.stands early office s).0) ∙ ap (risen c.args.meter.now) (sym (attempted_more commands done it within is office));
      untouched = λ broken. absurd (let e = (c.in-Replied.ensures.ended (subst IsTrue (sym was.kept) broken)).0 in cc);
    }

pub returns-in-Unwritten-clause-count : goal.returns-in-Unwritten-clause-count
returns-in-Unwritten-clause-count g c =
    omega (arith, c.loop-command.invariant.count)

pub returns-in-Unwritten-clause-runs : goal.returns-in-Unwritten-clause-runs
returns-in-Unwritten-clause-runs g c =
    let was = c.loop-command.invariant in
    let commands = c.args.commands.now in
    let done = c.loop-command.acknowledged in
    let it = c.command-item.result in
    let within : done < length commands = omega (arith, was.count) in
    let is : it ≡ get_or commands done it = c.command-item.is ∙ ap (λ n. get_or commands n it) (sym was.count) in
    let contents = g.W.Write.contents in
    let step = c.in-Unwritten.ensures.step in
    record {
      replies = was.runs.replies ++ step.0 ∷ [];
      told = record {
        count = count_one g.S.Store c.args.bureau.now.conn c.loop-command.bureau.conn c.carry_out.new.bureau.conn c.carry_out.ensures.clean commands done it within is step.0 step.1
            c.loop-command.refused (contents c.args.writer.now) (contents c.loop-command.writer) c.loop-command.sent was.runs;
        refused = refused_more was.runs.replies step.0 c.loop-command.refused c.in-Unwritten.now c.any_refused.result was.runs.refusing step.2 c.any_refused.ensures;
        text = part_more was.runs.replies step.0 (contents c.args.writer.now) (contents c.loop-command.writer) (contents c.carry_out.new.writer) c.loop-command.sent c.carry_out.new.sent was.runs.lines step.3;
      };
      are = λ clean office s.
          (stands_more g.S.Store c.args.bureau.now.conn c.loop-command.bureau.conn c.carry_out.new.bureau.conn c.carry_out.ensures.clean commands done it within is step.0 step.1
          c.loop-command.refused (contents c.args.writer.now) (contents c.loop-command.writer) c.loop-command.sent was.runs clean office s).1;
    }

-- the tables after the command whose line was not written
unwritten_stands : goal.returns-in-Unwritten-clause-stands
unwritten_stands g c clean other office s =
    let was = c.loop-command.invariant in
    let commands = c.args.commands.now in
    let done = c.loop-command.acknowledged in
    let it = c.command-item.result in
    let within : done < length commands = omega (arith, was.count) in
    let is : it ≡ get_or commands done it = c.command-item.is ∙ ap (λ n. get_or commands n it) (sym was.count) in
    let contents = g.W.Write.contents in
    let step = c.in-Unwritten.ensures.step in
    let here = (stands_more g.S.Store c.args.bureau.now.conn c.loop-command.bureau.conn c.carry_out.new.bureau.conn c.carry_out.ensures.clean commands done it within is step.0 step.1
    c.loop-command.refused (contents c.args.writer.now) (contents c.loop-command.writer) c.loop-command.sent was.runs clean office s).0 in
    (here, λ opened. c.kept_offices_run_whole.ensures _ _ (here.now opened))

pub returns-in-Unwritten-clause-stands : goal.returns-in-Unwritten-clause-stands
returns-in-Unwritten-clause-stands = unwritten_stands

pub returns-in-Unwritten-clause-crash : goal.returns-in-Unwritten-clause-crash
returns-in-Unwritten-clause-crash g c clean office s db may =
    let was = c.loop-command.invariant in
    let commands = c.args.commands.now in
    let done = c.loop-command.acknowledged in
    let within : done < length commands = omega (arith, was.count) in
    let here = (unwritten_stands g c clean (λ e. let f = e in cc) office s).0 in
    leaves_after c.kept_offices_run_whole.ensures db office commands (done + 1) (omega (arith, within)) (here.left db may)

pub returns-in-Unwritten-clause-meter : goal.returns-in-Unwritten-clause-meter
returns-in-Unwritten-clause-meter g c clean office s =
    let was = c.loop-command.invariant in
    let commands = c.args.commands.now in
    let done = c.loop-command.acknowledged in
    let it = c.command-item.result in
    let within : done < length commands = omega (arith, was.count) in
    let is : it ≡ get_or commands done it = c.command-item.is ∙ ap (λ n. get_or commands n it) (sym was.count) in
    let early : HasCleanDisk (state g.S.Store c.loop-command.bureau.conn) = omega (arith, c.carry_out.ensures.clean) in
    risen_just c.args.meter.now c.carry_out.new.meter (attempted_by_all (beginning_of (done + 1) commands) office)
    (risen_more _ _ _ _ _ (was.ticks early office s) (c.in-Unwritten.ensures.meter clean (office_after done commands office) (was.runs.stands early office s).0) ∙ ap (risen c.args.meter.now) (sym (attempted_more commands done it within is office)))

pub returns-in-Unwritten-clause-ended : goal.returns-in-Unwritten-clause-ended
returns-in-Unwritten-clause-ended g c broken =
    absurd (let e = (c.in-Unwritten.ensures.ended (subst IsTrue (sym c.loop-command.invariant.kept) broken)).0 in cc)

pub returns-in-Faulted-clause-count : goal.returns-in-Faulted-clause-count
returns-in-Faulted-clause-count g c =
    omega (arith, c.loop-command.invariant.count)

pub returns-in-Faulted-clause-runs : goal.returns-in-Faulted-clause-runs
returns-in-Faulted-clause-runs g c =
    let was = c.loop-command.invariant in
    let contents = g.W.Write.contents in
    record {
      replies = was.runs.replies;
      told = record {
        count = was.runs.count;
        refused = was.runs.refusing;
        text = begun_after (reply_lines was.runs.replies) (fault_line (fault_number c.in-Faulted.fault)) (contents c.args.writer.now) (contents c.loop-command.writer) (contents c.carry_out.new.writer) c.loop-command.sent c.carry_out.new.sent was.runs.lines c.in-Faulted.ensures.step.1;
      };
      are = λ clean office s.
          let early : HasCleanDisk (state g.S.Store c.loop-command.bureau.conn) = omega (arith, c.carry_out.ensures.clean) in
          (was.runs.stands early office s).1;
    }

pub returns-in-Faulted-clause-stands : goal.returns-in-Faulted-clause-stands
returns-in-Faulted-clause-stands g c clean other office s =
    let was = c.loop-command.invariant in
    let commands = c.args.commands.now in
    let done = c.loop-command.acknowledged in
    let early : HasCleanDisk (state g.S.Store c.loop-command.bureau.conn) = omega (arith, c.carry_out.ensures.clean) in
    let here = c.in-Faulted.ensures.step.0 (λ same. other (ap Some same)) clean (office_after done commands office) (was.runs.stands early office s).0 in
    (here, λ opened. c.kept_offices_run_whole.ensures _ _ (here.now opened))

pub returns-in-Faulted-clause-crash : goal.returns-in-Faulted-clause-crash
returns-in-Faulted-clause-crash g c clean office s db may =
    let was = c.loop-command.invariant in
    let commands = c.args.commands.now in
    let done = c.loop-command.acknowledged in
    let it = c.command-item.result in
    let within : done < length commands = omega (arith, was.count) in
    let is : it ≡ get_or commands done it = c.command-item.is ∙ ap (λ n. get_or commands n it) (sym was.count) in
    let early : HasCleanDisk (state g.S.Store c.loop-command.bureau.conn) = omega (arith, c.carry_out.ensures.clean) in
    leaves_either c.kept_offices_run_whole.ensures db office commands done it within is (c.in-Faulted.ensures.crash clean (office_after done commands office) (was.runs.stands early office s).0 db may)

pub returns-in-Faulted-clause-meter : goal.returns-in-Faulted-clause-meter
returns-in-Faulted-clause-meter g c clean office s =
    let was = c.loop-command.invariant in
    let commands = c.args.commands.now in
    let done = c.loop-command.acknowledged in
    let it = c.command-item.result in
    let within : done < length commands = omega (arith, was.count) in
    let is : it ≡ get_or commands done it = c.command-item.is ∙ ap (λ n. get_or commands n it) (sym was.count) in
    let early : HasCleanDisk (state g.S.Store c.loop-command.bureau.conn) = omega (arith, c.carry_out.ensures.clean) in
    let more = attempted_more commands done it within is office in
    subst (λ most. RisenWithin (attempted_by_all (beginning_of done commands) office) most c.args.meter.now c.carry_out.new.meter) (sym more)
    (risen_on_fault _ _ _ _ _ (was.ticks early office s) (c.in-Faulted.ensures.meter clean (office_after done commands office) (was.runs.stands early office s).0))

pub returns-in-Faulted-clause-ended : goal.returns-in-Faulted-clause-ended
returns-in-Faulted-clause-ended g c broken =
    let was = c.loop-command.invariant in
    let contents = g.W.Write.contents in
    let now = c.in-Faulted.ensures.ended (subst IsTrue (sym was.kept) broken) in
    let none = was.untouched broken in (
      now.1 ∙ none.3,
      now.2 ∙ none.4,
      stopped_at_first c.args.commands.now c.loop-command.acknowledged c.loop-command.refused c.loop-command.sent c.carry_out.new.sent c.in-Faulted.fault (contents c.args.writer.now) (contents c.loop-command.writer) (contents c.carry_out.new.writer)
          (omega (arith, was.count)) none.0 none.1 none.2 none.5 (let e = now.0 in cc) c.in-Faulted.ensures.step.1,
    )

pub returns-clause-runs : goal.returns-clause-runs
returns-clause-runs g c =
    let was = c.loop-command.invariant in
    record {
      replies = was.runs.replies;
      told = record { count = was.runs.count; refused = was.runs.refusing; text = was.runs.lines };
      are = λ clean office s. (was.runs.stands clean office s).1;
    }

pub returns-clause-stands : goal.returns-clause-stands
returns-clause-stands g c clean other office s =
    let here = (c.loop-command.invariant.runs.stands clean office s).0 in
    (here, λ opened. c.kept_offices_run_whole.ensures _ _ (here.now opened))

pub returns-clause-crash : goal.returns-clause-crash
returns-clause-crash g c clean office s db may =
    let now = (c.loop-command.invariant.runs.stands clean office s).0 in
    leaves_after c.kept_offices_run_whole.ensures db office c.args.commands.now c.loop-command.acknowledged (omega (arith, c.loop-command.invariant.count)) (now.left db may)

pub returns-clause-meter : goal.returns-clause-meter
returns-clause-meter g c clean office s =
    risen_just c.args.meter.now c.loop-command.meter (attempted_by_all (beginning_of c.loop-command.acknowledged c.args.commands.now) office) (c.loop-command.invariant.ticks clean office s)

pub returns-clause-ended : goal.returns-clause-ended
returns-clause-ended g c broken =
    let was = c.loop-command.invariant in
    let contents = g.W.Write.contents in
    let none = was.untouched broken in (
      none.3,
      none.4,
      stopped_at_none c.args.commands.now c.loop-command.acknowledged c.loop-command.refused c.loop-command.sent (contents c.args.writer.now) (contents c.loop-command.writer)
          (omega (arith, was.count)) none.0 none.1 none.2 none.5,
    )
