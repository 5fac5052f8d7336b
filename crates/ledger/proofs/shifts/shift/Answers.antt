use Rattle.std.proofs.Common.{◌≡◌, ◌+◌, ◌<◌, [], ◌∷◌, ◌++◌, length, get_or, take, inl, inr, Err, IsTrue, refl, sym, ap, subst, ◌∙◌, arith, length-append}
use Rattle.std.proofs.lemmas.Grind.{common_steps}
use Rattle.machine.specs.Run.{risen}
use Rattle.sqlite.specs.State.{HasCleanDisk}
use Rattle.sqlite.specs.Held.{state}
use Rattle.office.specs.Meters.{RisenAtMost}
use Rattle.office.specs.Office.{fold}
use Rattle.office_tables.specs.Standing.{Stands}
use Rattle.ledger.specs.Meters.{RisenWithin, attempted_by_all}
use Rattle.ledger.specs.Shifting.{LeavesWhole, limit_of_all}
use Rattle.ledger.proofs.ShiftLemmas.{office_more, replies_more, attempted_more, limit_more, risen_more, risen_in_all, risen_on_fault, risen_just, not_risen, leaves_after, leaves_either, only_memory}
use Rattle.ledger.proofs.shifts.shift.Goals as goal

pub loop-command-init : goal.loop-command-init
unfolding fold attempted_by_all
loop-command-init g c = record {
  count = ap length c.new-replies.ensures.items;
  stands = λ clean office s. (s, c.new-replies.ensures.items, omega arith);
  most = not_risen _ _ refl;
  kept = refl;
  untouched = λ broken. (refl, refl, refl);
  clean = omega arith;
}

pub loop-command-preserved : goal.loop-command-preserved
loop-command-preserved g c =
    let was = c.loop-command.invariant in
    let commands = c.args.commands.now in
    let i = c.loop-command.command-index in
    let it = c.command-item.result in
    let within : i < length commands = omega arith in
    let is : it ≡ get_or commands i it = c.command-item.is in
    let items = c.push_reserved.ensures.items ∙ ap (λ rs. rs ++ c.in-Ok.reply ∷ []) c.in-Ok.ensures.replies in
    record {
      count = ap length items ∙ length-append c.loop-command.replies.items (c.in-Ok.reply ∷ []) ∙ ap (λ n. n + 1) was.count;
      stands = λ clean office s.
          let early : HasCleanDisk (state g.S.Store c.loop-command.bureau.conn) = omega (arith, c.apply_with_room.ensures.clean) in
          let before = was.stands early office s in
          let o = (fold (take i commands) office).0 in
          let done = c.in-Ok.ensures.reply clean o before.0 in
          let ticked = c.in-Ok.ensures.meter clean o before.0 in (
            subst (Stands (state g.S.Store c.apply_with_room.new.bureau.conn)) (office_more commands i it within is office) done.1,
            items ∙ ap (λ rs. rs ++ c.in-Ok.reply ∷ []) before.1 ∙ ap (λ r. (fold (take i commands) office).1 ++ r ∷ []) done.0 ∙ replies_more commands i it within is office,
            risen_more _ _ _ _ _ before.2 ticked ∙ ap (risen c.args.meter.now) (sym (attempted_more commands i it within is office)),
          );
      most = subst (λ n. RisenAtMost n c.args.meter.now c.apply_with_room.new.meter) (sym (limit_more commands i it within is)) (risen_in_all _ _ _ _ _ was.most c.in-Ok.ensures.most);
      kept = elim c.in-Ok.ensures.kept [ inl same ↦ same ∙ was.kept | inr fault ↦ absurd (let e = fault in cc) ];
      untouched = λ broken. absurd (let e = (c.in-Ok.ensures.ended (subst IsTrue (sym was.kept) broken)).0 in cc);
      clean = omega (arith, was.clean, c.apply_with_room.ensures.clean);
    }

pub returns-in-Err-clause-stands : goal.returns-in-Err-clause-stands
returns-in-Err-clause-stands g c clean other office s =
    let early : HasCleanDisk (state g.S.Store c.loop-command.bureau.conn) = omega (arith, c.apply_with_room.ensures.clean) in
    let commands = c.args.commands.now in
    let i = c.loop-command.command-index in
    let count : c.len.result ≡ i = first_of (omega (arith, ap length c.in-Err.ensures.replies), grind (arith, common_steps, ap length c.in-Err.ensures.replies)) in
    let before = c.loop-command.invariant.stands early office s in
    let still = c.in-Err.ensures.no_memory clean (ap Err (only_memory c.in-Err.fault other)) (fold (take i commands) office).0 before.0 in
    let here = subst (λ n. Stands (state g.S.Store c.apply_with_room.new.bureau.conn) (fold (take n commands) office).0) (sym count) still in
    (here, λ opened. c.kept_offices_run_whole.ensures _ _ (here.now opened))

pub returns-in-Err-clause-left : goal.returns-in-Err-clause-left
returns-in-Err-clause-left g c clean office s db may =
    let early : HasCleanDisk (state g.S.Store c.loop-command.bureau.conn) = omega (arith, c.apply_with_room.ensures.clean) in
    let commands = c.args.commands.now in
    let i = c.loop-command.command-index in
    let count : c.len.result ≡ i = first_of (omega (arith, ap length c.in-Err.ensures.replies), grind (arith, common_steps, ap length c.in-Err.ensures.replies)) in
    let before = c.loop-command.invariant.stands early office s in
    let left = c.in-Err.ensures.crash clean (fold (take i commands) office).0 before.0 db may in
    subst (λ n. LeavesWhole db office (take (n + 1) commands) n) (sym count) (leaves_either c.kept_offices_run_whole.ensures db office commands i c.command-item.result (omega arith) c.command-item.is left)

pub returns-in-Err-clause-meter : goal.returns-in-Err-clause-meter
returns-in-Err-clause-meter g c clean office s =
    let early : HasCleanDisk (state g.S.Store c.loop-command.bureau.conn) = omega (arith, c.apply_with_room.ensures.clean) in
    let commands = c.args.commands.now in
    let i = c.loop-command.command-index in
    let old = c.args.meter.now in
    let new = c.apply_with_room.new.meter in
    let count : c.len.result ≡ i = first_of (omega (arith, ap length c.in-Err.ensures.replies), grind (arith, common_steps, ap length c.in-Err.ensures.replies)) in
    let before = c.loop-command.invariant.stands early office s in
    let o = (fold (take i commands) office).0 in
    let more = attempted_more commands i c.command-item.result (omega arith) c.command-item.is office in
    let within = risen_on_fault _ _ _ _ _ before.2 (c.in-Err.ensures.given_up clean o before.0) in
    subst (λ n. RisenWithin (attempted_by_all (take n commands) office) (attempted_by_all (take (n + 1) commands) office) old new) (sym count) (subst (λ most. RisenWithin (attempted_by_all (take i commands) office) most old new) (sym more) within)

pub returns-in-Err-clause-most : goal.returns-in-Err-clause-most
returns-in-Err-clause-most g c =
    let commands = c.args.commands.now in
    let i = c.loop-command.command-index in
    let old = c.args.meter.now in
    let new = c.apply_with_room.new.meter in
    let count : c.len.result ≡ i = first_of (omega (arith, ap length c.in-Err.ensures.replies), grind (arith, common_steps, ap length c.in-Err.ensures.replies)) in
    let more = limit_more commands i c.command-item.result (omega arith) c.command-item.is in
    subst (λ n. RisenAtMost (limit_of_all (take (n + 1) commands)) old new) (sym count) (subst (λ most. RisenAtMost most old new) (sym more) (risen_in_all _ _ _ _ _ c.loop-command.invariant.most c.in-Err.ensures.most))

pub returns-clause-left : goal.returns-clause-left
returns-clause-left g c clean office s db may =
    let commands = c.args.commands.now in
    let count : c.len-2.result ≡ c.loop-command.command-index = first_of (omega arith, grind (arith, common_steps)) in
    let now = c.loop-command.invariant.stands clean office s in
    subst (λ n. LeavesWhole db office (take n commands) n) (sym count) (leaves_after c.kept_offices_run_whole.ensures db office commands c.loop-command.command-index (omega arith) (now.0.left db may))

pub returns-clause-meter : goal.returns-clause-meter
returns-clause-meter g c clean office s =
    let commands = c.args.commands.now in
    let old = c.args.meter.now in
    let new = c.loop-command.meter in
    let count : c.len-2.result ≡ c.loop-command.command-index = first_of (omega arith, grind (arith, common_steps)) in
    let now = c.loop-command.invariant.stands clean office s in
    subst (λ n. RisenWithin (attempted_by_all (take n commands) office) (attempted_by_all (take n commands) office) old new) (sym count) (risen_just _ _ _ now.2)

pub returns-clause-most : goal.returns-clause-most
returns-clause-most g c =
    let count : c.len-2.result ≡ c.loop-command.command-index = first_of (omega arith, grind (arith, common_steps)) in
    subst (λ n. RisenAtMost (limit_of_all (take n c.args.commands.now)) c.args.meter.now c.loop-command.meter) (sym count) c.loop-command.invariant.most
