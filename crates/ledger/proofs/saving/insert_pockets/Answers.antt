use Rattle.std.proofs.Common.{arith, ap, sym, subst, ◌+◌, ◌∙◌, ◌++◌, take}
use Rattle.std.proofs.lemmas.List.{append-nil, take_all}
use Rattle.sqlite.specs.State.{HasCleanDisk}
use Rattle.units.specs.declared.punch.Punched.{Punched}
use Rattle.ledger_rows.specs.Pockets.{pocket_rows_of}
use Rattle.ledger_tables.specs.Steps.{seen}
use Rattle.ledger_tables.specs.Tables.{Holds, with_pockets}
use Rattle.ledger_tables.proofs.Stepping.{step_still, step_then, step_ends}
use Rattle.ledger.specs.Saving.{with_card_pocket}
use Rattle.ledger.proofs.SavingPockets.{pockets_still, pocket_free, pocket_pushed}
use Rattle.ledger.proofs.saving.insert_pockets.Goals as goal

pub loop-place-init : goal.loop-place-init
loop-place-init g c = record {
  step = step_still g.S.Store c.args.tables.now 0;
  added = λ earlier clean inside t holds there.
      pockets_still (seen g.S.Store c.args.tables.now).now t c.args.name.customer.now c.args.name.number _ holds (there.are ∙ ap pocket_rows_of (sym (append-nil earlier)));
}

pub loop-place-preserved : goal.loop-place-preserved
loop-place-preserved g c =
    let mid = seen g.S.Store c.loop-place.tables in
    let last = seen g.S.Store c.insert_pocket.new.tables in
    let did = c.in_ok-insert_pocket.ensures in
    let was = c.loop-place.invariant in
    let early = λ (clean : HasCleanDisk last). let h : HasCleanDisk mid = omega (arith, c.insert_pocket.ensures.step.survives.clean) in h in
    record {
      step = step_ends g.S.Store _ _ _ _ (step_then g.S.Store _ _ _ _ _ was.step did.step);
      added = λ earlier clean inside t holds there.
          let on = was.step.frame (early clean) inside in
          let before = was.added earlier (early clean) inside t holds there in
          let place = c.loop-place.place in
          let free = pocket_free t c.args.name.customer.now c.args.name.number earlier c.args.cards.now c.args.before place there.count c.loop-place-test.true in
          let with_them = with_pockets c.args.name.customer.now c.args.name.number (pocket_rows_of (earlier ++ take place c.args.cards.now)) t in
          let after = subst (λ (card : Punched). Holds last.now (with_card_pocket c.args.name (c.args.before + place + 1) card.pocket with_them)) (sym c.index-cards-place.is) (did.added clean on.inside with_them before free) in
          pocket_pushed t c.args.name.customer.now c.args.name.number earlier c.args.cards.now c.args.before place there.count c.loop-place-test.true last.now c.index-cards-place.result c.index-cards-place.is after;
    }

pub returns-clause-added : goal.returns-clause-added
returns-clause-added g c earlier clean inside t holds has =
    subst (λ cards. Holds (seen g.S.Store c.loop-place.tables).now (with_pockets c.args.name.customer.now c.args.name.number (pocket_rows_of (earlier ++ cards)) t))
    (take_all c.loop-place.place c.args.cards.now (omega (arith, c.loop-place-test.false))) (c.loop-place.invariant.added earlier clean inside t holds has)
