use Rattle.std.proofs.Common.{arith, ap, sym, subst, ◌+◌, ◌∙◌, ◌++◌, map, take}
use Rattle.std.proofs.lemmas.List.{append-nil, take_all}
use Rattle.std.specs.List.{All}
use Rattle.ledger_rows.specs.Pockets.{punched_bytes, IsPunched}
use Rattle.sqlite.specs.State.{HasCleanDisk}
use Rattle.ledger_tables.specs.Steps.{seen}
use Rattle.ledger_tables.specs.Tables.{Holds, with_cards}
use Rattle.ledger_tables.proofs.Stepping.{step_still, step_then, step_ends}
use Rattle.ledger.proofs.SavingLemmas.{one_more_behind, all_more, rows_behind, cards_still, cards_place, card_pushed}
use Rattle.ledger.proofs.saving.insert_cards.Goals as goal

pub loop-place-init : goal.loop-place-init
loop-place-init g c = record {
  step = step_still g.S.Store c.args.tables.now 0;
  characters = λ k d less. absurd (omega (arith, less));
  added = λ earlier clean inside t holds there.
      cards_still (seen g.S.Store c.args.tables.now).now t c.args.name.customer.now c.args.name.number _ holds (there.are ∙ ap (map punched_bytes) (sym (append-nil earlier)));
}

pub loop-place-preserved : goal.loop-place-preserved
loop-place-preserved g c =
    let mid = seen g.S.Store c.loop-place.tables in
    let last = seen g.S.Store c.insert_card.new.self in
    let did = c.in_ok-insert_card.ensures in
    let was = c.loop-place.invariant in
    let early = λ (clean : HasCleanDisk last). let h : HasCleanDisk mid = omega (arith, c.insert_card.ensures.step.survives.clean) in h in
    record {
      step = step_ends g.S.Store _ _ _ _ (step_then g.S.Store _ _ _ _ _ was.step did.step);
      characters = all_more IsPunched c.args.cards.now c.loop-place.place c.index-cards-place.result c.loop-place-test.true c.index-cards-place.is was.characters (subst IsPunched (sym c.index-cards-place.is) c.card_bytes-bytes.ensures.card);
      added = λ earlier clean inside t holds there.
          let on = was.step.frame (early clean) inside in
          let before = was.added earlier (early clean) inside t holds there in
          let place = c.loop-place.place in
          let cards = map punched_bytes (earlier ++ take place c.args.cards.now) in
          let many = rows_behind punched_bytes earlier c.args.cards.now c.args.before place there.count (omega (arith, c.loop-place-test.true)) in
          let after = did.added clean on.inside (with_cards c.args.name.customer.now c.args.name.number cards t) before (cards_place t c.args.name.customer.now c.args.name.number cards (c.args.before + place) many) in
          card_pushed last.now t c.args.name.customer.now c.args.name.number cards (map punched_bytes (earlier ++ take (place + 1) c.args.cards.now)) _ (one_more_behind punched_bytes earlier c.args.cards.now place c.index-cards-place.result _ c.loop-place-test.true c.index-cards-place.is (c.card_bytes-bytes.ensures.bytes ∙ ap punched_bytes (sym c.index-cards-place.is))) after;
    }

pub returns-clause-added : goal.returns-clause-added
returns-clause-added g c earlier clean inside t holds has =
    subst (λ cards. Holds (seen g.S.Store c.loop-place.tables).now (with_cards c.args.name.customer.now c.args.name.number (map punched_bytes (earlier ++ cards)) t))
    (take_all c.loop-place.place c.args.cards.now (omega (arith, c.loop-place-test.false))) (c.loop-place.invariant.added earlier clean inside t holds has)

pub returns-clause-characters : goal.returns-clause-characters
returns-clause-characters g c =
    subst (All IsPunched) (take_all c.loop-place.place c.args.cards.now (omega (arith, c.loop-place-test.false))) c.loop-place.invariant.characters
