use Rattle.std.proofs.Common.{◌∙◌, ◌+◌, ◌++◌, ap, drop, arith}
use Rattle.run_traces.specs.CountedCards.{cards_counted}
use Rattle.run_traces.specs.Profiles.{began_at}
use Rattle.run_traces.proofs.CardCountLemmas.{card_on, cards_done, slots_done}
use Rattle.run_traces.proofs.counted_cards.push_cards.Goals as goal

pub loop-i-preserved : goal.loop-i-preserved
loop-i-preserved c = λ m attempts counted.
    let i = c.loop-i.i in
    let counts = began_at m attempts in
    ap (λ done. done ++ cards_counted counts (i + 1 + 1) (drop (i + 1) c.args.cards.now) (drop (i + 1) c.args.slots.now)) (c.in_ok-push_card.ensures m attempts counted)
    ∙ card_on counts c.loop-i.text.items c.args.cards.now c.args.slots.now i c.index-cards-i.result c.index-slots-i.result (omega arith) (omega arith) c.index-cards-i.is c.index-slots-i.is
    ∙ c.loop-i.invariant m attempts counted

pub returns : goal.returns
returns c = λ m attempts counted. cards_done (began_at m attempts) _ _ c.args.cards.now c.args.slots.now c.loop-i.i c.loop-i-test.false (c.loop-i.invariant m attempts counted)

pub returns-then-i-slots : goal.returns-then-i-slots
returns-then-i-slots c = λ m attempts counted. slots_done (began_at m attempts) _ _ c.args.cards.now c.args.slots.now c.loop-i.i c.if-i-slots.true (c.loop-i.invariant m attempts counted)
