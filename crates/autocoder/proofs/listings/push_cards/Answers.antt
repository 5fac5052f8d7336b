use Rattle.std.proofs.Common.{◌∙◌, ◌++◌, ◌+◌, ap, arith, drop}
use Rattle.autocoder.specs.Listing.{line_text}
use Rattle.autocoder.proofs.ListingLemmas.{card_lines_step, card_lines_past_cards, card_lines_past_slots}
use Rattle.autocoder.proofs.listings.push_cards.Goals as goal

pub loop-i-preserved : goal.loop-i-preserved
loop-i-preserved c =
    card_lines_step c.loop-i.text.items c.push_line.new.text.items c.args.cards.now c.args.slots.now c.loop-i.i c.index-cards-i.result _ c.index-slots-i.result _ c.in_ok-line.line.items
    c.loop-i-test.true (omega arith) c.index-cards-i.is c.index-slots-i.is c.in_ok-line.ensures (c.in_ok-push_line.ensures ∙ ap (λ l. c.loop-i.text.items ++ line_text l) c.deref.ensures.value)
    ∙ c.loop-i.invariant

pub returns : goal.returns
returns c = card_lines_past_cards c.loop-i.text.items c.args.cards.now (drop c.loop-i.i c.args.slots.now) c.loop-i.i (c.loop-i.i + 1) c.loop-i-test.false ∙ c.loop-i.invariant

pub returns-then-i-slots : goal.returns-then-i-slots
returns-then-i-slots c = card_lines_past_slots c.loop-i.text.items (drop c.loop-i.i c.args.cards.now) c.args.slots.now c.loop-i.i (c.loop-i.i + 1) c.if-i-slots.true ∙ c.loop-i.invariant
