use Rattle.std.proofs.Common.{◌∙◌, length, ap, arith}
use Rattle.autocoder_layout.specs.Source.{source_of}
use Rattle.autocoder.proofs.ListingLemmas.{few_literals, listing_is}
use Rattle.autocoder.proofs.listings.listing.Goals as goal

pub push_literals-requires : goal.push_literals-requires
push_literals-requires c =
    let source_is = c.source_of.ensures.source ∙ ap source_of c.cards.ensures.cards in
    omega (arith, few_literals c.args.deck.now c.source_of.result.now c.args.program.now c.requires.program source_is (omega (arith, c.source_of.ensures.limit, c.cards.ensures.limit)), ap length c.literals.ensures)

pub returns : goal.returns
returns c =
    let source_is = c.source_of.ensures.source ∙ ap source_of c.cards.ensures.cards in
    listing_is c.args.deck.now c.source_of.result.now c.args.program.now c.requires.program source_is c.slots-slots.result.now c.literals.result.now c.place_after.result c.new-text.result.items
    c.push_cards.new.text.items c.push_literals.new.text.items c.slots-slots.ensures c.literals.ensures c.place_after.ensures c.new-text.ensures.items c.in_ok-push_cards.ensures c.in_ok-push_literals.ensures
