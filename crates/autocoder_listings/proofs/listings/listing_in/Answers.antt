use Rattle.std.proofs.Common.{◌∙◌, ap}
use Rattle.autocoder_layout.specs.Source.{source_of}
use Rattle.autocoder_listings.proofs.ListingLemmas.{one_each, no_faults, listing_is}
use Rattle.autocoder_listings.proofs.listings.listing_in.Goals as goal

pub push_cards-requires-clause-one_each : goal.push_cards-requires-clause-one_each
push_cards-requires-clause-one_each c =
    one_each c.args.deck.now c.args.program.now c.requires.program c.layout-layout.result.now c.layout-layout.ensures.size c.layout-layout.ensures.lines c.source_of.result.now (c.source_of.ensures.source ∙ ap source_of c.cards.ensures.cards)

pub push_cards-requires-clause-faultless : goal.push_cards-requires-clause-faultless
push_cards-requires-clause-faultless c =
    no_faults c.args.deck.now c.args.program.now c.requires.program c.layout-layout.result.now c.layout-layout.ensures.size c.layout-layout.ensures.lines c.requires.faultless

pub returns : goal.returns
returns c =
    listing_is c.args.deck.now c.args.program.now c.requires.program c.layout-layout.result.now c.layout-layout.ensures.size c.layout-layout.ensures.lines
    c.args.width c.source_of.result.now c.new-text.result.items c.push_cards.new.text.items c.push_names.new.text.items (c.source_of.ensures.source ∙ ap source_of c.cards.ensures.cards) c.layout-layout.ensures.slots
    c.new-text.ensures.items c.in_ok-push_cards.ensures c.in_ok-push_names.ensures
