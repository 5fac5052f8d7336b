use Rattle.std.proofs.Common.{arith}
use Rattle.cards.proofs.LineLengths.{one_more_fits}
use Rattle.cards.proofs.reading.read.Goals as goal

pub push_reserved-requires : goal.push_reserved-requires
push_reserved-requires c =
    let loop = c.loop-rest.invariant in
    let found = c.in-Ok-split_card.found in
    let line = c.in-Ok-split_card.ensures.line in
    let fits = one_more_fits c.args.form c.args.bytes.now c.loop-rest.rest.now found.1.now c.loop-rest.cards.items found.0 loop.deck.1 line.0 loop.before line.1 in
    omega (arith, loop.room, loop.deck.0, c.loop-rest.cards.ok.0)
