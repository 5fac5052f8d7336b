use Rattle.std.proofs.Common.{◌-◌, ◌<◌, ◌∙◌, length, ap, sym, arith}
use Rattle.ledger_rows.specs.Pockets.{put_behind}
use Rattle.ledger_rows.proofs.PocketsRead.{set_is_put}
use Rattle.ledger_rows.proofs.pockets.put_into_pocket.Goals as goal

pub returns-clause-put : goal.returns-clause-put
returns-clause-put c =
    let cards = c.args.cards.now in
    let behind = c.args.row.now.place - 1 in
    let place = c.is_place.ensures.0 c.if-not-is_place.false in
    let within : behind < length cards = omega (arith, place.0, place.1) in
    λ _. set_is_put cards behind c.in-Some.pocket c.index-cards-behind.result within ∙ ap (λ p. put_behind behind p cards) c.in-Some.ensures.found.0
