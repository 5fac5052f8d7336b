use Rattle.std.proofs.Common.{◌+◌, ◌++◌, ◌∙◌, ap}
use Rattle.std.specs.Prelude.{slice_get}
use Rattle.films.specs.Films.{deck_line}
use Rattle.films.proofs.SourceLemmas.{deck_none, deck_on}
use Rattle.films.proofs.readers.push_deck.Goals as goal

pub loop-place-init : goal.loop-place-init
loop-place-init c = deck_none c.args.deck.now c.args.first c.args.out.now.items

pub loop-place-preserved : goal.loop-place-preserved
loop-place-preserved c =
    let number = c.args.first + c.loop-place.place in
    c.in_ok-push_deck_line.ensures
    ∙ ap (λ card. c.loop-place.out.items ++ deck_line number card) (c.card_at.ensures ∙ ap (slice_get c.args.deck.now) c.saturating_sub.ensures)
    ∙ deck_on c.args.deck.now c.args.first c.loop-place.place c.args.out.now.items c.loop-place.out.items c.loop-place.invariant
