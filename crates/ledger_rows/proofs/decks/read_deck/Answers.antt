use Rattle.std.proofs.Common.{◌≡◌, ◌∙◌, ap, arith, length, Some, Err, refl}
use Rattle.std.proofs.lemmas.List.Elements.{All-push}
use Rattle.cards.specs.Decks.{IsCard}
use Rattle.ledger_rows.proofs.DeckBytes.{same_deck, next_card, deck_more, some_left, all_read}
use Rattle.ledger_rows.proofs.decks.read_deck.Goals as goal

pub returns-in_default-clause-all : goal.returns-in_default-clause-all
returns-in_default-clause-all c = λ deck is_deck same.
    let found = c.loop-rest.invariant in
    let next = next_card _ _ _ deck found.deck.1 is_deck.1 found.before same (some_left _ c.loop-rest-test.ensures) in
    absurd (c.in_default.ensures.missing refl next.1.piece next.1.after next.1.is next.1.begins)

pub returns-in-Err-TooManyCards-clause-all : goal.returns-in-Err-TooManyCards-clause-all
returns-in-Err-TooManyCards-clause-all c = λ deck is_deck same.
    let found = c.loop-rest.invariant in
    let next = next_card _ _ _ deck found.deck.1 is_deck.1 found.before same (some_left _ c.loop-rest-test.ensures) in
    let full : length c.loop-rest.deck ≡ 2000 = c.push.ensures.full.0 (c.in-Err-TooManyCards.is ∙ ap Err c.in-Err-TooManyCards.field-0-is) in
    absurd (omega (arith, next.0, is_deck.0))

pub loop-rest-preserved : goal.loop-rest-preserved
loop-rest-preserved c =
    let found = c.loop-rest.invariant in
    record {
      deck = (
        omega (arith, c.deck-in-loop-rest.invariant, ap length c.deck-in-loop-rest.view_is),
        rw c.in-Ok.ensures.ok (All-push IsCard c.loop-rest.deck c.in-Some.card found.deck.1 c.in-Some.ensures.found.0),
      );
      before = rw c.in-Ok.ensures.ok (deck_more c.args.bytes.now c.loop-rest.rest.now c.in-Some.behind.now c.loop-rest.deck c.in-Some.card found.before c.in-Some.ensures.found.1);
    }

pub returns-clause-all : goal.returns-clause-all
returns-clause-all c = λ deck is_deck same.
    let found = c.loop-rest.invariant in
    ap Some (same_deck c.loop-rest.deck deck found.deck.1 is_deck.1
    (all_read _ _ c.loop-rest.deck c.loop-rest-test.ensures found.before ∙ same))
