use Rattle.std.proofs.Common.{◌≡◌, ◌<◌, ◌*◌, ◌++◌, ◌∙◌, ap, append-nil, arith, inl, inr, length, length-append, rules, subst, sym}
use Rattle.std.proofs.lemmas.Bool.{cases_lt}
use Rattle.std.proofs.lemmas.List.{nil_from_length, take-append-drop}
use Rattle.cards.specs.Files.{text_of}
use Rattle.scripts.specs.Scripts.{HasFaultOfCards}
use Rattle.scripts.proofs.DeckLemmas.{as_many, bad_card, deck_read, fault_of_cards, no_card_at, text_length, too_few}
use Rattle.scripts.proofs.decks.deck_in.Goals as goal

pub returns-in-Err-clause-fault : goal.returns-in-Err-clause-fault
returns-in-Err-clause-fault c =
    let bytes = c.args.bytes.now in
    let front = c.split_at.result.0.now in
    let back = c.split_at.result.1.now in
    let whole : bytes ≡ front ++ back = rw (c.split_at.ensures.front, c.split_at.ensures.back) (sym (take-append-drop c.min-size.result bytes)) in
    let size = as_many (c.args.count * 81) (length bytes) (length front) (length back) (c.split_at.ensures.front_len ∙ c.min-size.ensures) (search rules) in
    subst (HasFaultOfCards bytes c.args.count) (sym c.fault_of.ensures) (fault_of_cards bytes c.args.count c.in-Err.fault (λ other. elim c.in-Err.ensures.fault [
      | inl memory ↦ absurd (other (ap (λ f. f.error) memory))
      | inr first ↦
          let long : 0 < length first.rest = elim (cases_lt 0 (length first.rest)) [ inl h ↦ h | inr h ↦ absurd (first.more (nil_from_length first.rest (omega (arith, h)))) ] in
          let few : length first.cards < 2000 =
          omega (arith, ap length first.before, length-append (text_of first.cards) first.rest, text_length first.cards first.whole, long, size.0, c.requires) in
          bad_card bytes front back first.rest first.cards c.args.count c.in-Err.fault.card whole first.before first.whole first.more size.0 size.1
          (no_card_at _ (length first.cards) first.rest c.in-Err.fault first.wrong few (λ card. append-nil _)) first.place
    ]))

pub returns-then-read-count-clause-fault : goal.returns-then-read-count-clause-fault
returns-then-read-count-clause-fault c =
    let bytes = c.args.bytes.now in
    let front = c.split_at.result.0.now in
    let back = c.split_at.result.1.now in
    let whole : bytes ≡ front ++ back = rw (c.split_at.ensures.front, c.split_at.ensures.back) (sym (take-append-drop c.min-size.result bytes)) in
    let size = as_many (c.args.count * 81) (length bytes) (length front) (length back) (c.split_at.ensures.front_len ∙ c.min-size.ensures) (search rules) in
    rw c.cards-read.ensures.cards
    (too_few bytes front back c.in-Ok.deck c.args.count whole c.in-Ok.ensures.deck.1 c.in-Ok.ensures.deck.0 size.1 (rw c.cards-read.ensures.cards at c.if-read-count.true))

pub returns-clause-deck : goal.returns-clause-deck
returns-clause-deck c =
    let bytes = c.args.bytes.now in
    let front = c.split_at.result.0.now in
    let back = c.split_at.result.1.now in
    let whole : bytes ≡ front ++ back = rw (c.split_at.ensures.front, c.split_at.ensures.back) (sym (take-append-drop c.min-size.result bytes)) in
    let size = as_many (c.args.count * 81) (length bytes) (length front) (length back) (c.split_at.ensures.front_len ∙ c.min-size.ensures) (search rules) in
    deck_read bytes front back c.in-Ok.deck c.args.count whole c.in-Ok.ensures.deck.1 c.in-Ok.ensures.deck.0 size.0 (search rules)
