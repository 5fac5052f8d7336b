-- cards joined, eighty bytes a card
use Rattle.std.proofs.Common.{◌≡◌, ℕ, zero, suc, ◌+◌, ◌==◌, true, false, take, get_or, ◌<◌, List, [], ◌∷◌, ◌++◌, refl, sym, ◌∙◌, ap, arith, length, append_assoc, append-nil, inl, inr}
use Rattle.std.specs.List.{All}
use Rattle.std.proofs.lemmas.Bool.{cases_lt, eqb-true}
use Rattle.std.proofs.lemmas.List.{length-append, nil_from_length, take_more}
use Rattle.std.proofs.lemmas.List.Concat.{flat_map-append}
use Rattle.std.proofs.lemmas.List.Elements.{All-head, All-tail, All-more}
use Rattle.cards.specs.declared.decks.Card.{Card}
use Rattle.cards.specs.Decks.{IsCard}
use Rattle.cards.proofs.Pieces.{AreApart, goes_on, Next, next_of}
use Rattle.ledger_rows.specs.Columns.{deck_bytes}

abbrev pub columns : Card → List ℕ
columns card = card.0

-- lists as long as each other that begin the same list are one
same_fronts : (xs ys r s : List ℕ) → length xs ≡ length ys → xs ++ r ≡ ys ++ s → (xs ≡ ys) × (r ≡ s)
same_fronts [] [] r s long same = (refl, same)
same_fronts [] (y ∷ ys) r s long same = absurd (omega arith)
same_fronts (x ∷ xs) [] r s long same = absurd (omega arith)
same_fronts (x ∷ xs) (y ∷ ys) r s long same =
    let behind : xs ++ r ≡ ys ++ s = cc in
    let both = same_fronts xs ys r s (omega arith) behind in
    let here : x ≡ y = cc in
    (ap (λ z. z ∷ xs) here ∙ ap (λ zs. y ∷ zs) both.0, both.1)

same_card : (one two : Card) → one.0 ≡ two.0 → one ≡ two
same_card one two same = ap (λ (codes : List ℕ). let card : Card = record { 0 = codes } in card) same

cards_apart : AreApart columns IsCard
cards_apart one two r s is_one is_two same =
    let both = same_fronts one.0 two.0 r s (is_one.0 ∙ sym is_two.0) same in
    (same_card one two both.0, both.1)

-- bytes are one deck's at most
pub same_deck : (one two : List Card) → All IsCard one → All IsCard two → deck_bytes one ≡ deck_bytes two → one ≡ two
same_deck [] [] is_one is_two same = refl
same_deck [] (c ∷ two) is_one is_two same =
    let long = (All-head IsCard c two is_two).0 in
    absurd (omega (arith, ap length same, long, length-append c.0 (deck_bytes two)))
same_deck (c ∷ one) [] is_one is_two same =
    let long = (All-head IsCard c one is_one).0 in
    absurd (omega (arith, ap length same, long, length-append c.0 (deck_bytes one)))
same_deck (c ∷ one) (d ∷ two) is_one is_two same =
    let both = cards_apart c d (deck_bytes one) (deck_bytes two) (All-head IsCard c one is_one) (All-head IsCard d two is_two) same in
    let behind = same_deck one two (All-tail IsCard c one is_one) (All-tail IsCard d two is_two) both.1 in
    ap (λ x. x ∷ one) both.0 ∙ ap (λ xs. d ∷ xs) behind

-- where bytes are left behind the cards that were found, a deck of all bytes has more cards, and the next one begins there
pub next_card : (bytes rest : List ℕ) (found deck : List Card) → All IsCard found → All IsCard deck → bytes ≡ deck_bytes found ++ rest →
    bytes ≡ deck_bytes deck → 0 < length rest → (length found < length deck) × Next columns IsCard rest
next_card bytes rest found deck is_found is_deck before whole some =
    let same : deck_bytes found ++ rest ≡ deck_bytes deck ++ [] = sym before ∙ whole ∙ sym (append-nil (deck_bytes deck)) in
    elim (cases_lt (length found) (length deck)) [
      | inl fewer ↦
          let behind = goes_on columns IsCard cards_apart found deck rest [] is_found is_deck (omega arith) same in
          (fewer, next_of columns IsCard found deck rest [] behind fewer)
      | inr all ↦
          let behind = goes_on columns IsCard cards_apart deck found [] rest is_deck is_found all (sym same) in
          absurd (omega (arith, ap length behind.bytes, length-append (deck_bytes behind.more) rest))
    ]

-- one more card was found
pub deck_more : (bytes rest behind : List ℕ) (found : List Card) (card : Card) → bytes ≡ deck_bytes found ++ rest → rest ≡ card.0 ++ behind →
    bytes ≡ deck_bytes (found ++ card ∷ []) ++ behind
deck_more bytes rest behind found card before begins =
    rw (flat_map-append columns found (card ∷ []), append-nil, append_assoc, ← begins) before

-- one more card was written
pub bytes_more : (deck : List Card) (i : ℕ) (card : Card) (before after : List ℕ) → i < length deck → card ≡ get_or deck i card →
    before ≡ deck_bytes (take i deck) → after ≡ before ++ card.0 → after ≡ deck_bytes (take (i + 1) deck)
bytes_more deck i card before after within is old new =
    rw (take_more deck i card within, ← is, flat_map-append columns (take i deck) (card ∷ []), append-nil, ← old) new

pub cards_more : (deck : List Card) (i : ℕ) (card : Card) → i < length deck → card ≡ get_or deck i card → All IsCard (take i deck) → IsCard card →
    All IsCard (take (i + 1) deck)
cards_more deck i card within is each card_is = All-more IsCard deck i card within each (rw is at card_is)

-- what is not empty has something
pub some_left : (n : ℕ) → false ≡ (n == 0) → 0 < n
some_left zero test = absurd (cc)
some_left (suc n) test = omega arith

-- what is left is nothing where the cards that were found are the deck
pub all_read : (bytes rest : List ℕ) (found : List Card) → true ≡ (length rest == 0) → bytes ≡ deck_bytes found ++ rest → deck_bytes found ≡ bytes
all_read bytes rest found test before =
    let none : rest ≡ [] = nil_from_length rest (eqb-true (length rest) 0 (sym test)) in
    sym (before ∙ ap (λ xs. deck_bytes found ++ xs) none ∙ append-nil (deck_bytes found))
