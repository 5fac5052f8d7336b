-- the lines of cards, one after the other
use Rattle.std.proofs.Common.{◌≡◌, ℕ, suc, ◌+◌, ◌-◌, ◌<◌, ◌≤◌, List, [], ◌∷◌, ◌++◌, length, drop, get_or, refl, sym, ap, ◌∙◌, arith, append-nil, append_assoc}
use Rattle.std.specs.Prelude.{slice_get}
use Rattle.std.proofs.lemmas.List.{drop_all, drop_more}
use Rattle.cards.specs.declared.decks.Card.{Card}
use Rattle.autocoder_layout.specs.declared.slots.Slot.{Slot}
use Rattle.films.specs.Films.{deck_line, deck_lines, source_line, source_lines}

-- one card of a source more
pub card_on : (done : List ℕ) (cards : List Card) (slots : List Slot) (i : ℕ) (card : Card) (slot : Slot) → i < length cards → i < length slots
    → card ≡ get_or cards i card → slot ≡ get_or slots i slot
    → (done ++ source_line slot card) ++ source_lines (drop (i + 1) cards) (drop (i + 1) slots) ≡ done ++ source_lines (drop i cards) (drop i slots)
unfolding source_lines
card_on done cards slots i card slot in_cards in_slots read stood =
    let first : drop i cards ≡ card ∷ drop (i + 1) cards = drop_more cards i card in_cards ∙ ap (λ x. x ∷ drop (i + 1) cards) (sym read) in
    let place : drop i slots ≡ slot ∷ drop (i + 1) slots = drop_more slots i slot in_slots ∙ ap (λ x. x ∷ drop (i + 1) slots) (sym stood) in
    rw (first, place) (append_assoc done (source_line slot card) (source_lines (drop (i + 1) cards) (drop (i + 1) slots)))

no_slots : (cards : List Card) → source_lines cards [] ≡ []
unfolding source_lines
no_slots [] = refl
no_slots (card ∷ cards) = refl

-- no card is left, or none that has a place
pub cards_done : (done whole : List ℕ) (cards : List Card) (slots : List Slot) (i : ℕ) → length cards ≤ i
    → done ++ source_lines (drop i cards) (drop i slots) ≡ whole → done ≡ whole
unfolding source_lines
cards_done done whole cards slots i past same =
    sym (append-nil done) ∙ ap (λ rest. done ++ source_lines rest (drop i slots)) (sym (drop_all i cards past)) ∙ same

pub slots_done : (done whole : List ℕ) (cards : List Card) (slots : List Slot) (i : ℕ) → length slots ≤ i
    → done ++ source_lines (drop i cards) (drop i slots) ≡ whole → done ≡ whole
slots_done done whole cards slots i past same =
    sym (append-nil done) ∙ ap (λ rest. done ++ rest) (sym (no_slots (drop i cards)))
    ∙ ap (λ rest. done ++ source_lines (drop i cards) rest) (sym (drop_all i slots past)) ∙ same

-- one card of a deck more
pub deck_on : (deck : List Card) (first place : ℕ) (start before : List ℕ) → before ≡ start ++ deck_lines deck first place
    → before ++ deck_line (first + place) (slice_get deck (first + place - 1)) ≡ start ++ deck_lines deck first (place + 1)
unfolding deck_lines
deck_on deck first place start before is =
    let one : suc place ≡ place + 1 = omega arith in
    ap (λ text. text ++ deck_line (first + place) (slice_get deck (first + place - 1))) is
    ∙ append_assoc start (deck_lines deck first place) (deck_line (first + place) (slice_get deck (first + place - 1)))
    ∙ ap (λ n. start ++ deck_lines deck first n) one

pub deck_none : (deck : List Card) (first : ℕ) (start : List ℕ) → start ≡ start ++ deck_lines deck first 0
unfolding deck_lines
deck_none deck first start = sym (append-nil start)
