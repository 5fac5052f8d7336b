-- the lines of a source's cards, one after the other
use Rattle.std.proofs.Common.{◌≡◌, ℕ, ◌+◌, ◌<◌, ◌≤◌, List, [], ◌∷◌, ◌++◌, length, drop, get_or, refl, sym, ap, ◌∙◌, append-nil, append_assoc}
use Rattle.std.proofs.lemmas.List.{drop_all, drop_more}
use Rattle.cards.specs.declared.decks.Card.{Card}
use Rattle.autocoder_layout.specs.declared.slots.Slot.{Slot}
use Rattle.run_traces.specs.CountedCards.{card_counted, cards_counted}

module _ (counts : ℕ → ℕ) where
  -- one card more
  pub card_on : (done : List ℕ) (cards : List Card) (slots : List Slot) (i : ℕ) (card : Card) (slot : Slot) → i < length cards → i < length slots
      → card ≡ get_or cards i card → slot ≡ get_or slots i slot
      → (done ++ card_counted counts (i + 1) slot card) ++ cards_counted counts (i + 1 + 1) (drop (i + 1) cards) (drop (i + 1) slots)
      ≡ done ++ cards_counted counts (i + 1) (drop i cards) (drop i slots)
  unfolding cards_counted
  card_on done cards slots i card slot in_cards in_slots read stood =
      let first : drop i cards ≡ card ∷ drop (i + 1) cards = drop_more cards i card in_cards ∙ ap (λ x. x ∷ drop (i + 1) cards) (sym read) in
      let place : drop i slots ≡ slot ∷ drop (i + 1) slots = drop_more slots i slot in_slots ∙ ap (λ x. x ∷ drop (i + 1) slots) (sym stood) in
      rw (first, place) (append_assoc done (card_counted counts (i + 1) slot card) (cards_counted counts (i + 1 + 1) (drop (i + 1) cards) (drop (i + 1) slots)))

  no_slots : (number : ℕ) (cards : List Card) → cards_counted counts number cards [] ≡ []
  unfolding cards_counted
  no_slots number [] = refl
  no_slots number (card ∷ cards) = refl

  -- no card is left, or none that has a place
  pub cards_done : (done whole : List ℕ) (cards : List Card) (slots : List Slot) (i : ℕ) → length cards ≤ i
      → done ++ cards_counted counts (i + 1) (drop i cards) (drop i slots) ≡ whole → done ≡ whole
  unfolding cards_counted
  cards_done done whole cards slots i past same =
      sym (append-nil done) ∙ ap (λ rest. done ++ cards_counted counts (i + 1) rest (drop i slots)) (sym (drop_all i cards past)) ∙ same

  pub slots_done : (done whole : List ℕ) (cards : List Card) (slots : List Slot) (i : ℕ) → length slots ≤ i
      → done ++ cards_counted counts (i + 1) (drop i cards) (drop i slots) ≡ whole → done ≡ whole
  slots_done done whole cards slots i past same =
      sym (append-nil done) ∙ ap (λ rest. done ++ rest) (sym (no_slots (i + 1) (drop i cards)))
      ∙ ap (λ rest. done ++ cards_counted counts (i + 1) (drop i cards) rest) (sym (drop_all i slots past)) ∙ same
