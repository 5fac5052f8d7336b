-- the cards of a source with how often each was attempted
use Rattle.std.specs.Prelude.{ℕ, ◌+◌, if◌then◌else◌, List, [], ◌∷◌, ◌++◌, replicate}
use Rattle.cards.specs.declared.decks.Card.{Card}
use Rattle.card_forms.specs.Images.{image_of}
use Rattle.card_tools.specs.Lines.{numbered_card}
use Rattle.autocoder_layout.specs.Slots.{is_instruction}
use Rattle.autocoder_layout.specs.declared.slots.Slot.{Slot}
use Rattle.autocoder.specs.Listing.{blank, right}

-- how many attempts began at a card's place, at the right of eight places, by these counts; blanks
-- for a card that is no instruction
abbrev pub count_field : (ℕ → ℕ) → Slot → List ℕ
count_field counts slot =
    if is_instruction slot.role then right blank 8 (counts slot.before) else replicate 8 blank

-- the line of a card: how many attempts began at its place, and the card as a listing of cards
-- shows it
unfoldable pub card_counted : (ℕ → ℕ) → ℕ → Slot → Card → List ℕ
card_counted counts number slot card =
    count_field counts slot ++ blank ∷ [] ++ numbered_card number (image_of card) ++ 10 ∷ []

-- the lines of these cards, which are numbered from this number on
unfoldable pub cards_counted : (ℕ → ℕ) → ℕ → List Card → List Slot → List ℕ
cards_counted counts number [] slots = []
cards_counted counts number (card ∷ cards) [] = []
cards_counted counts number (card ∷ cards) (slot ∷ slots) =
    card_counted counts number slot card ++ cards_counted counts (number + 1) cards slots
