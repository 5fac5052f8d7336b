-- numbers in the columns 73 to 80 of a deck's cards
use Rattle.std.specs.Prelude.{ℕ, zero, suc, ◌≡◌, ◌≤◌, ◌⊎◌, ◌+◌, ◌-◌, ◌/◌, ◌%◌, ◌^◌, ◌==◌, nat_eq, nat_le, nat_lt, Bool, true, false, ◌&&◌, ◌||◌, if◌then◌else◌, List, [], ◌∷◌, ◌++◌, length, take, drop, ◌<◌, slice_index_or, Option, Some, None}
use Rattle.std.specs.List.{list_all, starts_with}
use Rattle.cards.specs.Decks.{AreCharacters}
use Rattle.cards.specs.declared.Card.{Card}
use Rattle.card_forms.specs.Signs.{are_blank}
use Rattle.card_tools.specs.Lines.{glyphs_of}
use Rattle.card_tools.specs.declared.numbering.SequenceError.TheVariants.{NoMemory, Ident, Held, TooGreat}
use Rattle.card_tools.specs.declared.numbering.SequenceFault.{SequenceFault}

-- the number of the character of a digit: the digit itself, and 10 for 0
abbrev pub digit_character : ℕ → ℕ
digit_character digit = if digit == 0 then 10 else digit

-- whether a character is a digit
abbrev pub is_digit : ℕ → Bool
is_digit code = nat_le 1 code && nat_le code 10

-- so many digits of a number, the highest first
unfoldable pub digits_of : ℕ → ℕ → List ℕ
digits_of zero number = []
digits_of (suc count) number = digits_of count (number / 10) ++ digit_character (number % 10) ∷ []

-- the columns 73 to 80 of a card
abbrev pub number_columns : Card → List ℕ
number_columns card = drop 72 card.0

-- the columns 73 to 80 with this ident and number: the number fills what the ident leaves
abbrev pub columns_for : List ℕ → ℕ → List ℕ
columns_for ident number = ident ++ digits_of (8 - length ident) number

-- whether a number has no more digits than the columns that an ident leaves
abbrev pub fits : List ℕ → ℕ → Bool
fits ident number = nat_lt number (10 ^ (8 - length ident))

-- whether columns are the ident and digits behind it
abbrev pub has_ident : List ℕ → List ℕ → Bool
has_ident ident columns =
    starts_with nat_eq columns ident && list_all is_digit (drop (length ident) columns)

-- whether columns may be numbered: they are blank, or have been numbered with the same ident
abbrev pub is_free : List ℕ → List ℕ → Bool
is_free ident columns = are_blank columns || has_ident ident columns

-- the card with an ident and a number in its columns 73 to 80
abbrev pub numbered : List ℕ → ℕ → Card → Card
numbered ident number card = record { 0 = take 72 card.0 ++ columns_for ident number }

-- these cards, numbered from this number on by this step
unfoldable pub numbered_from : List ℕ → ℕ → ℕ → List Card → List Card
numbered_from ident step number [] = []
numbered_from ident step number (card ∷ cards) =
    numbered ident number card ∷ numbered_from ident step (number + step) cards

-- what stands in the way of numbering cards, of which the first has this place in the deck: a card
-- whose columns 73 to 80 hold something else, or a number that does not fit
unfoldable pub fault_from : List ℕ → ℕ → ℕ → ℕ → List Card → Option SequenceFault
fault_from ident step place number [] = None
fault_from ident step place number (card ∷ cards) = if is_free ident (number_columns card)
    then (if fits ident number then fault_from ident step (place + 1) (number + step) cards
    else Some (record { error = TooGreat; card = place }))
    else Some (record { error = Held (glyphs_of (number_columns card)); card = place })

-- nothing stands in the way of numbering a card
abbrev pub MayBeNumbered : List ℕ → ℕ → Card → Type 0
MayBeNumbered ident number card =
    (is_free ident (number_columns card) ≡ true) × (fits ident number ≡ true)

-- this stands in the way of numbering a card at this place in the deck
abbrev pub IsInTheWay : List ℕ → ℕ → ℕ → Card → SequenceFault → Type 0
IsInTheWay ident number place card fault = ((is_free ident (number_columns card) ≡ false)
    × (fault ≡ record { error = Held (glyphs_of (number_columns card)); card = place }))
    ⊎ ((is_free ident (number_columns card) ≡ true) × (fits ident number ≡ false)
    × (fault ≡ record { error = TooGreat; card = place }))

-- a word is the glyphs of an ident: up to five characters
pub record Spells (word ident : List ℕ) : Type 0 where
  pub characters : AreCharacters ident
  pub short : length ident ≤ 5
  pub glyphs : word ≡ glyphs_of ident

-- a deck was numbered with an ident that the word spells: no card stood in the way
pub record IsNumbered (word : List ℕ) (first step : ℕ) (deck new : List Card) : Type 0 where
  pub ident : List ℕ
  pub spells : Spells word ident
  pub faultless : fault_from ident step 1 first deck ≡ None
  pub cards : new ≡ numbered_from ident step first deck

-- memory ran out
abbrev pub out_of_memory : SequenceFault
out_of_memory = record { error = NoMemory; card = 0 }

-- the word is no ident
abbrev pub no_ident : SequenceFault
no_ident = record { error = Ident; card = 0 }

-- the word spells no ident
abbrev pub SpellsNone : List ℕ → Type 0
SpellsNone word = (ident : List ℕ) → Spells word ident → ⊥

-- a card stands in the way of numbering a deck with the ident that the word spells
pub record StandsInTheWay (word : List ℕ) (first step : ℕ) (deck : List Card)
    (fault : SequenceFault) : Type 0 where
  pub ident : List ℕ
  pub spells : Spells word ident
  pub first_fault : fault_from ident step 1 first deck ≡ Some fault

-- why a deck was not numbered
abbrev pub IsSequenceFault : List ℕ → ℕ → ℕ → List Card → SequenceFault → Type 0
IsSequenceFault word first step deck fault = (fault ≡ out_of_memory)
    ⊎ (((fault ≡ no_ident) × SpellsNone word) ⊎ StandsInTheWay word first step deck fault)

-- the columns 1 to 72 of each card are the same
pub record KeepsColumns (old new : List Card) : Type 0 where
  pub cards : length new ≡ length old
  pub columns : (k : ℕ) (card other : Card) → k < length old
      → take 72 (slice_index_or new k card).0 ≡ take 72 (slice_index_or old k other).0
