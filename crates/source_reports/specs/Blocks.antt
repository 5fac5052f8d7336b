-- the block of a fault, and the line of their sum
use Rattle.std.specs.Prelude.{ℕ, ◌-◌, ◌==◌, Bool, true, false, if◌then◌else◌, List, [], ◌∷◌, ◌++◌, length, count_by, replicate, slice_get, slice_index_or, Option, Some, None, codes, decimal}
use Rattle.cards.specs.declared.decks.Card.{Card}
use Rattle.cards.specs.Files.{line_feed}
use Rattle.autocoder_layout.specs.Source.{Line, silent}
use Rattle.autocoder_layout.specs.Layout.{Layout}
use Rattle.autocoder_layout.specs.Faults.{fault_number}
use Rattle.autocoder_layout.specs.declared.faults.SourceFault.{SourceFault}
use Rattle.autocoder_layout.specs.declared.faults.SourceFault.TheVariants.{NoEnd}
use Rattle.autocoder_layout.specs.declared.card_faults.CardFault.{CardFault}
use Rattle.autocoder.specs.Listing.{blank, glyphs_of, line_text}
use Rattle.source_reports.specs.Words.{words_of}
use Rattle.source_reports.specs.Places.{place_of}
use Rattle.source_reports.specs.Hints.{hint_of}

-- ---- a block

-- a fault with its card, its number and its words
unfoldable pub told_of : CardFault → List ℕ
told_of f = codes "card " ++ decimal f.card ++ codes " fault " ++ decimal (fault_number f.fault)
    ++ codes ": " ++ words_of f.fault

-- what stands before a card that is shown
abbrev pub margin : List ℕ
margin = codes "     |"

-- the line of a card
unfoldable pub card_shown : Card → List ℕ
card_shown card = line_text (margin ++ glyphs_of card.0)

-- the line of a caret under this column
unfoldable pub caret_line : ℕ → List ℕ
caret_line column = (margin ++ replicate (column - 1) blank) ++ codes "^" ++ line_feed ∷ []

-- a card, and below it a caret under this column
unfoldable pub picture : Card → ℕ → List ℕ
picture card column = card_shown card ++ caret_line column

-- a card with a caret, if there is a column under which the caret stands
abbrev pub picture_at : Card → Option ℕ → List ℕ
picture_at card None = []
picture_at card (Some column) = picture card column

-- the card of a fault with its caret, if there is a card
abbrev pub shown_on : Layout → Line → SourceFault → Option Card → List ℕ
shown_on layout line fault None = []
shown_on layout line fault (Some card) = picture_at card (place_of layout card line fault)

-- the line of a card, by its number from 0
abbrev pub line_at : Layout → ℕ → Line
line_at layout index = slice_index_or layout.source.lines index silent

-- the block of a fault of the card of this number, from 0
abbrev pub block_at : Layout → List Card → CardFault → ℕ → List ℕ
block_at layout source f index =
    (told_of f ++ hint_of layout source index (line_at layout index) f.fault ++ line_feed ∷ [])
    ++ shown_on layout (line_at layout index) f.fault (slice_get source index)

-- the block of a fault: what it is, its card, and a caret under its place
unfoldable pub block : Layout → List Card → CardFault → List ℕ
block layout source f = block_at layout source f (f.card - 1)

-- ---- the sum

-- whether a fault is one of a card; that END is missing is none
abbrev pub is_fault_of_card : SourceFault → Bool
is_fault_of_card NoEnd = false
is_fault_of_card other = true

-- how many of these faults are of cards
abbrev pub cards_at_fault : List CardFault → ℕ
cards_at_fault faults = count_by (λ (f : CardFault). is_fault_of_card f.fault) faults

-- what follows a word for so many things
abbrev pub plural : ℕ → List ℕ
plural count = if count == 1 then [] else codes "s"

-- a number of things
abbrev pub counted : ℕ → List ℕ → List ℕ
counted count word = decimal count ++ codes " " ++ word ++ plural count

-- the line of the sum: how many faults in how many of all cards of a source
unfoldable pub sum_line : List CardFault → ℕ → List ℕ
sum_line faults cards = counted (length faults) (codes "fault")
    ++ (codes " in " ++ decimal (cards_at_fault faults) ++ codes " of ")
    ++ counted cards (codes "card") ++ line_feed ∷ []
