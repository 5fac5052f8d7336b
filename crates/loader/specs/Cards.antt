-- the cards that load a program: a boot card, a card for each stretch of its image, and one that
-- starts it
use Rattle.std.specs.Prelude.{ℕ, ◌-◌, if◌then◌else◌, List, [], ◌∷◌, ◌++◌, length, map, drop, replicate, codes, slice_index_or, false}
use Rattle.std.specs.List.{concat}
use Rattle.core_store.specs.Storage.{blank_cell}
use Rattle.addresses.specs.Addresses.{encoded}
use Rattle.addresses.specs.Digits.{code_of}
use Rattle.cards.specs.declared.decks.Card.{Card}
use Rattle.cards.specs.Decks.{card_columns}
use Rattle.autocoder_layout.specs.declared.cells.Cell.{Cell}
use Rattle.loader.specs.Stretches.{most_characters, marks_of, stretches_of}

-- the characters with these glyphs
abbrev pub text : List ℕ → List ℕ
text glyphs = map code_of glyphs

-- characters with blanks after them, as wide as this
abbrev pub padded : ℕ → List ℕ → List ℕ
padded width characters = characters ++ replicate (width - length characters) blank_cell.0

-- the card that begins with these characters, with blanks up to column 80
abbrev pub card_of : List ℕ → Card
card_of characters = record { 0 = padded card_columns characters }

-- the characters of an instruction with two addresses
abbrev pub instruction : List ℕ → ℕ → ℕ → List ℕ
instruction operation a b = text operation ++ (encoded a ++ encoded b)

-- ---- the boot card

-- the boot card: it sets the word marks in the read area that the next cards require, and reads the
-- first of them
unfoldable pub boot_card : Card
boot_card =
    card_of (text (codes ",008015,022029,036040,047054,061068,072)008015)022029)036036N0000001040"))

-- ---- a card for a stretch

-- the last position of a stretch
unfoldable pub last_position : List Cell → ℕ
last_position stretch = (slice_index_or stretch (length stretch - 1)
    (record { position = 0; code = 0; marked = false })).position

-- the instruction that moves the characters of a card to their positions, and marks the first of
-- them
abbrev pub moving : List Cell → List ℕ
moving stretch = instruction (codes "L") (length stretch) (last_position stretch)

-- the instruction that clears the word mark of a stretch's first position, if that has none
abbrev pub clearing : List Cell → List (List ℕ)
clearing [] = []
clearing (first ∷ rest) = if first.marked then []
    else instruction (codes ")") first.position first.position ∷ []

-- the instructions that set word marks at these positions, two in each, and a single last one twice
unfoldable pub marking : List ℕ → List (List ℕ)
marking [] = []
marking (p ∷ []) = instruction (codes ",") p p ∷ []
marking (p ∷ q ∷ marks) = instruction (codes ",") p q ∷ marking marks

-- an instruction that does nothing, for a place of the card that is not used
abbrev pub unused : List ℕ
unused = text (codes "N000000")

-- the instructions of a card after the move: they clear the first position's mark if it has none,
-- and set the others
abbrev pub filled_places : List Cell → List (List ℕ)
filled_places stretch = clearing stretch ++ marking (marks_of (drop 1 stretch))

-- these instructions with others that do nothing, three in all
abbrev pub three : List (List ℕ) → List ℕ
three places = concat (places ++ replicate (3 - length places) unused)

-- the instruction that reads the next card and branches to its move, at 040
abbrev pub reading : List ℕ
reading = text (codes "1040")

-- the loading card of a stretch: its characters, and the five instructions that put them in storage
unfoldable pub load_card : List Cell → Card
load_card stretch = card_of (padded most_characters (map (λ c. c.code) stretch)
    ++ (moving stretch ++ (three (filled_places stretch) ++ reading)))

-- ---- the last card

-- the last loading card: it clears positions 000 to 080 and branches to the program's start
unfoldable pub start_card : ℕ → Card
start_card start =
    card_of (replicate most_characters blank_cell.0 ++ instruction (codes "/") start 80)

-- ---- all of them

-- the cards that load an image and start its program
unfoldable pub loading_cards : List Cell → ℕ → List Card
loading_cards image start =
    boot_card ∷ (map load_card (stretches_of image) ++ start_card start ∷ [])
