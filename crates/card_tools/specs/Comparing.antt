-- two decks, compared card by card
use Rattle.std.specs.Prelude.{ℕ, ◌+◌, ◌-◌, ◌==◌, if◌then◌else◌, List, [], ◌∷◌, ◌++◌, length, drop, codes, decimal}
use Rattle.card_forms.specs.Signs.{are_blank, filled}
use Rattle.card_forms.specs.declared.images.CardImage.{CardImage}
use Rattle.card_tools.specs.Lines.{barred, glyphs_of, numbered_card}

-- the columns of two cards, each marked where they differ: with 16, the character whose glyph is
-- `^`, and else with a blank
unfoldable pub marks_of : List ℕ → List ℕ → List ℕ
marks_of [] two = []
marks_of (column ∷ one) [] = []
marks_of (column ∷ one) (other ∷ two) = (if column == other then 0 else 16) ∷ marks_of one two

-- what is shown of two cards with this number that differ: the one with its number, the other under
-- it, and a line with `^` under each column in which they differ
abbrev pub both_shown : ℕ → CardImage → CardImage → List ℕ
both_shown number one two = (numbered_card number one ++ 10 ∷ [])
    ++ ((codes "    " ++ barred two) ++ 10 ∷ [])
    ++ ((codes "     " ++ glyphs_of (filled (marks_of one.0 two.0))) ++ 10 ∷ [])

-- what is shown of two cards with this number: nothing where they are the same
abbrev pub shown_of : ℕ → CardImage → CardImage → List ℕ
shown_of number one two =
    if are_blank (marks_of one.0 two.0) then [] else both_shown number one two

-- how many cards differ of the two
abbrev pub differing_of : CardImage → CardImage → ℕ
differing_of one two = if are_blank (marks_of one.0 two.0) then 0 else 1

-- what is shown of the cards that both decks have, numbered from this number on
unfoldable pub shown_from : ℕ → List CardImage → List CardImage → List ℕ
shown_from number [] second = []
shown_from number (one ∷ first) [] = []
shown_from number (one ∷ first) (two ∷ second) =
    shown_of number one two ++ shown_from (number + 1) first second

-- how many of the cards that both decks have differ
unfoldable pub differing_among : List CardImage → List CardImage → ℕ
differing_among [] second = 0
differing_among (one ∷ first) [] = 0
differing_among (one ∷ first) (two ∷ second) = differing_of one two + differing_among first second

-- what is shown of cards that one deck alone has, numbered from this number on, with these words
-- behind each
unfoldable pub only_from : List ℕ → ℕ → List CardImage → List ℕ
only_from words number [] = []
only_from words number (card ∷ cards) =
    ((numbered_card number card ++ words) ++ 10 ∷ []) ++ only_from words (number + 1) cards

-- what is shown of the cards that one deck has behind the last one of the other
abbrev pub only_shown : List ℕ → List CardImage → List CardImage → List ℕ
only_shown words one other = only_from words (length other + 1) (drop (length other) one)

-- how many cards of two decks differ, where a card that only one has does
abbrev pub differing : List CardImage → List CardImage → ℕ
differing first second = differing_among first second
    + ((length first - length second) + (length second - length first))

-- the last line: how many cards the decks have, and how many differ
abbrev pub sum_line : List CardImage → List CardImage → List ℕ
sum_line first second = codes "cards " ++ decimal (length first) ++ codes " and "
    ++ decimal (length second) ++ codes ", " ++ decimal (differing first second)
    ++ (if differing first second == 1 then codes " differs" else codes " differ") ++ 10 ∷ []

-- what is printed of two decks
abbrev pub compared : List CardImage → List CardImage → List ℕ
compared first second = shown_from 1 first second
    ++ only_shown (codes " only in the first deck") first second
    ++ only_shown (codes " only in the second deck") second first
    ++ sum_line first second
