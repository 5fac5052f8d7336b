-- the numbers in the columns 73 to 80 of a deck's cards: where they do not rise, and whether they
-- do
use Rattle.std.specs.Prelude.{ℕ, ◌+◌, ◌*◌, ◌%◌, ◌==◌, nat_le, Bool, false, ◌&&◌, ◌||◌, if◌then◌else◌, List, [], ◌∷◌, ◌++◌, codes, count_by, decimal, fold, length, is_some, unwrap_or, Option, Some, None}
use Rattle.std.specs.List.{list_all}
use Rattle.cards.specs.declared.Card.{Card}
use Rattle.card_forms.specs.Signs.{are_blank}
use Rattle.card_tools.specs.Lines.{glyphs_of}
use Rattle.card_tools.specs.Numbering.{is_digit, number_columns}

-- the number that ends with this character, where this is the one that ends before it: a digit goes
-- on with it, and behind any other character none ends
abbrev pub number_on : Option ℕ → ℕ → Option ℕ
number_on number code =
    if is_digit code then Some (10 * unwrap_or number 0 + code % 10) else None

-- the number with which these columns end, if they end with a digit
abbrev pub number_of : List ℕ → Option ℕ
number_of columns = fold number_on None columns

-- whether there are two numbers, and the second is not higher
abbrev pub is_no_rise : Option ℕ → Option ℕ → Bool
is_no_rise None number = false
is_no_rise (Some before) None = false
is_no_rise (Some before) (Some number) = nat_le number before

-- the line for a card at this place whose columns stand behind those of an earlier one
abbrev pub no_rise_line : List ℕ → ℕ → List ℕ → List ℕ
no_rise_line before place columns = codes "card " ++ decimal place ++ codes ": "
    ++ glyphs_of columns ++ codes " after " ++ glyphs_of before ++ 10 ∷ []

-- what is told of a card at this place
abbrev pub told_of : List ℕ → ℕ → List ℕ → List ℕ
told_of before place columns = if is_no_rise (number_of before) (number_of columns)
    then no_rise_line before place columns else []

-- the columns with which the next card is compared: those of the last card with a number
abbrev pub last_of : List ℕ → List ℕ → List ℕ
last_of before columns = if is_some (number_of columns) then columns else before

-- what is told of cards, of which the first has this place in the deck, behind a card with these
-- columns
unfoldable pub told_from : List ℕ → ℕ → List Card → List ℕ
told_from before place [] = []
told_from before place (card ∷ cards) = told_of before place (number_columns card)
    ++ told_from (last_of before (number_columns card)) (place + 1) cards

-- what is told of a deck's cards; before the first one no number stands
abbrev pub told : List Card → List ℕ
told cards = told_from [] 1 cards

-- whether a card has a number in its columns 73 to 80
abbrev pub has_number : Card → Bool
has_number card = is_some (number_of (number_columns card))

-- whether a card has a number there, or is blank
abbrev pub is_numbered_or_blank : Card → Bool
is_numbered_or_blank card = has_number card || are_blank card.0

-- whether two cards at least have a number there, and each of the others is blank
abbrev pub are_numbered : List Card → Bool
are_numbered cards = nat_le 2 (count_by (λ card. has_number card) cards)
    && list_all (λ card. is_numbered_or_blank card) cards

-- whether the numbers in the columns 73 to 80 of cards rise: the cards have numbers, and each is
-- higher than the one before it
abbrev pub numbers_rise : List Card → Bool
numbers_rise cards = are_numbered cards && (length (told cards) == 0)
