-- whether most cards of a source are not in their columns, and what is told of the whole source
use Rattle.std.specs.Prelude.{ℕ, ◌-◌, nat_lt, Bool, not, ◌&&◌, ◌||◌, if◌then◌else◌, List, [], ◌∷◌, ◌++◌, count_by, slice_index_or, codes}
use Rattle.cards.specs.declared.decks.Card.{Card}
use Rattle.cards.specs.Files.{line_feed}
use Rattle.autocoder_statements.specs.Characters.{is_blank}
use Rattle.autocoder_statements.specs.Statements.{is_comment}

-- ---- a card

-- whether a column of a card is filled
abbrev pub is_filled : ℕ → Card → Bool
is_filled column card = not (is_blank (slice_index_or card.0 (column - 1) 0))

-- whether the operation of a card begins in column 15, one too early
abbrev pub is_early : Card → Bool
is_early card = is_filled 15 card && not (is_filled 14 card)

-- whether the operation of a card begins in column 17, one too late
abbrev pub is_late : Card → Bool
is_late card = not (is_filled 16 card) && is_filled 17 card

-- whether a card that is no comment has an operation that begins too early
abbrev pub begins_early : Card → Bool
begins_early card = not (is_comment card) && is_early card

-- whether a card that is no comment has an operation that begins too late
abbrev pub begins_late : Card → Bool
begins_late card = not (is_comment card) && is_late card

-- whether a card that is no comment has its operation in no column, or one off
abbrev pub is_off : Card → Bool
is_off card = not (is_comment card) && (not (is_filled 16 card) || is_early card)

-- ---- a source

-- how many cards are no comments
abbrev pub statements : List Card → ℕ
statements source = count_by (λ card. not (is_comment card)) source

-- whether more of the cards that are no comments are so than are not
abbrev pub are_most : (Card → Bool) → List Card → Bool
are_most is_so source =
    nat_lt (statements source - count_by is_so source) (count_by is_so source)

-- whether most cards of a source have no operation in its column
unfoldable pub are_columns_off : List Card → Bool
are_columns_off source = are_most is_off source

-- the way out for a source whose cards are not in their columns
abbrev pub way_out : List Card → List ℕ
way_out source = if are_most begins_early source
    then codes "the operations begin in column 15: move all cards one column to the right"
    else (if are_most begins_late source
    then codes "the operations begin in column 17: move all cards one column to the left"
    else codes "a card has its label from column 6 on, its operation from 16, its operands from 21")

-- what is told of a source as a whole: that its cards are not in their columns, if most are not
unfoldable pub notice_of : List Card → List ℕ
notice_of source = if are_columns_off source then way_out source ++ line_feed ∷ [] else []
