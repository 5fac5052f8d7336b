-- of text behind a blank in the label or the operation: where these stand, and a comment
use Rattle.std.specs.Prelude.{ℕ, ◌==◌, Bool, false, not, if◌then◌else◌, List, Option, Some, None, position, slice_index_or, codes}
use Rattle.bcd.specs.Table.{glyph_of, byte}
use Rattle.cards.specs.declared.decks.Card.{Card}
use Rattle.autocoder_statements.specs.Characters.{is_blank}
use Rattle.autocoder_statements.specs.Statements.{columns}
use Rattle.source_reports.specs.SourceColumns.{are_columns_off}

-- that a comment has an asterisk in column 6
abbrev pub comment_text : List ℕ
comment_text = codes "; a comment has * in column 6"

-- whether the first character of these columns that is no blank is an asterisk
abbrev pub is_asterisk_first : List ℕ → Option ℕ → Bool
is_asterisk_first text None = false
is_asterisk_first text (Some count) = glyph_of (slice_index_or text count 0) == byte (codes "*")

-- whether a card looks like a comment, and is none: in columns 1 to 15 an asterisk stands first
unfoldable pub looks_like_comment : Card → Bool
looks_like_comment card = is_asterisk_first (columns 1 15 card)
    (position (λ code. not (is_blank code)) (columns 1 15 card))

-- of text behind a blank: where labels and operations begin; nothing if that is told of the whole
-- source
abbrev pub columns_text : Bool → List ℕ
columns_text is_told = if is_told then codes ""
    else codes "; a label begins in column 6, an operation in 16"

-- of text behind a blank: that a comment has its asterisk elsewhere, or where labels and operations
-- begin
unfoldable pub field_hint : List Card → Card → List ℕ
field_hint source card = if looks_like_comment card then comment_text
    else columns_text (are_columns_off source)
