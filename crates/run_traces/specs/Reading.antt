-- the storage that a dump shows, as its reader takes it
use Rattle.std.specs.Prelude.{ℕ, zero, suc, ◌+◌, ◌*◌, ◌==◌, ◌&&◌, not, Bool, false, if◌then◌else◌, List, [], ◌∷◌, ◌++◌, length, map, take, drop, replicate, slice_index, bytes_eq, zip}
use Rattle.addresses.specs.Digits.{code_of}
use Rattle.autocoder.specs.Listing.{blank, position_field}
use Rattle.core_store.specs.Storage.{Storage}
use Rattle.run_traces.specs.Rows.{row_length}

-- the bytes of a text before its first line feed
unfoldable pub first_line : List ℕ → List ℕ
first_line [] = []
first_line (byte ∷ text) = if byte == 10 then [] else byte ∷ first_line text

-- the bytes of a text behind its first line feed
unfoldable pub behind_line : List ℕ → List ℕ
behind_line [] = []
behind_line (byte ∷ text) = if byte == 10 then text else behind_line text

-- the columns of a row's line: five digits, a blank and fifty characters
abbrev pub line_columns : ℕ
line_columns = 56

-- a line with so many columns, with blanks in place of those that were cut
unfoldable pub whole_line : ℕ → List ℕ → List ℕ
whole_line columns line = take columns (line ++ replicate columns blank)

-- the first line of a text with all its columns
abbrev pub columns_of : List ℕ → List ℕ
columns_of text = whole_line line_columns (first_line text)

-- a text behind a line `(blank)`, if it begins with one
abbrev pub behind_blank : List ℕ → List ℕ
behind_blank text = if slice_index (columns_of text) 0 == 40 then behind_line text else text

-- whether a text begins with the line of a row
abbrev pub has_row : ℕ → List ℕ → Bool
has_row row text = bytes_eq (take 5 (columns_of text)) (position_field (row_length * row))

-- whether a text begins with the line under a row
abbrev pub has_marks : List ℕ → Bool
has_marks text = not (length text == 0) && slice_index (columns_of text) 0 == 32

-- the characters of the row with whose line a text begins
abbrev pub codes_read : List ℕ → List ℕ
codes_read text = map code_of (drop 6 (columns_of text))

-- the word marks of a row, where a text begins with the line under it, or with none
abbrev pub marks_read : List ℕ → List Bool
marks_read text = if has_marks text then map (λ byte. byte == 39) (drop 6 (columns_of text))
    else replicate row_length false

-- the positions of a row: those of its lines, where a text begins with these, or else blank ones
abbrev pub row_read : ℕ → List ℕ → Storage
row_read row text = if has_row row text then zip (codes_read text) (marks_read (behind_line text))
    else replicate row_length (0, false)

-- a text behind the line under a row, if it begins with one
abbrev pub behind_marks : List ℕ → List ℕ
behind_marks text = if has_marks text then behind_line text else text

-- a text behind the lines of a row, if it begins with these
abbrev pub behind_row : ℕ → List ℕ → List ℕ
behind_row row text = if has_row row text then behind_marks (behind_line text) else text

-- the storage of so many rows, from a first one on, that a text shows
unfoldable pub storage_read : ℕ → ℕ → List ℕ → Storage
storage_read zero row text = []
storage_read (suc count) row text = row_read row (behind_blank text)
    ++ storage_read count (row + 1) (behind_row row (behind_blank text))
