-- how storage is shown, in rows of fifty positions
use Rattle.std.specs.Prelude.{ℕ, zero, suc, ◌+◌, ◌*◌, ◌==◌, ◌&&◌, not, Bool, false, if◌then◌else◌, List, [], ◌∷◌, ◌++◌, codes, map}
use Rattle.std.specs.List.{list_all, list_any}
use Rattle.core_store.specs.Storage.{Storage, codes_from, marks_from}
use Rattle.autocoder.specs.Listing.{blank, glyphs_of, line_text, position_field}

-- how many positions a row has
abbrev pub row_length : ℕ
row_length = 50

-- whether some of these are marked
abbrev pub has_mark : List Bool → Bool
has_mark marks = list_any (λ marked. marked) marks

-- whether a row with these characters and word marks is blank and without a mark
abbrev pub is_blank_row : List ℕ → List Bool → Bool
is_blank_row codes marks = list_all (λ code. code == 0) codes && not (has_mark marks)

-- what stands under a character: an apostrophe if it has a word mark
abbrev pub mark_shown : Bool → ℕ
mark_shown marked = if marked then 39 else blank

-- the line under a row, if it has a word mark
abbrev pub marks_shown : List Bool → List ℕ
marks_shown marks =
    if has_mark marks then line_text (codes "      " ++ map mark_shown marks) else []

-- the lines of a row that begins at a position, with these characters and word marks
abbrev pub row_lines : ℕ → List ℕ → List Bool → List ℕ
row_lines position codes marks =
    line_text ((position_field position ++ blank ∷ []) ++ glyphs_of codes) ++ marks_shown marks

-- whether a row of storage is blank and without a mark
abbrev pub is_blank_at : Storage → ℕ → Bool
is_blank_at s row = is_blank_row (codes_from s (row_length * row) row_length)
    (marks_from s (row_length * row) row_length)

-- whether the row before the last of so many, from a first one on, is blank and without a mark
unfoldable pub follows_blank : Storage → ℕ → ℕ → Bool
follows_blank s first zero = false
follows_blank s first (suc count) = is_blank_at s (first + count)

-- what is shown of a row that is blank and without a mark: `(blank)`, once for each stretch of such
-- rows
abbrev pub blank_shown : Bool → List ℕ
blank_shown follows = if follows then [] else codes "(blank)" ++ 10 ∷ []

-- what is shown of a row of storage that follows one that is blank, or not
unfoldable pub row_shown : Storage → Bool → ℕ → List ℕ
row_shown s follows row = if is_blank_at s row then blank_shown follows
    else row_lines (row_length * row) (codes_from s (row_length * row) row_length)
    (marks_from s (row_length * row) row_length)

-- what is shown of so many rows of storage, from a first one on
unfoldable pub rows_shown : Storage → ℕ → ℕ → List ℕ
rows_shown s first zero = []
rows_shown s first (suc count) =
    rows_shown s first count ++ row_shown s (follows_blank s first count) (first + count)
