-- the positions of an image, in stretches that each fit on a card
use Rattle.std.specs.Prelude.{ℕ, ◌≡◌, ◌≢◌, ◌+◌, ◌<◌, nat_le, ◌==◌, ◌&&◌, Bool, true, false, if◌then◌else◌, List, [], ◌∷◌, ◌++◌, length, map, take, drop, filter, slice_index_or}
use Rattle.std.specs.List.{flat_map}
use Rattle.autocoder_layout.specs.declared.cells.Cell.{Cell}

-- the most characters on a loading card
abbrev pub most_characters : ℕ
most_characters = 39

-- the most word marks that a loading card sets after its first position
abbrev pub most_marks : ℕ
most_marks = 6

-- the most word marks that a loading card sets if it also clears that of its first position
abbrev pub most_marks_unmarked : ℕ
most_marks_unmarked = 4

-- whether each position is the next after the one before it
unfoldable pub is_contiguous : List Cell → Bool
is_contiguous [] = true
is_contiguous (c ∷ []) = true
is_contiguous (c ∷ d ∷ cells) = d.position == c.position + 1 && is_contiguous (d ∷ cells)

-- the positions of the cells that have a word mark
unfoldable pub marks_of : List Cell → List ℕ
marks_of cells = map (λ c. c.position) (filter (λ c. c.marked) cells)

-- the most word marks that a loading card can set after a stretch's first position
abbrev pub mark_limit : List Cell → ℕ
mark_limit [] = most_marks
mark_limit (first ∷ rest) = if first.marked then most_marks else most_marks_unmarked

-- whether these cells fit on one loading card
unfoldable pub is_lawful : List Cell → Bool
is_lawful cells =
    is_contiguous cells
    && (nat_le (length cells) most_characters
    && nat_le (length (marks_of (drop 1 cells))) (mark_limit cells))

-- an image in stretches that each fit on a card, none of which would with the next position too
pub record IsSplit (image : List Cell) (stretches : List (List Cell)) : Type 0 where
  pub all : flat_map (λ stretch. stretch) stretches ≡ image
  pub some : (k : ℕ) → k < length stretches → slice_index_or stretches k [] ≢ []
  pub lawful : (k : ℕ) → k < length stretches → is_lawful (slice_index_or stretches k []) ≡ true
  pub longest : (k : ℕ) → k + 1 < length stretches →
      is_lawful (slice_index_or stretches k [] ++ take 1 (slice_index_or stretches (k + 1) []))
      ≡ false

-- the stretches of the cells after those so far: the first goes on as long as it fits on a card
unfoldable pub stretches_from : List Cell → List Cell → List (List Cell)
stretches_from stretch [] = stretch ∷ []
stretches_from stretch (c ∷ cells) =
    if is_lawful (stretch ++ c ∷ []) then stretches_from (stretch ++ c ∷ []) cells
    else stretch ∷ stretches_from (c ∷ []) cells

-- the stretches of an image, each as long as fits on a card
unfoldable pub stretches_of : List Cell → List (List Cell)
stretches_of [] = []
stretches_of (c ∷ cells) = stretches_from (c ∷ []) cells
