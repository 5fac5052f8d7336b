-- the outlines of the holes of a card, column by column
use Rattle.std.proofs.Common.{◌≡◌, ℕ, ◌+◌, ◌-◌, ◌<◌, ◌≤◌, ◌==◌, true, false, bit_and, List, [], ◌∷◌, ◌++◌, length, map, filter, take, get_or, refl, ap, sym, ◌∙◌, append_assoc}
use Rattle.std.specs.List.{flat_map}
use Rattle.std.proofs.lemmas.List.{flat_map_more, take_all, take_more}
use Rattle.std.proofs.lemmas.List.Concat.{flat_map-append}
use Rattle.bcd.specs.Table.{row}
use Rattle.pictures.specs.Cards.{column_outlines, hole_if_punched, holes_from, holes_in, is_punched, outline, outlines}
use Rattle.pictures.specs.Places.{column_middle, corner, row_middle, rows}

-- a row by its bit and the upper edge of its holes
abbrev pub edge_of : ℕ → ℕ × ℕ
edge_of number = (row number, row_middle number - 62)

-- the outlines of the holes among rows
among : (column code : ℕ) (numbers : List ℕ)
    → flat_map (hole_if_punched (column_middle column - 27) code) (map edge_of numbers)
    ≡ outlines (map (λ number. (column, number)) (filter (is_punched code) numbers))
among column code [] = refl
among column code (number ∷ numbers) =
    (elim (bit_and code (row number) == 0) as (λ b. (bit_and code (row number) == 0) ≡ b
    → hole_if_punched (column_middle column - 27) code (edge_of number) ++ flat_map (hole_if_punched (column_middle column - 27) code) (map edge_of numbers)
    ≡ outlines (map (λ number. (column, number)) (filter (is_punched code) (number ∷ numbers)))) [
      | true ↦ λ blank. rw blank (among column code numbers)
      | false ↦ λ hole. rw hole (ap (λ rest. outline (corner (column, number)) ++ rest) (among column code numbers))
    ]) refl

-- one row more of a table
pub row_on : (f : ℕ × ℕ → List ℕ) (table : List (ℕ × ℕ)) (start out new : List ℕ) (i : ℕ) → i < length table
    → out ≡ start ++ flat_map f (take i table) → new ≡ out ++ f (get_or table i (0, 0)) → new ≡ start ++ flat_map f (take (i + 1) table)
row_on f table start out new i within before added =
    added ∙ ap (λ all. all ++ f (get_or table i (0, 0))) before
    ∙ flat_map_more f start (take i table) (get_or table i (0, 0))
    ∙ ap (λ places. start ++ flat_map f places) (sym (take_more table i (0, 0) within))

-- all rows of the table of rows
pub all_rows : (table : List (ℕ × ℕ)) (column code : ℕ) (start out : List ℕ) (i left : ℕ) → table ≡ map edge_of rows → length table ≤ i
    → left ≡ column_middle column
    → out ≡ start ++ flat_map (hole_if_punched (left - 27) code) (take i table) → out ≡ start ++ column_outlines column code
all_rows table column code start out i left is_table end is_left before =
    before ∙ rw (take_all i table end, is_table, is_left) (ap (λ text. start ++ text) (among column code rows))

-- one column more
pub holes_on : (column code : ℕ) (rest all done : List ℕ) → all ≡ code ∷ rest
    → (done ++ column_outlines column code) ++ outlines (holes_from (column + 1) rest) ≡ done ++ outlines (holes_from column all)
unfolding holes_from
holes_on column code rest all done first =
    rw first (append_assoc done (column_outlines column code) (outlines (holes_from (column + 1) rest))
    ∙ ap (λ r. done ++ r) (sym (flat_map-append (λ hole. outline (corner hole)) (holes_in column code) (holes_from (column + 1) rest))))
