-- the outlines of the holes of a card are read as their corners
use Rattle.std.proofs.Common.{◌≡◌, ℕ, zero, suc, ◌+◌, ◌-◌, ◌<◌, ◌≤◌, ◌==◌, ◌^◌, true, not, List, [], ◌∷◌, ◌++◌, length, map, filter, drop, replicate, decimal, codes, nat_lt, refl, ap, sym, ◌∙◌, arith, append_assoc, append-nil}
use Rattle.std.specs.List.{All, flat_map}
use Rattle.std.proofs.lemmas.Fmt.{decimal_is_IsNumeral}
use Rattle.std.proofs.lemmas.List.{map-append}
use Rattle.std.proofs.lemmas.List.Elements.{All-head, All-tail, All-nil, All-append, All-map, All-filter, All-weaker}
use Rattle.std.proofs.lemmas.Bool.{ltb-true}
use Rattle.std.proofs.lemmas.List.Sums.{AllPass-from_list_all}
use Rattle.pictures.specs.Cards.{holes_from, holes_in, is_punched, outline, outlines}
use Rattle.pictures.specs.Places.{corner, row_middle, rows}
use Rattle.pictures.specs.Reading.{corner_read, corners_in, pieces}
use Rattle.pictures.proofs.PiecesRead.{after_mark, before_mark, first_of_both, has_none, none_in_both, none_in_decimal, one_piece, pieces_both, second_of_both}

-- both numbers of a place are small
abbrev pub IsSmall : ℕ × ℕ → Type 0
IsSmall place = (place.0 < 2 ^ 64) × (place.1 < 2 ^ 64)

-- an outline without its first byte
abbrev body : ℕ × ℕ → List ℕ
body place = decimal place.0 ++ 32 ∷ (decimal place.1 ++ codes "h55v125h-55z")

outline_is : (place : ℕ × ℕ) → outline place ≡ 77 ∷ body place
outline_is place = simp append_assoc

-- digits are no other bytes
no_tag : (d : ℕ) → d < 10 → not (48 + d == 60) ≡ true
no_tag d small = grind (arith, small)

no_move : (d : ℕ) → d < 10 → not (48 + d == 77) ≡ true
no_move d small = grind (arith, small)

no_blank : (d : ℕ) → d < 10 → not (48 + d == 32) ≡ true
no_blank d small = grind (arith, small)

no_line : (d : ℕ) → d < 10 → not (48 + d == 104) ≡ true
no_line d small = grind (arith, small)

none_in_body : (mark : ℕ) → ((d : ℕ) → d < 10 → not (48 + d == mark) ≡ true) → has_none mark (32 ∷ codes "h55v125h-55z") ≡ true
    → (place : ℕ × ℕ) → IsSmall place → has_none mark (body place) ≡ true
none_in_body mark digits ends place small =
    let numbers = none_in_both mark (decimal place.1) (codes "h55v125h-55z") (none_in_decimal mark digits place.1 small.1) (second_of_both (not (32 == mark)) (has_none mark (codes "h55v125h-55z")) ends) in
    none_in_both mark (decimal place.0) (32 ∷ (decimal place.1 ++ codes "h55v125h-55z")) (none_in_decimal mark digits place.0 small.0) (rw (first_of_both (not (32 == mark)) (has_none mark (codes "h55v125h-55z")) ends, numbers) refl)

-- outlines hold none of some bytes
none_in_outlines : (mark : ℕ) → ((d : ℕ) → d < 10 → not (48 + d == mark) ≡ true) → has_none mark (77 ∷ 32 ∷ codes "h55v125h-55z") ≡ true
    → (places : List (ℕ × ℕ)) → All IsSmall places → has_none mark (flat_map outline places) ≡ true
none_in_outlines mark digits ends [] small = refl
none_in_outlines mark digits ends (place ∷ places) small =
    let first = first_of_both (not (77 == mark)) (has_none mark (32 ∷ codes "h55v125h-55z")) ends in
    let others = second_of_both (not (77 == mark)) (has_none mark (32 ∷ codes "h55v125h-55z")) ends in
    let in_body = none_in_body mark digits others place (All-head IsSmall place places small) in
    none_in_both mark (outline place) (flat_map outline places)
    (ap (has_none mark) (outline_is place) ∙ rw (first, in_body) refl)
    (none_in_outlines mark digits ends places (All-tail IsSmall place places small))

no_feed : (d : ℕ) → d < 10 → not (48 + d == 10) ≡ true
no_feed d small = grind (arith, small)

pub no_tag_in_outlines : (places : List (ℕ × ℕ)) → All IsSmall places → has_none 60 (flat_map outline places) ≡ true
no_tag_in_outlines places small = none_in_outlines 60 no_tag refl places small

pub no_feed_in_outlines : (places : List (ℕ × ℕ)) → All IsSmall places → has_none 10 (flat_map outline places) ≡ true
no_feed_in_outlines places small = none_in_outlines 10 no_feed refl places small

-- an outline without its first byte is read as its corner, whatever follows
body_read : (place : ℕ × ℕ) (rest : List ℕ) → IsSmall place → corner_read (body place ++ rest) ≡ place
unfolding corner_read
body_read place rest small =
    let left = before_mark 32 (decimal place.0) (decimal place.1 ++ (codes "h55v125h-55z" ++ rest)) (none_in_decimal 32 no_blank place.0 small.0) in
    let behind = after_mark 32 (decimal place.0) (decimal place.1 ++ (codes "h55v125h-55z" ++ rest)) (none_in_decimal 32 no_blank place.0 small.0) in
    let top = before_mark 104 (decimal place.1) (codes "55v125h-55z" ++ rest) (none_in_decimal 104 no_line place.1 small.1) in
    let parted : body place ++ rest ≡ decimal place.0 ++ 32 ∷ (decimal place.1 ++ (codes "h55v125h-55z" ++ rest)) =
    append_assoc (decimal place.0) (32 ∷ (decimal place.1 ++ codes "h55v125h-55z")) rest
    ∙ ap (λ text. decimal place.0 ++ 32 ∷ text) (append_assoc (decimal place.1) (codes "h55v125h-55z") rest) in
    rw (parted, left, behind, top, (decimal_is_IsNumeral place.0 small.0).1, (decimal_is_IsNumeral place.1 small.1).1) refl

body_alone : (place : ℕ × ℕ) → IsSmall place → corner_read (body place) ≡ place
body_alone place small = ap corner_read (sym (append-nil (body place))) ∙ body_read place [] small

-- the next outline behind others
next_outline : (place : ℕ × ℕ) (places : List (ℕ × ℕ)) (tail : List ℕ)
    → flat_map outline (place ∷ places) ++ tail ≡ 77 ∷ (body place ++ (flat_map outline places ++ tail))
next_outline place places tail =
    append_assoc (outline place) (flat_map outline places) tail ∙ ap (λ text. text ++ (flat_map outline places ++ tail)) (outline_is place)

-- the pieces of a path behind its first byte are read as the corners
pieces_from : (first : ℕ × ℕ) (places : List (ℕ × ℕ)) (tail : List ℕ) → IsSmall first → All IsSmall places → has_none 77 tail ≡ true
    → map corner_read (pieces 77 (body first ++ (flat_map outline places ++ tail))) ≡ first ∷ places
pieces_from first [] tail here small in_tail =
    rw (one_piece 77 (body first ++ tail) (none_in_both 77 (body first) tail (none_in_body 77 no_move refl first here) in_tail), body_read first tail here) refl
pieces_from first (place ∷ places) tail here small in_tail =
    let rest = body place ++ (flat_map outline places ++ tail) in
    ap (λ text. map corner_read (pieces 77 (body first ++ text))) (next_outline place places tail)
    ∙ ap (map corner_read) (pieces_both 77 (body first) rest)
    ∙ rw (one_piece 77 (body first) (none_in_body 77 no_move refl first here), body_alone first here)
    (ap (λ others. first ∷ others) (pieces_from place places tail (All-head IsSmall place places small) (All-tail IsSmall place places small) in_tail))

-- a path is read as the corners of its outlines
pub corners_of_path : (places : List (ℕ × ℕ)) (tail : List ℕ) → All IsSmall places → has_none 77 tail ≡ true → corners_in (flat_map outline places ++ tail) ≡ places
unfolding corners_in
corners_of_path [] tail small in_tail = rw (one_piece 77 tail in_tail) refl
corners_of_path (place ∷ places) tail small in_tail =
    let rest = body place ++ (flat_map outline places ++ tail) in
    ap (λ text. map corner_read (drop 1 (pieces 77 text))) (next_outline place places tail)
    ∙ ap (λ parts. map corner_read (drop 1 parts)) (pieces_both 77 [] rest)
    ∙ pieces_from place places tail (All-head IsSmall place places small) (All-tail IsSmall place places small) in_tail

-- outlines by the corners
pub by_corners : (holes : List (ℕ × ℕ)) → outlines holes ≡ flat_map outline (map corner holes)
by_corners [] = refl
by_corners (hole ∷ holes) = ap (λ text. outline (corner hole) ++ text) (by_corners holes)

-- the corners of the holes of a card are small
low_rows : All (λ number. row_middle number - 62 < 2 ^ 64) rows
low_rows =
    All-weaker (λ number. nat_lt (row_middle number - 62) 3000 ≡ true) (λ number. row_middle number - 62 < 2 ^ 64)
    (λ number below. omega (arith, ltb-true (row_middle number - 62) 3000 below)) rows
    (AllPass-from_list_all (λ number. nat_lt (row_middle number - 62) 3000) rows refl)

small_in : (column code : ℕ) → column ≤ 100 → All IsSmall (map corner (holes_in column code))
small_in column code near =
    All-map IsSmall corner (holes_in column code)
    (All-map (λ hole. IsSmall (corner hole)) (λ number. (column, number)) (filter (is_punched code) rows)
    (All-weaker (λ number. row_middle number - 62 < 2 ^ 64) (λ number. IsSmall (corner (column, number)))
    (λ number low. (omega (arith, near), low)) (filter (is_punched code) rows)
    (All-filter (is_punched code) (λ number. row_middle number - 62 < 2 ^ 64) rows low_rows)))

pub small_from : (column : ℕ) (codes : List ℕ) → column + length codes ≤ 100 → All IsSmall (map corner (holes_from column codes))
unfolding holes_from
small_from column [] near = All-nil IsSmall
small_from column (code ∷ codes) near =
    rw (map-append corner (holes_in column code) (holes_from (column + 1) codes))
    (All-append IsSmall (map corner (holes_in column code)) (map corner (holes_from (column + 1) codes))
    (small_in column code (omega arith)) (small_from (column + 1) codes (omega arith)))

-- blank columns have no holes
blank_column : (column : ℕ) → holes_in column 0 ≡ []
blank_column column = refl

pub none_in_blanks : (column count : ℕ) → holes_from column (replicate count 0) ≡ []
unfolding holes_from
none_in_blanks column zero = refl
none_in_blanks column (suc count) =
    ap (λ holes. holes ++ holes_from (column + 1) (replicate count 0)) (blank_column column) ∙ none_in_blanks (column + 1) count
