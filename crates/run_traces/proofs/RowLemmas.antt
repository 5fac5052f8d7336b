-- rows of storage, one after the other
use Rattle.std.proofs.Common.{◌≡◌, ℕ, suc, ◌+◌, ◌-◌, ◌<◌, Bool, false, List, [], ◌∷◌, ◌++◌, length, map, take, drop, get_or, refl, sym, ap, ◌∙◌, arith, append-nil, append_assoc}
use Rattle.std.proofs.lemmas.List.{map-append, take_more, get_or-drop, length-drop}
use Rattle.core_store.specs.Storage.{Storage, code_at, codes_from, is_marked, marks_from}
use Rattle.core_store.proofs.Fields.{codes_from_more, codes_from_none}
use Rattle.run_traces.specs.Rows.{follows_blank, is_blank_at, row_shown, rows_shown}

-- no character, and one more
pub codes_begin : (s : Storage) (first : ℕ) → [] ≡ codes_from s first 0
codes_begin s first = sym (codes_from_none s first)

pub codes_on : (s : Storage) (first place : ℕ) (codes : List ℕ) → first + place < length s → codes ≡ codes_from s first place
    → codes ++ code_at s (first + place) ∷ [] ≡ codes_from s first (place + 1)
codes_on s first place codes within before = ap (λ xs. xs ++ code_at s (first + place) ∷ []) before ∙ sym (codes_from_more s first place within)

-- no word mark, and one more
pub marks_begin : (s : Storage) (first : ℕ) → [] ≡ marks_from s first 0
unfolding marks_from
marks_begin s first =
    let none : first + 0 - first ≡ 0 = omega arith in
    sym (ap (λ n. map (λ cell. cell.1) (take n (drop first s))) none)

marks_from_more : (s : Storage) (first place : ℕ) → first + place < length s → marks_from s first (place + 1) ≡ marks_from s first place ++ is_marked s (first + place) ∷ []
unfolding marks_from
marks_from_more s first place within =
    let one : first + (place + 1) - first ≡ place + 1 = omega arith in
    let all : first + place - first ≡ place = omega arith in
    let rest : place < length (drop first s) = omega (arith, length-drop first s) in
    ap (λ n. map (λ cell. cell.1) (take n (drop first s))) one
    ∙ ap (map (λ cell. cell.1)) (take_more (drop first s) place (0, false) rest)
    ∙ map-append (λ cell. cell.1) (take place (drop first s)) (get_or (drop first s) place (0, false) ∷ [])
    ∙ ap (λ cell. map (λ c. c.1) (take place (drop first s)) ++ cell.1 ∷ []) (get_or-drop first s place (0, false))
    ∙ ap (λ n. map (λ c. c.1) (take n (drop first s)) ++ is_marked s (first + place) ∷ []) (sym all)

pub marks_on : (s : Storage) (first place : ℕ) (marks : List Bool) → first + place < length s → marks ≡ marks_from s first place
    → marks ++ is_marked s (first + place) ∷ [] ≡ marks_from s first (place + 1)
marks_on s first place marks within before = ap (λ xs. xs ++ is_marked s (first + place) ∷ []) before ∙ sym (marks_from_more s first place within)

-- no row, and one more
pub rows_begin : (s : Storage) (first : ℕ) (start : List ℕ) → start ≡ start ++ rows_shown s first 0
unfolding rows_shown
rows_begin s first start = sym (append-nil start)

pub rows_on : (s : Storage) (first count : ℕ) (follows : Bool) (start text : List ℕ) → text ≡ start ++ rows_shown s first count → follows ≡ follows_blank s first count
    → text ++ row_shown s follows (first + count) ≡ start ++ rows_shown s first (suc count)
unfolding rows_shown
rows_on s first count follows start text before is =
    ap (λ t. t ++ row_shown s follows (first + count)) before
    ∙ ap (λ b. (start ++ rows_shown s first count) ++ row_shown s b (first + count)) is
    ∙ append_assoc start (rows_shown s first count) (row_shown s (follows_blank s first count) (first + count))

pub follows_on : (s : Storage) (first count : ℕ) → is_blank_at s (first + count) ≡ follows_blank s first (suc count)
unfolding follows_blank
follows_on s first count = refl

pub follows_begin : (s : Storage) (first : ℕ) → false ≡ follows_blank s first 0
unfolding follows_blank
follows_begin s first = refl
