-- what is read after codes were put
use Rattle.std.proofs.Common.{◌⊎◌, inl, inr, zero, ◌≡◌, ◌≢◌, ℕ, suc, ◌+◌, ◌-◌, ◌<◌, ◌≤◌, Bool, false, List, [], ◌∷◌, ◌++◌, refl, sym, ◌∙◌, ap, arith, length, get_or, set, take, drop, map, add-one, length-set, get_or-set_same, get_or-set_other}
use Rattle.std.proofs.lemmas.List.{drop_more, set_past, set-set, set_comm, length-map, length-take, length-drop, drop-set-lt, take_more, map_push, get_or-drop, take-map, drop-map, set-get_or}
use Rattle.std.proofs.Math.Decide.{dec_lt}
use Rattle.core_store.specs.Storage.{Storage, code_at, is_marked, put, with_mark, put_codes, put_cells, codes_ending, cells_ending, codes_from}

-- ---- one code

pub length-put : (s : Storage) (p code : ℕ) → length (put s p code) ≡ length s
length-put s p code = length-set s p (code, is_marked s p)

pub code_at-put_same : (s : Storage) (p code : ℕ) → p < length s → code_at (put s p code) p ≡ code
code_at-put_same s p code h = ap (λ c. c.0) (get_or-set_same s p (code, is_marked s p) (0, false) h)

pub cell-put_other : (s : Storage) (p q code : ℕ) → q ≢ p → get_or (put s p code) q (0, false) ≡ get_or s q (0, false)
cell-put_other s p q code h = get_or-set_other s p q (code, is_marked s p) (0, false) h

put_past : (s : Storage) (p code : ℕ) → length s ≤ p → put s p code ≡ s
put_past s p code h = set_past s p (code, is_marked s p) h

pub is_marked-put_same : (s : Storage) (p code : ℕ) → is_marked (put s p code) p ≡ is_marked s p
is_marked-put_same s p code =
    elim (dec_lt p (length s)) [
      | yes within ↦ ap (λ c. c.1) (get_or-set_same s p (code, is_marked s p) (0, false) within)
      | no past ↦ let out : length s ≤ p = omega arith in ap (λ t. is_marked t p) (put_past s p code out)
    ]

pub put-put_same : (s : Storage) (p c d : ℕ) → put (put s p c) p d ≡ put s p d
put-put_same s p c d =
    ap (λ m. set (put s p c) p (d, m)) (is_marked-put_same s p c) ∙ set-set s p (c, is_marked s p) (d, is_marked s p)

pub put-put_other : (s : Storage) (p q c d : ℕ) → p ≢ q → put (put s p c) q d ≡ put (put s q d) p c
put-put_other s p q c d h =
    let back : q ≢ p = λ e. h (sym e) in
    ap (λ cell. set (put s p c) q (d, cell.1)) (cell-put_other s p q c back)
    ∙ set_comm s p q (c, is_marked s p) (d, is_marked s q) h
    ∙ ap (λ cell. set (put s q d) p (c, cell.1)) (sym (cell-put_other s q p d h))

-- ---- codes in a row

pub length-put_codes : (s : Storage) (first : ℕ) (codes : List ℕ) → length (put_codes s first codes) ≡ length s
unfolding put_codes
length-put_codes s first [] = refl
length-put_codes s first (code ∷ codes) = length-put (put_codes s (first + 1) codes) first code ∙ length-put_codes s (first + 1) codes

pub cell-put_codes_below : (s : Storage) (first : ℕ) (codes : List ℕ) (p : ℕ) → p < first → get_or (put_codes s first codes) p (0, false) ≡ get_or s p (0, false)
unfolding put_codes
cell-put_codes_below s first [] p h = refl
cell-put_codes_below s first (code ∷ codes) p h =
    let ne : p ≢ first = omega arith in
    cell-put_other (put_codes s (first + 1) codes) first p code ne ∙ cell-put_codes_below s (first + 1) codes p (omega arith)

pub cell-put_codes_above : (s : Storage) (first : ℕ) (codes : List ℕ) (p : ℕ) → first + length codes ≤ p → get_or (put_codes s first codes) p (0, false) ≡ get_or s p (0, false)
unfolding put_codes
cell-put_codes_above s first [] p h = refl
cell-put_codes_above s first (code ∷ codes) p h =
    let ne : p ≢ first = omega arith in
    cell-put_other (put_codes s (first + 1) codes) first p code ne ∙ cell-put_codes_above s (first + 1) codes p (omega arith)

-- a code put below the others may be put first
pub put_codes-put_below : (s : Storage) (p code first : ℕ) (codes : List ℕ) → p < first → put_codes (put s p code) first codes ≡ put (put_codes s first codes) p code
unfolding put_codes
put_codes-put_below s p code first [] h = refl
put_codes-put_below s p code first (c ∷ codes) h =
    let ne : p ≢ first = omega arith in
    ap (λ t. put t first c) (put_codes-put_below s p code (first + 1) codes (omega arith)) ∙ put-put_other (put_codes s (first + 1) codes) p first code c ne

-- codes that are put over others of the same number
pub put_codes-put_codes : (s : Storage) (first : ℕ) (xs ys : List ℕ) → length xs ≡ length ys → put_codes (put_codes s first xs) first ys ≡ put_codes s first ys
unfolding put_codes
put_codes-put_codes s first [] [] h = refl
put_codes-put_codes s first [] (y ∷ ys) h = absurd (omega arith)
put_codes-put_codes s first (x ∷ xs) [] h = absurd (omega arith)
put_codes-put_codes s first (x ∷ xs) (y ∷ ys) h =
    ap (λ t. put t first y) (put_codes-put_below (put_codes s (first + 1) xs) first x (first + 1) ys (omega arith) ∙ ap (λ t. put t first x) (put_codes-put_codes s (first + 1) xs ys (omega arith)))
    ∙ put-put_same (put_codes s (first + 1) ys) first x y

-- ---- the codes up to a position

-- the count codes from first on
from : Storage → ℕ → ℕ → List ℕ
from s first count = map (λ (cell : ℕ × Bool). cell.0) (take count (drop first s))

from-none : (s : Storage) (first : ℕ) → from s first 0 ≡ []
unfolding from
from-none s first = refl

from_more : (s : Storage) (first count : ℕ) → first < length s → from s first (suc count) ≡ code_at s first ∷ from s (first + 1) count
unfolding from
from_more s first count h = rw (drop_more s first (0, false) h) refl

length-from : (s : Storage) (first count : ℕ) → first + count ≤ length s → length (from s first count) ≡ count
unfolding from
length-from s first count h = simp (length-map, length-take, length-drop) (omega arith)

ending_is_from : (s : Storage) (p count first : ℕ) → first + count ≡ p + 1 → codes_ending s p count ≡ from s first count
unfolding codes_ending from
ending_is_from s p count first h =
    let start : p + 1 - count ≡ first = omega arith in
    let many : p + 1 - first ≡ count = omega arith in
    rw (start, many) refl

pub codes_ending-none : (s : Storage) (p : ℕ) → codes_ending s p 0 ≡ []
codes_ending-none s p = ending_is_from s p 0 (p + 1) (omega arith) ∙ from-none s (p + 1)

pub length-codes_ending : (s : Storage) (p count : ℕ) → p < length s → count ≤ p + 1 → length (codes_ending s p count) ≡ count
length-codes_ending s p count h le =
    ap length (ending_is_from s p count (p + 1 - count) (omega arith)) ∙ length-from s (p + 1 - count) count (omega arith)

pub codes_ending_more : (s : Storage) (p count : ℕ) → p < length s → count ≤ p → codes_ending s p (count + 1) ≡ code_at s (p - count) ∷ codes_ending s p count
codes_ending_more s p count h le =
    let more : count + 1 ≡ suc count = add-one count in
    ending_is_from s p (count + 1) (p - count) (omega arith)
    ∙ ap (from s (p - count)) more
    ∙ from_more s (p - count) count (omega arith)
    ∙ ap (λ codes. code_at s (p - count) ∷ codes) (sym (ending_is_from s p count (p - count + 1) (omega arith)))

from-put_below : (s : Storage) (p code first count : ℕ) → p < first → from (put s p code) first count ≡ from s first count
unfolding from
from-put_below s p code first count h = rw drop-set-lt refl

from-put_codes : (s : Storage) (first : ℕ) (codes : List ℕ) → first + length codes ≤ length s → from (put_codes s first codes) first (length codes) ≡ codes
unfolding put_codes
from-put_codes s first [] h = from-none s first
from-put_codes s first (code ∷ codes) h =
    let rest = put_codes s (first + 1) codes in
    let long : length rest ≡ length s = length-put_codes s (first + 1) codes in
    from_more (put rest first code) first (length codes) (omega (arith, length-put rest first code))
    ∙ ap (λ x. x ∷ from (put rest first code) (first + 1) (length codes)) (code_at-put_same rest first code (omega arith))
    ∙ ap (λ xs. code ∷ xs) (from-put_below rest first code (first + 1) (length codes) (omega arith) ∙ from-put_codes s (first + 1) codes (omega arith))

-- what was put at the last places up to a position is read there
pub codes_ending-put_codes : (s : Storage) (p : ℕ) (codes : List ℕ) (first : ℕ) → p < length s → first + length codes ≡ p + 1 → codes_ending (put_codes s first codes) p (length codes) ≡ codes
codes_ending-put_codes s p codes first h e =
    ending_is_from (put_codes s first codes) p (length codes) first e ∙ from-put_codes s first codes (omega arith)

-- the last of the codes up to a position is the one there
pub last-codes_ending : (s : Storage) (p count : ℕ) → p < length s → count ≤ p → get_or (codes_ending s p (suc count)) count 0 ≡ code_at s p
last-codes_ending s p zero h le =
    let whole : p - 0 ≡ p = omega arith in
    let one : suc 0 ≡ 0 + 1 = omega arith in
    ap (λ n. get_or (codes_ending s p n) 0 0) one ∙ ap (λ xs. get_or xs 0 0) (codes_ending_more s p 0 h le) ∙ ap (code_at s) whole
last-codes_ending s p (suc count) h le =
    ap (λ n. get_or (codes_ending s p n) (suc count) 0) (sym (add-one (suc count)))
    ∙ ap (λ xs. get_or xs (suc count) 0) (codes_ending_more s p (suc count) h le) ∙ last-codes_ending s p count h (omega arith)

-- what was put is read
pub code_at-put_codes : (s : Storage) (first : ℕ) (codes : List ℕ) (j : ℕ) → j < length codes → first + length codes ≤ length s → code_at (put_codes s first codes) (first + j) ≡ get_or codes j 0
unfolding put_codes
code_at-put_codes s first [] j h le = absurd (omega arith)
code_at-put_codes s first (code ∷ codes) zero h le =
    let rest = put_codes s (first + 1) codes in
    let here : first + 0 ≡ first = omega arith in
    ap (code_at (put rest first code)) here ∙ code_at-put_same rest first code (omega (arith, length-put_codes s (first + 1) codes))
code_at-put_codes s first (code ∷ codes) (suc j) h le =
    let rest = put_codes s (first + 1) codes in
    let next : first + suc j ≡ first + 1 + j = omega arith in
    let other : first + 1 + j ≢ first = omega arith in
    ap (code_at (put rest first code)) next ∙ ap (λ c. c.0) (cell-put_other rest first (first + 1 + j) code other)
    ∙ code_at-put_codes s (first + 1) codes j (omega arith) (omega arith)

-- ---- the codes from a position on

codes_from_is : (s : Storage) (first count : ℕ) → codes_from s first count ≡ from s first count
unfolding codes_from from
codes_from_is s first count = let many : first + count - first ≡ count = omega arith in rw many refl

pub codes_from_none : (s : Storage) (first : ℕ) → codes_from s first 0 ≡ []
codes_from_none s first = codes_from_is s first 0 ∙ from-none s first

pub length-codes_from : (s : Storage) (first count : ℕ) → first + count ≤ length s → length (codes_from s first count) ≡ count
length-codes_from s first count h = ap length (codes_from_is s first count) ∙ length-from s first count h

pub codes_from_more : (s : Storage) (first count : ℕ) → first + count < length s → codes_from s first (count + 1) ≡ codes_from s first count ++ code_at s (first + count) ∷ []
unfolding from
codes_from_more s first count h =
    codes_from_is s first (count + 1)
    ∙ ap (map (λ (cell : ℕ × Bool). cell.0)) (take_more (drop first s) count (0, false) (omega (arith, length-drop first s)))
    ∙ map_push (λ (cell : ℕ × Bool). cell.0) (take count (drop first s)) (get_or (drop first s) count (0, false))
    ∙ ap (λ (cell : ℕ × Bool). map (λ (c : ℕ × Bool). c.0) (take count (drop first s)) ++ cell.0 ∷ []) (get_or-drop first s count (0, false))
    ∙ ap (λ xs. xs ++ code_at s (first + count) ∷ []) (sym (codes_from_is s first count))

pub codes_from_next : (s : Storage) (first count : ℕ) → first < length s → codes_from s first (suc count) ≡ code_at s first ∷ codes_from s (first + 1) count
codes_from_next s first count h =
    codes_from_is s first (suc count) ∙ from_more s first count h ∙ ap (λ xs. code_at s first ∷ xs) (sym (codes_from_is s (first + 1) count))

-- a character and then a mark at one position
pub with_mark-put : (s : Storage) (p code : ℕ) (marked : Bool) → p < length s → with_mark (put s p code) p marked ≡ set s p (code, marked)
with_mark-put s p code marked h =
    ap (λ c. set (put s p code) p (c, marked)) (code_at-put_same s p code h) ∙ set-set s p (code, is_marked s p) (code, marked)

-- ---- cells in a row

pub length-put_cells : (s : Storage) (first : ℕ) (cells : Storage) → length (put_cells s first cells) ≡ length s
unfolding put_cells
length-put_cells s first [] = refl
length-put_cells s first (cell ∷ cells) = length-set (put_cells s (first + 1) cells) first cell ∙ length-put_cells s (first + 1) cells

pub cell-put_cells_below : (s : Storage) (first : ℕ) (cells : Storage) (p : ℕ) → p < first → get_or (put_cells s first cells) p (0, false) ≡ get_or s p (0, false)
unfolding put_cells
cell-put_cells_below s first [] p h = refl
cell-put_cells_below s first (cell ∷ cells) p h =
    let ne : p ≢ first = omega arith in
    get_or-set_other (put_cells s (first + 1) cells) first p cell (0, false) ne ∙ cell-put_cells_below s (first + 1) cells p (omega arith)

pub cell-put_cells_above : (s : Storage) (first : ℕ) (cells : Storage) (p : ℕ) → first + length cells ≤ p → get_or (put_cells s first cells) p (0, false) ≡ get_or s p (0, false)
unfolding put_cells
cell-put_cells_above s first [] p h = refl
cell-put_cells_above s first (cell ∷ cells) p h =
    let ne : p ≢ first = omega arith in
    get_or-set_other (put_cells s (first + 1) cells) first p cell (0, false) ne ∙ cell-put_cells_above s (first + 1) cells p (omega arith)

cells_are : (s : Storage) (p count first : ℕ) → first + count ≡ p + 1 → cells_ending s p count ≡ take count (drop first s)
unfolding cells_ending
cells_are s p count first e =
    let start : p + 1 - count ≡ first = omega arith in
    let many : p + 1 - first ≡ count = omega arith in
    rw (start, many) refl

pub cells_ending-none : (s : Storage) (p : ℕ) → cells_ending s p 0 ≡ []
cells_ending-none s p = cells_are s p 0 (p + 1) (omega arith)

pub length-cells_ending : (s : Storage) (p count : ℕ) → p < length s → count ≤ p + 1 → length (cells_ending s p count) ≡ count
length-cells_ending s p count h le =
    ap length (cells_are s p count (p + 1 - count) (omega arith)) ∙ simp (length-take, length-drop) (omega arith)

pub cells_ending_more : (s : Storage) (p count : ℕ) → p < length s → count ≤ p → cells_ending s p (count + 1) ≡ get_or s (p - count) (0, false) ∷ cells_ending s p count
cells_ending_more s p count h le =
    let more : count + 1 ≡ suc count = add-one count in
    let first : ℕ = p - count in
    let here : first < length s = omega arith in
    cells_are s p (count + 1) first (omega arith)
    ∙ ap (λ n. take n (drop first s)) more
    ∙ ap (take (suc count)) (drop_more s first (0, false) here)
    ∙ ap (λ cells. get_or s first (0, false) ∷ cells) (sym (cells_are s p count (first + 1) (omega arith)))

-- ---- a character of those from a position on

pub code-codes_from : (s : Storage) (first count place : ℕ) → place < count → first + count ≤ length s → get_or (codes_from s first count) place 0 ≡ code_at s (first + place)
code-codes_from s first zero place lt h = absurd (omega arith)
code-codes_from s first (suc count) zero lt h =
    let here : first ≡ first + 0 = omega arith in
    ap (λ xs. get_or xs 0 0) (codes_from_next s first count (omega arith)) ∙ ap (code_at s) here
code-codes_from s first (suc count) (suc place) lt h =
    let next : first + 1 + place ≡ first + suc place = omega arith in
    ap (λ xs. get_or xs (suc place) 0) (codes_from_next s first count (omega arith))
    ∙ code-codes_from s (first + 1) count place (omega arith) (omega arith) ∙ ap (code_at s) next

-- ---- both ways to name the codes in a row

pub codes_ending_is_from : (s : Storage) (p count first : ℕ) → first + count ≡ p + 1 → codes_ending s p count ≡ codes_from s first count
codes_ending_is_from s p count first e = ending_is_from s p count first e ∙ sym (codes_from_is s first count)

pub codes_from-put_codes : (s : Storage) (first : ℕ) (codes : List ℕ) → first + length codes ≤ length s → codes_from (put_codes s first codes) first (length codes) ≡ codes
codes_from-put_codes s first codes h = codes_from_is (put_codes s first codes) first (length codes) ∙ from-put_codes s first codes h

-- codes put elsewhere are not among those up to a position
pub codes_ending-put_apart : (s : Storage) (p count first : ℕ) (codes : List ℕ) → p < length s → count ≤ p + 1 → (p < first) ⊎ (first + length codes + count ≤ p + 1) →
    codes_ending (put_codes s first codes) p count ≡ codes_ending s p count
codes_ending-put_apart s p zero first codes h le apart = codes_ending-none (put_codes s first codes) p ∙ sym (codes_ending-none s p)
codes_ending-put_apart s p (suc count) first codes h le apart =
    let t = put_codes s first codes in
    let long : length t ≡ length s = length-put_codes s first codes in
    ap (codes_ending t p) (sym (add-one count))
    ∙ codes_ending_more t p count (omega arith) (omega arith)
    ∙ ap (λ c. c ∷ codes_ending t p count) (same apart)
    ∙ ap (λ xs. code_at s (p - count) ∷ xs) (codes_ending-put_apart s p count first codes h (omega arith) (fewer apart))
    ∙ sym (codes_ending_more s p count h (omega arith))
    ∙ ap (codes_ending s p) (add-one count) where
      same : (p < first) ⊎ (first + length codes + suc count ≤ p + 1) → code_at (put_codes s first codes) (p - count) ≡ code_at s (p - count)
      same (inl below) = ap (λ c. c.0) (cell-put_codes_below s first codes (p - count) (omega arith))
      same (inr above) = ap (λ c. c.0) (cell-put_codes_above s first codes (p - count) (omega arith))

      fewer : (p < first) ⊎ (first + length codes + suc count ≤ p + 1) → (p < first) ⊎ (first + length codes + count ≤ p + 1)
      fewer (inl below) = inl below
      fewer (inr above) = inr (omega arith)

-- a mark changes no code
map-with_mark : (s : Storage) (p : ℕ) (m : Bool) → map (λ (cell : ℕ × Bool). cell.0) (with_mark s p m) ≡ map (λ (cell : ℕ × Bool). cell.0) s
map-with_mark [] p m = refl
map-with_mark (cell ∷ s) zero m = refl
map-with_mark (cell ∷ s) (suc p) m = ap (λ xs. cell.0 ∷ xs) (map-with_mark s p m)

pub codes_ending-with_mark : (s : Storage) (q : ℕ) (m : Bool) (p count : ℕ) → codes_ending (with_mark s q m) p count ≡ codes_ending s p count
unfolding codes_ending
codes_ending-with_mark s q m p count =
    let all = λ (t : Storage). map (λ (cell : ℕ × Bool). cell.0) t in
    let start = p + 1 - count in
    let many = p + 1 - start in
    sym (take-map (λ (cell : ℕ × Bool). cell.0) many (drop start (with_mark s q m)) ∙ refl)
    ∙ ap (take many) (sym (drop-map (λ (cell : ℕ × Bool). cell.0) start (with_mark s q m)) ∙ ap (drop start) (map-with_mark s q m) ∙ drop-map (λ (cell : ℕ × Bool). cell.0) start s)
    ∙ take-map (λ (cell : ℕ × Bool). cell.0) many (drop start s)

-- ---- putting again

-- another code at one of the places where codes were put
pub put-put_codes : (s : Storage) (first : ℕ) (codes : List ℕ) (i code : ℕ) → i < length codes → put (put_codes s first codes) (first + i) code ≡ put_codes s first (set codes i code)
unfolding put_codes
put-put_codes s first [] i code h = absurd (omega arith)
put-put_codes s first (c ∷ codes) zero code h =
    let here : first + 0 ≡ first = omega arith in
    ap (λ p. put (put (put_codes s (first + 1) codes) first c) p code) here ∙ put-put_same (put_codes s (first + 1) codes) first c code
put-put_codes s first (c ∷ codes) (suc i) code h =
    let next : first + suc i ≡ first + 1 + i = omega arith in
    let ne : first ≢ first + 1 + i = omega arith in
    ap (λ p. put (put (put_codes s (first + 1) codes) first c) p code) next
    ∙ put-put_other (put_codes s (first + 1) codes) first (first + 1 + i) c code ne
    ∙ ap (λ t. put t first c) (put-put_codes s (first + 1) codes i code (omega arith))

put_same : (s : Storage) (p : ℕ) → put s p (code_at s p) ≡ s
put_same s p = set-get_or s p (0, false)

-- the codes that stand there already
pub put_codes-codes_from : (s : Storage) (first count : ℕ) → first + count ≤ length s → put_codes s first (codes_from s first count) ≡ s
unfolding put_codes
put_codes-codes_from s first zero h = ap (put_codes s first) (codes_from_none s first)
put_codes-codes_from s first (suc count) h =
    ap (put_codes s first) (codes_from_next s first count (omega arith))
    ∙ ap (λ t. put t first (code_at s first)) (put_codes-codes_from s (first + 1) count (omega arith))
    ∙ put_same s first

-- ---- marks where characters were put

is_marked-put : (s : Storage) (p code q : ℕ) → is_marked (put s p code) q ≡ is_marked s q
is_marked-put s p code q =
    elim (dec_lt p q) [
      | yes after ↦ let ne : q ≢ p = omega arith in ap (λ c. c.1) (cell-put_other s p q code ne)
      | no upto ↦ elim (dec_lt q p) [
        | yes before ↦ let ne : q ≢ p = omega arith in ap (λ c. c.1) (cell-put_other s p q code ne)
        | no from_here ↦ let same : q ≡ p = omega arith in ap (is_marked (put s p code)) same ∙ is_marked-put_same s p code ∙ ap (is_marked s) (sym same)
      ]
    ]

pub is_marked-put_codes : (s : Storage) (first : ℕ) (codes : List ℕ) (q : ℕ) → is_marked (put_codes s first codes) q ≡ is_marked s q
unfolding put_codes
is_marked-put_codes s first [] q = refl
is_marked-put_codes s first (code ∷ codes) q = is_marked-put (put_codes s (first + 1) codes) first code q ∙ is_marked-put_codes s (first + 1) codes q

-- ---- a cell of those that were put

pub cell-put_cells : (s : Storage) (first : ℕ) (cells : Storage) (j : ℕ) → j < length cells → first + length cells ≤ length s → get_or (put_cells s first cells) (first + j) (0, false) ≡ get_or cells j (0, false)
unfolding put_cells
cell-put_cells s first [] j h le = absurd (omega arith)
cell-put_cells s first (cell ∷ cells) zero h le =
    let rest = put_cells s (first + 1) cells in
    let here : first + 0 ≡ first = omega arith in
    ap (λ p. get_or (set rest first cell) p (0, false)) here ∙ get_or-set_same rest first cell (0, false) (omega (arith, length-put_cells s (first + 1) cells))
cell-put_cells s first (cell ∷ cells) (suc j) h le =
    let rest = put_cells s (first + 1) cells in
    let next : first + suc j ≡ first + 1 + j = omega arith in
    let other : first + 1 + j ≢ first = omega arith in
    ap (λ p. get_or (set rest first cell) p (0, false)) next ∙ get_or-set_other rest first (first + 1 + j) cell (0, false) other
    ∙ cell-put_cells s (first + 1) cells j (omega arith) (omega arith)

-- the cell at a place from the right of those up to a position
pub nth-cells_ending : (s : Storage) (p count place j : ℕ) → p < length s → count ≤ p + 1 → place + j + 1 ≡ count → get_or (cells_ending s p count) place (0, false) ≡ get_or s (p - j) (0, false)
nth-cells_ending s p zero place j h le e = absurd (omega arith)
nth-cells_ending s p (suc count) zero j h le e =
    let same : count ≡ j = omega arith in
    ap (λ n. get_or (cells_ending s p n) 0 (0, false)) (sym (add-one count))
    ∙ ap (λ xs. get_or xs 0 (0, false)) (cells_ending_more s p count h (omega arith)) ∙ ap (λ n. get_or s (p - n) (0, false)) same
nth-cells_ending s p (suc count) (suc place) j h le e =
    ap (λ n. get_or (cells_ending s p n) (suc place) (0, false)) (sym (add-one count))
    ∙ ap (λ xs. get_or xs (suc place) (0, false)) (cells_ending_more s p count h (omega arith)) ∙ nth-cells_ending s p count place j h (omega arith) (omega arith)
