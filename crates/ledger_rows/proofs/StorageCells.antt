-- positions of storage and their bytes
use Rattle.std.proofs.Common.{◌≡◌, inl, inr, ℕ, zero, suc, ◌+◌, ◌-◌, ◌<◌, ◌≤◌, Bool, true, false, nat_lt, List, [], ◌∷◌, ◌++◌, refl, sym, ◌∙◌, ap, arith, length, map, take, drop, set, get_or, append-nil}
use Rattle.std.proofs.Math.Seq.{set-append_seam}
use Rattle.std.proofs.lemmas.Bool.{cases_Bool}
use Rattle.std.proofs.lemmas.Bool.Decides.{nat_tests}
use Rattle.std.proofs.lemmas.List.{drop_all, drop_more, length-append, length-drop, length-map, length-replicate, length-take-le, map_push, take_more}
use Rattle.std.proofs.lemmas.List.Elements.{All-append, All-drop, All-from_recursion, All-more, All-take, recursion_from_All}
use Rattle.std.specs.List.{AllByRecursion}
use Rattle.core_store.specs.Pages.{cells_of}
use Rattle.core_store.specs.Planes.{joined_planes}
use Rattle.core_store.specs.Storage.{Storage, blank_storage, code_at, is_marked}
use Rattle.core_store.specs.declared.planes.PlaneCore.{PlaneCore}
use Rattle.ledger_rows.specs.Columns.{byte_of, storage_bytes, HoldsCharacters}
use Rattle.ledger_rows.specs.Pages.{AreCells, cell_of, with_bytes}

-- the byte of what was read at a position
pub same_byte : (s : Storage) (p code : ℕ) (marked : Bool) (byte : ℕ) → code ≡ code_at s p → marked ≡ is_marked s p → byte ≡ byte_of (code, marked) →
    byte ≡ byte_of (code_at s p, is_marked s p)
same_byte s p code marked byte code_is marked_is is = is ∙ ap (λ n. byte_of (n, marked)) code_is ∙ ap (λ m. byte_of (code_at s p, m)) marked_is

-- ---- a byte and its position

pub byte_of_cell : (byte : ℕ) → byte_of (cell_of byte) ≡ byte
byte_of_cell byte = elim (cases_Bool (nat_lt byte 64)) [
  | inl low ↦ rw low refl
  | inr high ↦ let most : 64 ≤ byte = grind (arith, nat_tests) in rw high (let e : 64 + (byte - 64) ≡ byte = omega (arith, most) in e)
]

pub cell_of_byte : (cell : ℕ × Bool) → cell.0 < 64 → cell_of (byte_of cell) ≡ cell
cell_of_byte (n, true) below =
    let high : nat_lt (64 + n) 64 ≡ false = grind (arith, nat_tests) in
    let same : 64 + n - 64 ≡ n = omega arith in
    rw high (ap (λ m. let c : ℕ × Bool = (m, true) in c) same)
cell_of_byte (n, false) below = let low : nat_lt n 64 ≡ true = grind (arith, nat_tests) in rw low refl

pub byte_below : (cell : ℕ × Bool) → cell.0 < 64 → byte_of cell < 128
byte_below (n, true) below = omega (arith, below)
byte_below (n, false) below = omega (arith, below)

bytes_below : (s : Storage) → AllByRecursion (λ cell. cell.0 < 64) s → AllByRecursion (λ byte. byte < 128) (storage_bytes s)
bytes_below [] all = tt
bytes_below (cell ∷ s) all = (byte_below cell all.0, bytes_below s all.1)

pub are_cells : (s : Storage) → HoldsCharacters s → AreCells (storage_bytes s)
are_cells s holds = All-from_recursion (λ byte. byte < 128) (storage_bytes s) (bytes_below s (recursion_from_All (λ cell. cell.0 < 64) s holds))

cells_back : (s : Storage) → AllByRecursion (λ cell. cell.0 < 64) s → map cell_of (storage_bytes s) ≡ s
cells_back [] all = refl
cells_back (cell ∷ s) all = ap (λ c. c ∷ map cell_of (storage_bytes s)) (cell_of_byte cell all.0) ∙ ap (λ cs. cell ∷ cs) (cells_back s all.1)

pub cells_of_bytes : (s : Storage) → HoldsCharacters s → map cell_of (storage_bytes s) ≡ s
cells_of_bytes s holds = cells_back s (recursion_from_All (λ cell. cell.0 < 64) s holds)

pub bytes_of_cells : (bytes : List ℕ) → storage_bytes (map cell_of bytes) ≡ bytes
bytes_of_cells [] = refl
bytes_of_cells (byte ∷ bytes) = ap (λ b. b ∷ storage_bytes (map cell_of bytes)) (byte_of_cell byte) ∙ ap (λ bs. byte ∷ bs) (bytes_of_cells bytes)

-- ---- bytes that are written one by one

pub none_written : (s : Storage) (first : ℕ) → first ≤ length s → with_bytes s first [] ≡ s
none_written s first within =
    let at : first + 0 ≡ first = omega arith in
    ap (λ n. take first s ++ [] ++ drop n s) at ∙ ap (λ xs. xs ++ drop first s) (append-nil (take first s)) ∙ joined first s
  where
    joined : (n : ℕ) (xs : Storage) → take n xs ++ drop n xs ≡ xs
    joined zero xs = refl
    joined (suc n) [] = refl
    joined (suc n) (x ∷ xs) = ap (λ ys. x ∷ ys) (joined n xs)

-- one more byte was written
pub one_written : (s : Storage) (first place byte : ℕ) (bytes : List ℕ) (cell : ℕ × Bool) → first + length bytes ≤ length s → place < length bytes → byte ≡ get_or bytes place 0 → cell ≡ cell_of byte
    → set (with_bytes s first (take place bytes)) (first + place) cell ≡ with_bytes s first (take (place + 1) bytes)
one_written s first place byte bytes cell room within is cell_is =
    let before = take place bytes in
    let long : length before ≡ place = length-take-le place bytes (omega (arith, within)) in
    let front = take first s ++ map cell_of before in
    let front_long : length front ≡ first + place = length-append (take first s) (map cell_of before) ∙ ap (λ n. n + length (map cell_of before)) (length-take-le first s (omega (arith, room))) ∙ ap (λ n. first + n) (length-map before cell_of ∙ long) in
    let here : first + place < length s = omega (arith, room, within) in
    let old : drop (first + length before) s ≡ get_or s (first + place) (0, false) ∷ drop (first + place + 1) s = ap (λ n. drop (first + n) s) long ∙ drop_more s (first + place) (0, false) here in
    let put : set (front ++ (get_or s (first + place) (0, false) ∷ drop (first + place + 1) s)) (first + place) cell ≡ front ++ (cell ∷ drop (first + place + 1) s) =
    ap (λ n. set (front ++ (get_or s (first + place) (0, false) ∷ drop (first + place + 1) s)) n cell) (sym front_long) ∙ set-append_seam front (get_or s (first + place) (0, false)) (drop (first + place + 1) s) cell in
    let more : take (place + 1) bytes ≡ before ++ byte ∷ [] = take_more bytes place 0 within ∙ ap (λ b. before ++ b ∷ []) (sym is) in
    let after_long : first + length (before ++ byte ∷ []) ≡ first + place + 1 = ap (λ n. first + n) (length-append before (byte ∷ [])) ∙ omega (arith, long) in
    let after : with_bytes s first (before ++ byte ∷ []) ≡ front ++ (cell ∷ drop (first + place + 1) s) =
    ap (λ n. take first s ++ map cell_of (before ++ byte ∷ []) ++ drop n s) after_long
    ∙ ap (λ xs. take first s ++ xs ++ drop (first + place + 1) s) (map_push cell_of before byte)
    ∙ ap (λ c. take first s ++ (map cell_of before ++ c ∷ []) ++ drop (first + place + 1) s) (sym cell_is)
    ∙ seam (take first s) (map cell_of before) cell (drop (first + place + 1) s) in
    ap (λ xs. set (front ++ xs) (first + place) cell) old ∙ put ∙ sym after ∙ ap (with_bytes s first) (sym more)
  where
    seam : (xs ys : Storage) (c : ℕ × Bool) (zs : Storage) → xs ++ (ys ++ c ∷ []) ++ zs ≡ xs ++ ys ++ (c ∷ zs)
    seam [] [] c zs = refl
    seam [] (y ∷ ys) c zs = ap (λ rest. y ∷ rest) (seam [] ys c zs)
    seam (x ∷ xs) ys c zs = ap (λ rest. x ∷ rest) (seam xs ys c zs)

pub with_bytes_long : (s : Storage) (first : ℕ) (bytes : List ℕ) → first + length bytes ≤ length s → length (with_bytes s first bytes) ≡ length s
with_bytes_long s first bytes room =
    length-append (take first s ++ map cell_of bytes) (drop (first + length bytes) s)
    ∙ ap (λ n. n + length (drop (first + length bytes) s)) (length-append (take first s) (map cell_of bytes) ∙ ap (λ n. n + length (map cell_of bytes)) (length-take-le first s (omega (arith, room))) ∙ ap (λ n. first + n) (length-map bytes cell_of))
    ∙ ap (λ n. first + length bytes + n) (length-drop (first + length bytes) s) ∙ omega (arith, room)

-- bytes that fill a storage
pub all_written : (s : Storage) (bytes : List ℕ) → length bytes ≡ length s → with_bytes s 0 bytes ≡ map cell_of bytes
all_written s bytes long =
    let none : 0 + length bytes ≡ length bytes = omega arith in
    ap (λ n. map cell_of bytes ++ drop n s) none ∙ ap (λ rest. map cell_of bytes ++ rest) (drop_all (length bytes) s (omega (arith, long))) ∙ append-nil (map cell_of bytes)

pub filled_with : (u : Storage) (n : ℕ) (bytes : List ℕ) → u ≡ blank_storage n → n ≡ length bytes → with_bytes u 0 bytes ≡ map cell_of bytes
filled_with u n bytes blank many = all_written u bytes (sym many ∙ sym (ap (λ (x : Storage). length x) blank ∙ length-replicate n (0, false)))

-- cells that were looked at so far
pub cells_more : (bytes : List ℕ) (place byte : ℕ) → place < length bytes → byte ≡ get_or bytes place 0 → byte < 128 → AreCells (take place bytes) → AreCells (take (place + 1) bytes)
cells_more bytes place byte within is below all = All-more (λ b. b < 128) bytes place 0 within all (rw is at below)

-- ---- characters

cell_below : (byte : ℕ) → byte < 128 → (cell_of byte).0 < 64
cell_below byte below = elim (cases_Bool (nat_lt byte 64)) [
  | inl low ↦ rw low (let less : byte < 64 = grind (arith, nat_tests) in less)
  | inr high ↦ rw high (omega (arith, below))
]

cells_below : (bytes : List ℕ) → AllByRecursion (λ byte. byte < 128) bytes → AllByRecursion (λ cell. cell.0 < 64) (map cell_of bytes)
cells_below [] all = tt
cells_below (byte ∷ bytes) all = (cell_below byte all.0, cells_below bytes all.1)

pub are_characters : (bytes : List ℕ) → AreCells bytes → HoldsCharacters (map cell_of bytes)
are_characters bytes are = All-from_recursion (λ (cell : ℕ × Bool). cell.0 < 64) (map cell_of bytes) (cells_below bytes (recursion_from_All (λ byte. byte < 128) bytes are))

pub with_bytes_holds : (s : Storage) (first : ℕ) (bytes : List ℕ) → HoldsCharacters s → AreCells bytes → HoldsCharacters (with_bytes s first bytes)
with_bytes_holds s first bytes holds are =
    All-append (λ (cell : ℕ × Bool). cell.0 < 64) (take first s ++ map cell_of bytes) (drop (first + length bytes) s)
    (All-append (λ (cell : ℕ × Bool). cell.0 < 64) (take first s) (map cell_of bytes) (All-take (λ (cell : ℕ × Bool). cell.0 < 64) first s holds) (are_characters bytes are))
    (All-drop (λ (cell : ℕ × Bool). cell.0 < 64) (first + length bytes) s holds)

-- ---- what planes hold

joined_are : (codes marks : List ℕ) → length codes ≡ length marks → ((k d : ℕ) → k < length codes → get_or codes k d < 64) → (k : ℕ) (d : ℕ × Bool) → k < length (joined_planes codes marks) → (get_or (joined_planes codes marks) k d).0 < 64
joined_are [] marks even all k d less = absurd (omega (arith, less))
joined_are (code ∷ codes) [] even all k d less = absurd (omega (arith, even))
joined_are (code ∷ codes) (mark ∷ marks) even all zero d less = all 0 0 (omega arith)
joined_are (code ∷ codes) (mark ∷ marks) even all (suc k) d less = joined_are codes marks (omega (arith, even)) (λ j e below. all (suc j) e (omega (arith, below))) k d (omega (arith, less))

-- planes hold characters
pub characters_of : (core : PlaneCore) → HoldsCharacters (cells_of core)
characters_of core = joined_are core.codes.items core.marks.items core.even core.numbers
