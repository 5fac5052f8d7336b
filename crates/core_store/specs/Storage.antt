-- storage as a list of cells, position 0 first: a character and whether it has a word mark
use Rattle.std.specs.Prelude.{[], ◌∷◌, ℕ, zero, suc, ◌≡◌, ◌==◌, ◌+◌, ◌-◌, ◌<◌, ◌≤◌, List, Bool, true, false, if◌then◌else◌, Option, Some, None, slice_index_or, slice_set, slice_range, map, replicate, MatchOption}
use Rattle.std.specs.Option.{option_map}
use Rattle.core_store.specs.declared.sizes.Size.{Size}
use Rattle.core_store.specs.declared.sizes.Size.TheVariants.{Positions1400, Positions2000, Positions4000, Positions8000, Positions12000, Positions16000}

-- the number of positions that an address can name
abbrev pub largest_size : ℕ
largest_size = 16000

-- a position's contents: the number of its character, and whether it has a word mark
abbrev pub Cell : Type 0
Cell = ℕ × Bool

-- a storage: the contents of its positions, from position 0 on
abbrev pub Storage : Type 0
Storage = List (ℕ × Bool)

-- how many positions a storage of this size has
abbrev pub positions_of : Size → ℕ
positions_of Positions1400 = 1400
positions_of Positions2000 = 2000
positions_of Positions4000 = 4000
positions_of Positions8000 = 8000
positions_of Positions12000 = 12000
positions_of Positions16000 = 16000

-- the size of storage with so many positions, or none
abbrev pub size_numbered : ℕ → Option Size
size_numbered size =
    if size == 1400 then Some Positions1400 else
    if size == 2000 then Some Positions2000 else
    if size == 4000 then Some Positions4000 else
    if size == 8000 then Some Positions8000 else
    if size == 12000 then Some Positions12000 else
    if size == 16000 then Some Positions16000 else
    None

-- a blank without a word mark
abbrev pub blank_cell : ℕ × Bool
blank_cell = (0, false)

-- a storage of so many blanks without word marks
abbrev pub blank_storage : ℕ → Storage
blank_storage size = replicate size (0, false)

-- the contents of a position; past the end a blank without a word mark
abbrev pub cell_at : Storage → ℕ → ℕ × Bool
cell_at s p = slice_index_or s p (0, false)

-- the number of the character at a position
abbrev pub code_at : Storage → ℕ → ℕ
code_at s p = (slice_index_or s p (0, false)).0

-- whether a position has a word mark
abbrev pub is_marked : Storage → ℕ → Bool
is_marked s p = (slice_index_or s p (0, false)).1

-- the storage with another character at a position, whose word mark stays
abbrev pub put : Storage → ℕ → ℕ → Storage
put s p code = slice_set s p (code, is_marked s p)

-- the storage with or without a word mark at a position, whose character stays
abbrev pub with_mark : Storage → ℕ → Bool → Storage
with_mark s p marked = slice_set s p (code_at s p, marked)

-- the nearest position at or below p with a word mark, if there is one
unfoldable pub greatest_mark : Storage → ℕ → Option ℕ
greatest_mark s zero = if is_marked s 0 then Some 0 else None
greatest_mark s (suc p) = if is_marked s (suc p) then Some (suc p) else greatest_mark s p

-- the first of the count positions from p on with a word mark, if there is one
unfoldable pub least_mark : Storage → ℕ → ℕ → Option ℕ
least_mark s p zero = None
least_mark s p (suc count) = if is_marked s p then Some p else least_mark s (p + 1) count

-- the characters of the count positions from the first on
unfoldable pub codes_from : Storage → ℕ → ℕ → List ℕ
codes_from s first count = map (λ cell. cell.0) (slice_range s first (first + count))

-- the word marks of the count positions from the first on
unfoldable pub marks_from : Storage → ℕ → ℕ → List Bool
marks_from s first count = map (λ cell. cell.1) (slice_range s first (first + count))

-- the characters of the count positions up to p
unfoldable pub codes_ending : Storage → ℕ → ℕ → List ℕ
codes_ending s p count = map (λ cell. cell.0) (slice_range s (p + 1 - count) (p + 1))

-- the contents of the count positions up to p
unfoldable pub cells_ending : Storage → ℕ → ℕ → Storage
cells_ending s p count = slice_range s (p + 1 - count) (p + 1)

-- how many characters the field at p has, if there is one: from the nearest word mark at or below p
-- up to p
unfoldable pub field_length : Storage → ℕ → Option ℕ
field_length s p = option_map (λ first. p + 1 - first) (greatest_mark s p)

-- the characters of the field at p, if there is one: from the nearest word mark at or below p up to
-- p
unfoldable pub field : Storage → ℕ → Option (List ℕ)
field s p = option_map (codes_ending s p) (field_length s p)

-- the storage with other characters from a position on; word marks stay
unfoldable pub put_codes : Storage → ℕ → List ℕ → Storage
put_codes s first [] = s
put_codes s first (code ∷ codes) = put (put_codes s (first + 1) codes) first code

-- the storage with other characters and word marks from a position on
unfoldable pub put_cells : Storage → ℕ → Storage → Storage
put_cells s first [] = s
put_cells s first (cell ∷ cells) = slice_set (put_cells s (first + 1) cells) first cell

-- q is the nearest position at or below p with a word mark
pub record IsGreatestMark (s : Storage) (p q : ℕ) : Type 0 where
  pub marked : is_marked s q ≡ true
  pub not_above : q ≤ p
  pub none_between : (k : ℕ) → q < k → k ≤ p → is_marked s k ≡ false

-- the nearest position at or below p with a word mark, or none if none has one
abbrev pub GreatestMark : Storage → ℕ → Option ℕ → Type 0
GreatestMark s p found =
    MatchOption found ((k : ℕ) → k ≤ p → is_marked s k ≡ false) (IsGreatestMark s p)

-- q is the first of the count positions from p on with a word mark
pub record IsLeastMark (s : Storage) (p count q : ℕ) : Type 0 where
  pub marked : is_marked s q ≡ true
  pub not_below : p ≤ q
  pub among : q < p + count
  pub none_before : (k : ℕ) → p ≤ k → k < q → is_marked s k ≡ false

-- the first of the count positions from p on with a word mark, or none if none has one
abbrev pub LeastMark : Storage → ℕ → ℕ → Option ℕ → Type 0
LeastMark s p count found =
    MatchOption found ((k : ℕ) → p ≤ k → k < p + count → is_marked s k ≡ false)
    (IsLeastMark s p count)
