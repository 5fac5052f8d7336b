-- the changes of a film: what differs between two frames, and a frame on which changes are played
use Rattle.std.specs.Prelude.{ℕ, zero, suc, ◌==◌, ◌&&◌, not, Bool, if◌then◌else◌, List, [], ◌∷◌, ◌++◌, length, map, drop, fold, slice_index_or, slice_set}
use Rattle.core_store.specs.Storage.{Storage, blank_cell}
use Rattle.machine.specs.Run.{State, lines_of}
use Rattle.films.specs.Frames.{CardShown, Frame, LineShown, card_shown, cards_of, line_shown, numbers_of}

-- one thing that changes: the number at this place is this one now; this position has this
-- character now, with a mark or without one; this line was printed; this card was punched
pub data Item : Type 0 where
  number_is : ℕ → ℕ → Item
  cell_is : ℕ → ℕ × Bool → Item
  printed : LineShown → Item
  punched : CardShown → Item

-- of the first so many places of two lists those at which they are not the same, each with what the
-- second one has there; the other value stands past the end of a list
unfoldable pub differences : {A : Type 0} → (A → A → Bool) → A → List A → List A → ℕ → List (ℕ × A)
differences same other old new zero = []
differences same other old new (suc count) = differences same other old new count
    ++ (if same (slice_index_or old count other) (slice_index_or new count other) then []
    else (count, slice_index_or new count other) ∷ [])

-- whether two positions have the same character and both a mark or none
abbrev pub is_same_cell : ℕ × Bool → ℕ × Bool → Bool
is_same_cell old new = old.0 == new.0 && (if old.1 then new.1 else not new.1)

-- the numbers that differ
abbrev pub number_items : List ℕ → List ℕ → List Item
number_items old new =
    map (λ d. number_is d.0 d.1) (differences ◌==◌ 0 old new (length new))

-- the positions that differ
abbrev pub cell_items : List (ℕ × Bool) → List (ℕ × Bool) → List Item
cell_items old new =
    map (λ d. cell_is d.0 d.1) (differences is_same_cell blank_cell old new (length new))

-- the items of a machine after these numbers, so many lines, so many cards and this storage
abbrev pub items_since : List ℕ → ℕ → ℕ → Storage → State → List Item
items_since numbers lines cards storage m = number_items numbers (numbers_of m)
    ++ map (λ l. printed (line_shown l)) (drop lines (lines_of m))
    ++ map (λ c. punched (card_shown c)) (drop cards (cards_of m))
    ++ cell_items storage m.works.storage

-- the change from a frame to one that comes behind it: the numbers that differ, the lines and cards
-- made since, and the positions that differ
unfoldable pub change : Frame → Frame → List Item
change old new = number_items old.numbers new.numbers
    ++ map printed (drop (length old.paper) new.paper)
    ++ map punched (drop (length old.punched) new.punched)
    ++ cell_items old.storage new.storage

-- a frame on which one item is played
abbrev pub with_item : Frame → Item → Frame
with_item f (number_is place value) =
    record f { numbers = slice_set f.numbers place value }
with_item f (cell_is position cell) =
    record f { storage = slice_set f.storage position cell }
with_item f (printed line) = record f { paper = f.paper ++ line ∷ [] }
with_item f (punched card) = record f { punched = f.punched ++ card ∷ [] }

-- a frame on which items are played, one after the other
abbrev pub played : Frame → List Item → Frame
played f items = fold with_item f items

-- a frame on which changes are played, one after the other
abbrev pub all_played : Frame → List (List Item) → Frame
all_played f changes = fold played f changes
