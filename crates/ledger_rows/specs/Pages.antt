-- the rows of a storage's pages
use Rattle.std.specs.Prelude.{◌≡◌, ◌+◌, ◌-◌, ◌*◌, ◌/◌, ◌<◌, nat_lt, ℕ, Bool, true, false, All, List, ◌++◌, length, map, take, drop, fold, if◌then◌else◌, Some, None}
use Rattle.core_store.specs.Pages.{page_at, page_count, page_size}
use Rattle.core_store.specs.Storage.{Storage, blank_storage, positions_of}
use Rattle.core_store.specs.declared.sizes.Size.{Size}
use Rattle.ledger_tables.specs.Cells.{PageCells, Pages, unless_blank}
use Rattle.ledger_rows.specs.Columns.{storage_bytes, HoldsCharacters}

-- the bytes of a page
abbrev pub page_bytes : Storage → ℕ → List ℕ
page_bytes s k = storage_bytes (page_at s k)

-- the rows of all pages of a storage, as version 2 has them
abbrev pub all_rows_of : Storage → Pages
all_rows_of s k = if nat_lt k (page_count s) then Some (page_bytes s k) else None

-- the rows of a storage's pages: one that is all blank and has no mark has none
abbrev pub rows_of : Storage → Pages
rows_of s k = unless_blank (all_rows_of s k)

-- ---- storage from rows

-- the position of a byte below 128
abbrev pub cell_of : ℕ → ℕ × Bool
cell_of byte = if nat_lt byte 64 then (byte, false) else (byte - 64, true)

-- the storage with the positions of these bytes from the first on
abbrev pub with_bytes : Storage → ℕ → List ℕ → Storage
with_bytes s first bytes =
    take first s ++ map cell_of bytes ++ drop (first + length bytes) s

-- each byte is one of a position
abbrev pub AreCells : List ℕ → Type 0
AreCells bytes = All (λ byte. byte < 128) bytes

-- the storage with the page of this row
abbrev pub with_page : Storage → PageCells → Storage
with_page s row = with_bytes s (row.page * page_size) row.storage

-- the storage with the pages of these rows
abbrev pub with_pages : Storage → List PageCells → Storage
with_pages = fold with_page

-- the row is that of a page of a storage with so many pages
pub record IsPageOf (count : ℕ) (row : PageCells) : Type 0 where
  pub page : row.page < count
  pub size : length row.storage ≡ page_size
  pub cells : AreCells row.storage

-- the storage has so many positions, and is blank but for the pages of these rows, each of which is
-- that of a page; each position holds a character
pub record HasStorage (positions : ℕ) (pages : List PageCells) (s : Storage) : Type 0 where
  pub size : Size
  pub size_is : positions ≡ positions_of size
  pub length_is : length s ≡ positions
  pub rows : All (IsPageOf (positions / page_size)) pages
  pub storage : s ≡ with_pages (blank_storage positions) pages
  pub characters : HoldsCharacters s
