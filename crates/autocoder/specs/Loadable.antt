-- what holds of each assembled program
use Rattle.std.specs.Prelude.{ℕ, ◌<◌, ◌≤◌, List, length}
use Rattle.std.specs.List.{All, AllAdjacentBelow}
use Rattle.core_store.specs.Storage.{positions_of}
use Rattle.autocoder_layout.specs.declared.cells.Cell.{Cell}
use Rattle.autocoder_layout.specs.Judging.{first_free}
use Rattle.autocoder.specs.Assembly.{Assembly}

-- positions that cards can load: none is among those that a card is read into, and all are in
-- storage, as is the start
pub record IsLoadable (size : ℕ) (image : List Cell) (entry : ℕ) : Type 0 where
  pub free : All (λ c. first_free ≤ c.position) image
  pub inside : All (λ c. c.position < size) image
  pub start : entry < size

-- the cells are in rising order of their positions, and no position is in two of them
abbrev pub IsRising : List Cell → Type 0
IsRising image = AllAdjacentBelow (λ c d. c.position < d.position) image (length image)

-- cards can load the program into a machine of the program's own size
abbrev pub CanBeLoaded : Assembly → Type 0
CanBeLoaded program = IsLoadable (positions_of program.size) program.image program.start
