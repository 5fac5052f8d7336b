-- the image of a layout: its filled positions in rising order
use Rattle.std.specs.Prelude.{ℕ, zero, suc, ◌+◌, nat_eq, if◌then◌else◌, List, [], ◌∷◌, Option, Some, None}
use Rattle.autocoder_layout.specs.Layout.{Laid, fills_of}
use Rattle.autocoder_layout.specs.declared.cells.Cell.{Cell}

-- the cell if it fills the position, else what the others have for the position
abbrev pub cell_or : Cell → ℕ → Option Cell → Option Cell
cell_or c position rest = if nat_eq c.position position then Some c else rest

-- the first of these cells that fills the position
unfoldable pub cell_at : List Cell → ℕ → Option Cell
cell_at [] position = None
cell_at (c ∷ filled) position = cell_or c position (cell_at filled position)

-- a list of cells with one more in front, if there is one
abbrev pub cons_some : Option Cell → List Cell → List Cell
cons_some (Some c) rest = c ∷ rest
cons_some None rest = rest

-- the cells that fill so many positions from the first on, in rising order
unfoldable pub cells_from : List Cell → ℕ → ℕ → List Cell
cells_from filled first zero = []
cells_from filled first (suc count) =
    cons_some (cell_at filled first) (cells_from filled (first + 1) count)

-- the image of a layout: the filled positions of a storage of this size, in rising order
unfoldable pub image_of : ℕ → List Laid → List Cell
image_of size layout = cells_from (fills_of layout) 0 size
