-- the program that a source is assembled to
use Rattle.std.specs.Prelude.{ℕ, List}
use Rattle.core_store.specs.declared.sizes.Size.{Size}
use Rattle.autocoder_layout.specs.declared.cells.Cell.{Cell}
use Rattle.autocoder_layout.specs.declared.slots.Slot.{Slot}
use Rattle.autocoder_layout.specs.Source.{Line}
use Rattle.autocoder_layout.specs.Literals.{Characters}

-- a program: its machine's size, the filled positions, its start, the number of its END card, what
-- its cards say and their slots, and its literals in the order of their places
pub record Assembly : Type 0 where
  pub size : Size
  pub image : List Cell
  pub start : ℕ
  pub last : ℕ
  pub lines : List Line
  pub slots : List Slot
  pub literals : List Characters
