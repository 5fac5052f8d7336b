-- the one layout of a source
use Rattle.std.specs.Prelude.{ℕ, ◌≡◌, ◌+◌, ◌<◌, List, [], ◌∷◌, ◌++◌, length, take, drop, map, Option, None, slice_index_or}
use Rattle.std.specs.List.{flat_map}
use Rattle.core_store.specs.Storage.{positions_of}
use Rattle.autocoder_layout.specs.Source.{Line, Source, silent}
use Rattle.autocoder_layout.specs.Slots.{origin, slot_of, slots_from}
use Rattle.autocoder_layout.specs.Literals.{Characters, literals_of}
use Rattle.autocoder_layout.specs.Cells.{cells_of}
use Rattle.autocoder_layout.specs.Judging.{fault_of}
use Rattle.autocoder_layout.specs.declared.cells.Cell.{Cell}
use Rattle.autocoder_layout.specs.declared.faults.SourceFault.{SourceFault}
use Rattle.autocoder_layout.specs.declared.slots.Slot.{Slot}

-- ---- the relation

-- what a layout has for a card: its slot, the cells that it fills and its lowest fault
pub record Laid : Type 0 where
  pub slot : Slot
  pub fills : List Cell
  pub fault : Option SourceFault

-- the slots of all cards of a layout
abbrev pub slots_of : List Laid → List Slot
slots_of layout = map (λ laid. laid.slot) layout

-- the cells that all cards of a layout fill
abbrev pub fills_of : List Laid → List Cell
fills_of layout = flat_map (λ laid. laid.fills) layout

-- a card's slot, cells and fault are right by the rules, given the cards before and after it in the
-- layout, all names and the literals
pub record Satisfies (size : ℕ) (literals : List Characters) (layout earlier later : List Laid)
    (line : Line) (laid : Laid) : Type 0 where
  pub slot : laid.slot ≡ slot_of size (slots_of earlier) line
  pub fills : laid.fills ≡ cells_of size (slots_of layout) literals (slots_of later) laid.slot line
  pub fault : laid.fault
      ≡ fault_of size (slots_of layout) (fills_of earlier) laid.slot laid.fills line

-- the entry of a layout for no card, with no cells and no fault
abbrev pub nothing : Laid
nothing = record { slot = origin; fills = []; fault = None }

-- a layout of these lines: each card's entry is right by the rules, with names and literals of the
-- same layout
pub record IsLayout (size : ℕ) (lines : List Line) (layout : List Laid) : Type 0 where
  pub one_each : length layout ≡ length lines
  pub satisfied : (k : ℕ) → k < length lines →
      Satisfies size (literals_of lines (slots_of layout)) layout (take k layout)
      (drop (k + 1) layout) (slice_index_or lines k silent) (slice_index_or layout k nothing)

-- ---- the layout as a function

-- the entry of a layout for a card with this slot, where the earlier cards fill these cells
abbrev pub laid_by : ℕ → List Slot → List Characters → List Cell → List Slot → Slot → Line → Laid
laid_by size slots literals filled later slot line = record {
  slot = slot;
  fills = cells_of size slots literals later slot line;
  fault = fault_of size slots filled slot (cells_of size slots literals later slot line) line;
}

-- the entries of a layout for the cards with these slots, where the earlier cards fill these cells
unfoldable pub laid_from : ℕ → List Slot → List Characters → List Cell → List Slot →
    List Line → List Laid
laid_from size slots literals filled here [] = []
laid_from size slots literals filled [] (line ∷ lines) = []
laid_from size slots literals filled (slot ∷ later) (line ∷ lines) =
    laid_by size slots literals filled later slot line
    ∷ laid_from size slots literals
    (filled ++ cells_of size slots literals later slot line) later lines

-- the layout of these lines with these slots
abbrev pub laid_with : ℕ → List Slot → List Line → List Laid
laid_with size slots lines = laid_from size slots (literals_of lines slots) [] slots lines

-- the one layout of these lines
unfoldable pub layout_of : ℕ → List Line → List Laid
layout_of size lines = laid_with size (slots_from size [] lines) lines

-- ---- the layout as a value

-- a source, the slot of each of its cards, and its literals in the order of their places
pub record Layout : Type 0 where
  pub source : Source
  pub slots : List Slot
  pub literals : List Characters

-- a source with the slots and literals of its one layout
abbrev pub laid_out : Source → Layout
laid_out source = record {
  source = source;
  slots = slots_from (positions_of source.size) [] source.lines;
  literals = literals_of source.lines (slots_from (positions_of source.size) [] source.lines);
}

-- the one layout of a source
abbrev pub layout_in : Source → List Laid
layout_in source = layout_of (positions_of source.size) source.lines
