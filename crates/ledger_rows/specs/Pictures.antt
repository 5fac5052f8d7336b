-- a machine as the tables keep it
use Rattle.std.specs.Prelude.{◌≡◌, ℕ, List, length}
use Rattle.machine.specs.Run.{State}
use Rattle.ledger_rows.specs.declared.parts.Media.{Media}
use Rattle.ledger_rows.specs.Columns.{state_row}
use Rattle.ledger_rows.specs.Pages.{rows_of}
use Rattle.ledger_tables.specs.Cells.{PageCells}
use Rattle.ledger_tables.specs.Named.{ArePages}
use Rattle.ledger_tables.specs.declared.rows.StateRow.{StateRow}

-- the state row and the media are this machine's: its deck, switches, punch and lines
pub record HasState (row : StateRow) (media : Media) (m : State) : Type 0 where
  pub row_is : row ≡ state_row m
  pub deck : media.deck ≡ m.works.units.hopper.deck
  pub switches : media.switches ≡ m.works.units.switches
  pub punch : media.punch ≡ m.works.units.punch
  pub lines : media.lines.items ≡ m.works.units.printer.lines

-- the number of positions, the state row, the rows of pages and the media are this machine's
pub record IsPictured (size : ℕ) (row : StateRow) (pages : List PageCells) (media : Media)
    (m : State) : Type 0 where
  pub size_is : size ≡ length m.works.storage
  pub state : HasState row media m
  pub pages_are : ArePages pages (rows_of m.works.storage)
