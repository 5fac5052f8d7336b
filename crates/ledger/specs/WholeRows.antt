-- the rows of a job at a halt
use Rattle.std.specs.Prelude.{◌≡◌, ℕ, List, map, filter}
use Rattle.std.specs.List.{AllByRecursion}
use Rattle.std.specs.Option.{option_to_list}
use Rattle.machine.specs.Run.{State}
use Rattle.units.specs.declared.printer.Line.{Line}
use Rattle.units.specs.declared.punch.Punched.{Punched}
use Rattle.units.specs.declared.switches.Switches.{Switches}
use Rattle.office.specs.Jobs.{deck_begun, switches_of, IsAtHalt, CanRunItsSource, program_begun}
use Rattle.office.specs.Office.{Entry, Office}
use Rattle.office.specs.Whole.{Whole}
use Rattle.ledger_rows.specs.Columns.{line_cells}
use Rattle.ledger_rows.specs.Pockets.{pocket_rows_of, punched_bytes}
use Rattle.sqlite.specs.Effect.{Database}
use Rattle.ledger_tables.specs.Tables.{cells, is_row_at, is_row_of, placed, card_row, line_row, pocket_row}

-- the job's rows in the tables of cards, of pockets and of lines are these cards, in their pockets,
-- and lines, with places from 1 on
pub record HasMade (db : Database) (customer : List ℕ) (number : ℕ) (cards : List Punched)
    (lines : List Line) : Type 0 where
  pub card_rows : filter (is_row_of customer number) (cells (db.trees 7))
      ≡ placed (card_row customer number) 1 (map punched_bytes cards)
  pub pocket_rows : (place : ℕ) → filter (is_row_at customer number place) (cells (db.trees 17))
      ≡ map (pocket_row customer number place) (option_to_list (pocket_rows_of cards place))
  pub line_rows : filter (is_row_of customer number) (cells (db.trees 9))
      ≡ placed (line_row customer number) 1 (map line_cells lines)

-- the whole run from this beginning with these starts makes these cards and lines, and no others
pub record RunMakes (begin : Switches → State) (starts : List Switches) (cards : List Punched)
    (lines : List Line) : Type 0 where
  pub holds : Whole begin starts cards lines
  pub only : (others : List Punched) (other_lines : List Line)
      → Whole begin starts others other_lines → (others ≡ cards) × (other_lines ≡ lines)

-- the job's rows are the cards and lines that the whole run of its deck with its starts makes, and
-- if it can run its source, those of the whole run of its source too
pub record HasWholeRows (db : Database) (e : Entry) : Type 0 where
  pub cards : List Punched
  pub lines : List Line
  pub rows : HasMade db e.customer e.number cards lines
  pub from_deck : RunMakes (deck_begun e.job) (switches_of e.job) cards lines
  pub from_source : CanRunItsSource e.job → RunMakes
      (program_begun e.job.deck e.job.size e.job.profile) (switches_of e.job) cards lines

-- the rows of each job of the office that is at a halt are whole
abbrev pub HaveWholeRows : Database → Office → Type 0
HaveWholeRows db = AllByRecursion (λ e. IsAtHalt e.job → HasWholeRows db e)
