-- the contract of commands that are applied in turn, up to the first fault
use Rattle.std.specs.Prelude.{◌≡◌, ◌≢◌, ℕ, ◌+◌, List, take as beginning_of, Option, Some, None, IsTrue}
use Rattle.std.specs.List.{sum_by}
use Rattle.office.specs.Office.{Office, fold, IsLeft, limit_of}
use Rattle.office.specs.declared.commands.Command.{Command}
use Rattle.sqlite.specs.Held.{Held, state}
use Rattle.sqlite.specs.State.{HasCleanDisk}
use Rattle.sqlite.specs.Tree.{Trees}
use Rattle.sqlite_trees.specs.declared.store.Store.{Ghosts}
use Rattle.ledger_tables.specs.Schema.{bureau_schema}
use Rattle.ledger_tables.specs.declared.faults.Fault.{Fault}
use Rattle.ledger_tables.specs.declared.faults.Fault.TheVariants.{Store}
use Rattle.office_tables.specs.Standing.{Stands, LeftAs}
use Rattle.ledger.specs.Meters.{RisenWithin, attempted_by_all}
use Rattle.ledger.specs.WholeRows.{HaveWholeRows}
use Rattle.ledger.specs.declared.outcomes.Shift.{Shift}

-- the commands that were given: those that were acknowledged, and one more if it met a fault
abbrev pub given : List Command → ℕ → Option Fault → List Command
given commands acknowledged None = beginning_of acknowledged commands
given commands acknowledged (Some fault) = beginning_of (acknowledged + 1) commands

-- the most instructions that these commands may attempt together, whatever the office
abbrev pub limit_of_all : List Command → ℕ
limit_of_all = sum_by limit_of

-- a crash leaves tables of the office after a beginning of the commands that holds every
-- acknowledged one, and the rows of each of its jobs at a halt are whole
pub record LeavesWhole (db : Trees) (office : Office) (commands : List Command)
    (acknowledged : ℕ) : Type 0 where
  pub left : Office
  pub beginning : IsLeft office commands acknowledged left
  pub rows : LeftAs db left
  pub whole : HaveWholeRows (record { schema = bureau_schema; trees = db }) left

module _ {S : Type 0} (g : Ghosts S) (old new : Held S) (commands : List Command)
    (acknowledged : ℕ) (fault : Option Fault) where
  -- unless fault 2 came, the tables represent the office after the acknowledged commands, and the
  -- rows of each of its jobs at a halt are whole
  abbrev pub StandsAfter : Type 0
  StandsAfter = HasCleanDisk (state g new) → fault ≢ Some Store → (office : Office)
      → Stands (state g old) office →
      let next : Office = (fold (beginning_of acknowledged commands) office).0 in
      Stands (state g new) next
      × (IsTrue (state g new).is_open → HaveWholeRows (state g new).now next)

  -- whatever a crash leaves is of the office after a beginning of the given commands that holds
  -- every acknowledged one
  abbrev pub LeavesBeginning : Type 0
  LeavesBeginning = HasCleanDisk (state g new) → (office : Office) → Stands (state g old) office
      → (db : Trees) → (state g new).may_leave db
      → LeavesWhole db office (given commands acknowledged fault) acknowledged

  -- the meter has risen by the instructions that the acknowledged commands attempt, and by at most
  -- those of the command that met a fault
  abbrev pub TicksWithin : ℕ → ℕ → Type 0
  TicksWithin meter risen_meter = HasCleanDisk (state g new) → (office : Office)
      → Stands (state g old) office
      → RisenWithin (attempted_by_all (beginning_of acknowledged commands) office)
      (attempted_by_all (given commands acknowledged fault) office) meter risen_meter

module _ {S : Type 0} (g : Ghosts S) (old new : Held S) (commands : List Command)
    (shift : Shift) where
  -- if the tables represented an office, the replies are that office's to the acknowledged commands
  abbrev pub Acknowledges : Type 0
  Acknowledges = HasCleanDisk (state g new) → (office : Office) → Stands (state g old) office
      → shift.replies.items ≡ (fold (beginning_of shift.acknowledged commands) office).1
