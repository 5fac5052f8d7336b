-- work on a bureau: the commands that were carried out, what was replied, and what is left of it
use Rattle.std.specs.Prelude.{◌≡◌, ◌⊎◌, ◌+◌, ℕ, Bool, List, Option, Some, None, length, take as beginning_of, IsTrue}
use Rattle.office.specs.Office.{Office, fold}
use Rattle.office.specs.declared.commands.Command.{Command}
use Rattle.office.specs.declared.replies.Reply.{Reply}
use Rattle.sqlite.specs.Held.{Held, state}
use Rattle.sqlite.specs.State.{HasCleanDisk}
use Rattle.sqlite.specs.Tree.{Trees}
use Rattle.sqlite_trees.specs.declared.store.Store.{Ghosts}
use Rattle.ledger_tables.specs.declared.faults.Fault.{Fault}
use Rattle.ledger_tables.specs.declared.faults.Fault.TheVariants.{NoMemory, Store}
use Rattle.ledger.specs.Shifting.{LeavesWhole}
use Rattle.office_tables.specs.Standing.{Stands}

-- the commands of a list that were carried out: those that were acknowledged, and the one that met
-- fault 2, of which nobody knows whether it is kept; one that met fault 1 changed nothing
abbrev pub carried_out : List Command → ℕ → Option Fault → List Command
carried_out commands acknowledged None = beginning_of acknowledged commands
carried_out commands acknowledged (Some NoMemory) = beginning_of acknowledged commands
carried_out commands acknowledged (Some Store) = beginning_of (acknowledged + 1) commands

module _ {S : Type 0} (g : Ghosts S) (old new : Held S) (commands : List Command) where
  -- whatever a crash leaves is of the office after a beginning of the commands that holds every
  -- acknowledged one, and the rows of each of its jobs at a halt are whole
  abbrev pub Leads : ℕ → Type 0
  Leads acknowledged = HasCleanDisk (state g new) → (office : Office)
      → Stands (state g old) office → (db : Trees) → (state g new).may_leave db
      → LeavesWhole db office commands acknowledged

  -- the tables represent the office after the commands
  abbrev pub Continues : Type 0
  Continues = HasCleanDisk (state g new) → (office : Office) → Stands (state g old) office
      → Stands (state g new) (fold commands office).0

  -- all of the commands were acknowledged, and the tables represent the office after them; or all
  -- but the last, which met fault 2, and the bureau is broken
  abbrev pub IsEndOf : Bool → ℕ → Type 0
  IsEndOf is_broken acknowledged =
      ((acknowledged ≡ length commands) × Continues)
      ⊎ (IsTrue is_broken × (length commands ≡ acknowledged + 1))

  -- the commands were carried out, and so many of them acknowledged
  pub record Works (is_broken : Bool) (acknowledged : ℕ) : Type 0 where
    pub leads : Leads acknowledged
    pub ends : IsEndOf is_broken acknowledged

  -- if the tables represented an office, these are its replies to the first of the commands
  abbrev pub AreRepliesTo : List Reply → Type 0
  AreRepliesTo replies = HasCleanDisk (state g new) → (office : Office)
      → Stands (state g old) office
      → replies ≡ (fold (beginning_of (length replies) commands) office).1

-- commands were carried out and replied to, of which this holds
pub record HasWorked {S : Type 0} (g : Ghosts S) (old new : Held S) (is_broken : Bool)
    (Tells : List Command → List Reply → Type 0) : Type 0 where
  pub commands : List Command
  pub replies : List Reply
  pub told : Tells commands replies
  pub works : Works g old new commands is_broken (length replies)
  pub are : AreRepliesTo g old new commands replies
