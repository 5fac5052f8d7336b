-- the contract of a whole command
use Rattle.std.specs.Prelude.{◌≡◌, ◌⊎◌, ℕ, [], Result, IfOk, OnOk, OnErr, IsErrOf}
use Rattle.machine.specs.Run.{risen}
use Rattle.sqlite.specs.Held.{Held, state}
use Rattle.sqlite.specs.State.{HasCleanDisk, KeepsCommit, Fails, store_error}
use Rattle.sqlite.specs.Tree.{Trees}
use Rattle.sqlite_trees.specs.declared.error.StoreError.TheVariants.{OutOfMemory}
use Rattle.sqlite_trees.specs.declared.store.Store.{Ghosts}
use Rattle.ledger_tables.specs.Schema.{no_schema}
use Rattle.ledger_tables.specs.declared.faults.Fault.{Fault}
use Rattle.ledger_tables.specs.declared.faults.Fault.TheVariants.{NoMemory, Store}
use Rattle.ledger_tables.specs.Steps.{HasFailed}
use Rattle.office.specs.Meters.{RisenAtMost}
use Rattle.office.specs.Office.{Office}
use Rattle.office.specs.declared.replies.Reply.{Reply}
use Rattle.office_tables.specs.Standing.{Stands, LeftAs}

module _ {S : Type 0} (g : Ghosts S) (old new : Held S) where
  -- on Ok, if the tables represented an office, they represent the office after the change, and the
  -- reply is the change's
  abbrev pub Replies : Result Reply Fault → (Office → Office × Reply) → Type 0
  Replies result change = HasCleanDisk (state g new)
      → IfOk result (λ reply. (office : Office) → Stands (state g old) office
      → (reply ≡ (change office).1) × Stands (state g new) (change office).0)

  -- on Ok, if the tables represented an office, the meter has risen by this many ticks
  abbrev pub Rises : Result Reply Fault → ℕ → ℕ → (Office → ℕ) → Type 0
  Rises result meter risen_meter often = HasCleanDisk (state g new)
      → OnOk result ((office : Office) → Stands (state g old) office
      → risen_meter ≡ risen meter (often office))

  -- on a fault, if the tables represented an office, the meter has risen by this many ticks at most
  abbrev pub RisesAtMost : Result Reply Fault → ℕ → ℕ → (Office → ℕ) → Type 0
  RisesAtMost result meter risen_meter often = HasCleanDisk (state g new)
      → OnErr result ((office : Office) → Stands (state g old) office
      → RisenAtMost (often office) meter risen_meter)

  -- after a fault for want of memory, the tables represent the same office as before
  abbrev pub KeepsOffice : Result Reply Fault → Type 0
  KeepsOffice result = HasCleanDisk (state g new) → IsErrOf result NoMemory → (office : Office)
      → Stands (state g old) office → Stands (state g new) office

  -- nothing was committed and all is undone, as by a commit that failed for want of memory: a state
  -- shows no more of that
  abbrev pub LacksRoom : Type 0
  LacksRoom = (last : Held S) × KeepsCommit (state g old) (state g last)
      × Fails (state g last) (state g new) ⊥ (store_error OutOfMemory)

  -- if the tables represented an office that meets the premise, fault 2 came only where the
  -- database failed, or where all is undone as by a commit that failed for want of memory
  abbrev pub FailsToRead : Result Reply Fault → (Office → Type 0) → Type 0
  FailsToRead result Premise = HasCleanDisk (state g new) → IsErrOf result Store
      → (office : Office) → Stands (state g old) office → Premise office
      → HasFailed (state g old) (state g new) ⊎ LacksRoom

  -- a crash leaves tables that represent the office before the command or the one after it
  abbrev pub LeavesEither : (Office → Office × Reply) → Type 0
  LeavesEither change = HasCleanDisk (state g new) → (office : Office) → Stands (state g old) office
      → (db : Trees) → (state g new).may_leave db → LeftAs db office ⊎ LeftAs db (change office).0

  -- on Ok, if there were no tables before, the tables now represent an office without jobs
  abbrev pub MakesOffice : {X : Type 0} → Result X Fault → Type 0
  MakesOffice result = HasCleanDisk (state g new)
      → OnOk result ((state g old).now.schema ≡ no_schema → Stands (state g new) [])

  -- if there were no tables before, a crash leaves what it might have left before, or tables that
  -- represent an office without jobs
  abbrev pub LeavesNone : Type 0
  LeavesNone = HasCleanDisk (state g new) → (state g old).now.schema ≡ no_schema
      → (db : Trees) → (state g new).may_leave db → (state g old).may_leave db ⊎ LeftAs db []
