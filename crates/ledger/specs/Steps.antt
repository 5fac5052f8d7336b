-- the contracts of the steps of a command, each within one transaction
use Rattle.std.specs.Prelude.{◌≡◌, ℕ, None, Some, IsTrue, Result, IfOk, OnOk, OnErr, IsErrOf, ⊤}
use Rattle.machine.specs.Run.{risen}
use Rattle.sqlite_trees.specs.declared.store.Store.{Ghosts}
use Rattle.ledger_tables.specs.declared.faults.Fault.{Fault}
use Rattle.ledger_tables.specs.declared.faults.Fault.TheVariants.{Store}
use Rattle.texts.specs.declared.names.JobName.{JobName}
use Rattle.ledger_tables.specs.declared.open_tables.OpenTables.{OpenTables}
use Rattle.ledger_tables.specs.Steps.{HasFailed, Inside}
use Rattle.office.specs.Jobs.{Job}
use Rattle.office.specs.Meters.{RisenAtMost}
use Rattle.office.specs.Office.{Office}
use Rattle.office.specs.declared.replies.Reply.{Reply}
use Rattle.ledger.specs.Saving.{job_in}
use Rattle.office_tables.specs.Standing.{StandsIn, Served}

module _ {S : Type 0} (g : Ghosts S) where
  -- on Ok, if the tables represented an office, they represent the same one, and what was read is
  -- that office's
  abbrev pub FindsIn : {X : Type 0} → OpenTables S → OpenTables S → Result X Fault
      → (Office → X → Type 0) → Type 0
  FindsIn old new result Is =
      Inside g old new (λ before after. IfOk result (λ found. (office : Office)
      → StandsIn before office → StandsIn after office × Is office found))

  -- if the tables represent an office that meets the premise, as long as they are open, fault 2
  -- comes only where the database failed
  abbrev pub FailsWhere : {X : Type 0} → OpenTables S → OpenTables S → Result X Fault
      → (Office → Type 0) → Type 0
  FailsWhere old new result Premise =
      Inside g old new (λ before after. IsErrOf result Store → (office : Office)
      → (IsTrue before.is_open → StandsIn before office) → Premise office
      → HasFailed before after)

  -- the same of each office
  abbrev pub FailsAlone : {X : Type 0} → OpenTables S → OpenTables S → Result X Fault → Type 0
  FailsAlone old new result = FailsWhere old new result (λ office. ⊤)

  -- the same of an office with this job
  abbrev pub FailsWith : {X : Type 0} → OpenTables S → OpenTables S → Result X Fault → JobName
      → Job → Type 0
  FailsWith old new result name job =
      FailsWhere old new result (λ office. job_in name office ≡ Some job)

  -- the same of an office without a job of this name
  abbrev pub FindsNoJob : {X : Type 0} → OpenTables S → OpenTables S → Result X Fault → JobName
      → Type 0
  FindsNoJob old new result name =
      FailsWhere old new result (λ office. job_in name office ≡ None)

  -- on Ok, if the tables represented an office that meets the premise, they represent the office
  -- after the change
  abbrev pub Saves : {X : Type 0} → OpenTables S → OpenTables S → Result X Fault
      → (Office → Type 0) → (Office → Office) → Type 0
  Saves old new result Premise change =
      Inside g old new (λ before after. OnOk result ((office : Office) → StandsIn before office
      → Premise office → StandsIn after (change office)))

  -- on Ok, if the tables represented an office that meets the premise, they represent the office
  -- after the change, and the reply is the change's
  abbrev pub ServesWhere : OpenTables S → OpenTables S → Result Reply Fault → (Office → Type 0)
      → (Office → Office × Reply) → Type 0
  ServesWhere old new result Premise change =
      Inside g old new (λ before after. IfOk result (λ reply. (office : Office) → Premise office
      → StandsIn before office → Served after change office reply))

  -- on Ok, if the tables represented an office, they represent the office after the change, and the
  -- reply is the change's
  abbrev pub Serves : OpenTables S → OpenTables S → Result Reply Fault
      → (Office → Office × Reply) → Type 0
  Serves old new result change =
      Inside g old new (λ before after. IfOk result (λ reply. (office : Office)
      → StandsIn before office → Served after change office reply))

  -- on Ok, if the tables represented an office, the meter has risen by this many ticks
  abbrev pub Ticks : OpenTables S → OpenTables S → Result Reply Fault → ℕ → ℕ → (Office → ℕ)
      → Type 0
  Ticks old new result meter risen_meter often =
      Inside g old new (λ before after. OnOk result ((office : Office) → StandsIn before office
      → risen_meter ≡ risen meter (often office)))

  -- on a fault, if the tables represent an office as long as they are open, the meter has risen by
  -- this many ticks at most
  abbrev pub TicksAtMost : OpenTables S → OpenTables S → Result Reply Fault → ℕ → ℕ
      → (Office → ℕ) → Type 0
  TicksAtMost old new result meter risen_meter often =
      Inside g old new (λ before after. OnErr result ((office : Office)
      → (IsTrue before.is_open → StandsIn before office)
      → RisenAtMost (often office) meter risen_meter))
