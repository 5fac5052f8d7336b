-- the contracts of calls that take over an open connection, or make tables over it
use Rattle.std.specs.Prelude.{◌≡◌, ◌⊎◌, ◌∷◌, [], pos, true, Result, Ok, Err, IsTrue, ⊤}
use Rattle.sqlite.specs.declared.types.Value.TheVariants.{Int}
use Rattle.sqlite.specs.Held.{Held, state}
use Rattle.sqlite.specs.State.{State, HasCleanDisk, IsRolledBack}
use Rattle.sqlite.specs.Tree.{Trees}
use Rattle.sqlite_trees.specs.declared.store.Store.{Ghosts}
use Rattle.ledger_tables.specs.Making.{IsStopped}
use Rattle.ledger_tables.specs.Schema.{bureau_schema, own_version}
use Rattle.ledger_tables.specs.Versions.{HasVersions, versions_in, IsFoundVersion, IsKnown}
use Rattle.ledger_tables.specs.declared.faults.Fault as tables
use Rattle.ledger_tables.specs.declared.faults.Fault.TheVariants as fault
use Rattle.ledger_tables.specs.declared.openings.OpenFault.{OpenFault}
use Rattle.ledger_tables.specs.declared.openings.OpenFault.TheVariants.{Store}
use Rattle.office.specs.Office.{Office}
use Rattle.office_tables.specs.Standing.{Stands}
use Rattle.ledger.specs.declared.bureau.Bureau.{Bureau}

-- a call that left all as it was: what an open connection sees, what was last committed, whether a
-- transaction is open, and what a crash may leave
pub record IsUntouched (old new : State) : Type 0 where
  pub was_open : IsTrue new.is_open → IsTrue old.is_open
  pub now : IsTrue new.is_open → new.now ≡ old.now
  pub committed : IsTrue new.is_open → new.committed ≡ old.committed
  pub mode : new.in_transaction ≡ old.in_transaction
  pub left : (db : Trees) → new.may_leave db → old.may_leave db

-- the connection that a call hands back, in the bureau or beside the fault
abbrev pub handed : {S F : Type 0} → Result (Bureau S) (F × Held S) → Held S
handed (Ok bureau) = bureau.conn
handed (Err e) = e.1

-- whether there is a fault, and which
abbrev pub verdict : {S F : Type 0} → Result (Bureau S) (F × Held S) → Result ⊤ F
verdict (Ok bureau) = Ok tt
verdict (Err e) = Err e.0

-- the connection with a transaction begun
abbrev pub begun : {S : Type 0} → Held S → Held S
begun conn = record conn { in_transaction = true }

module _ {S : Type 0} (g : Ghosts S) (old new : Held S) where
  -- if the tables represented an office, they represent the same one after the call
  abbrev pub StandsStill : Type 0
  StandsStill = HasCleanDisk (state g new) → (office : Office) → Stands (state g old) office
      → Stands (state g new) office

  -- if the tables represented an office, the fault is not that they are no bureau's or an old one's
  abbrev pub IsNoFaultOfTables : OpenFault → Type 0
  IsNoFaultOfTables fault = HasCleanDisk (state g new) → (office : Office)
      → Stands (state g old) office → IsKnown fault

  -- the tables can be asked for their version; and if their schema is a bureau's, they hold one
  -- version, this program's own
  abbrev pub HasOwnVersion : Type 0
  HasOwnVersion = HasCleanDisk (state g new) → HasVersions (state g old).now
      × ((state g old).now.schema ≡ bureau_schema
      → versions_in (state g old).now ≡ Int (pos own_version) ∷ [])

  -- this holds from the start of a transaction to a state at which it was rolled back
  abbrev pub UpToRollback : (State → State → Type 0) → Type 0
  UpToRollback Is = (last : Held S) × Is (state g (begun old)) (state g last)
      × IsRolledBack (state g last) (state g new)

  -- all is left as it was; and the answer is that of the versions found, or of the error by which
  -- the query for them failed; or it is fault 2, since a transaction was open
  abbrev pub IsTold : Result ⊤ OpenFault → Type 0
  IsTold result = HasCleanDisk (state g new) → IsUntouched (state g old) (state g new)
      × (((result ≡ Err Store) × IsTrue (state g old).in_transaction)
      ⊎ UpToRollback (λ before last. IsFoundVersion before last result))

  -- all is left as it was; and the fault is that of the statement that did nothing; or it is fault
  -- 2, since a transaction was open
  abbrev pub MakesNothing : tables.Fault → Type 0
  MakesNothing told = IsUntouched (state g old) (state g new)
      × (((told ≡ fault.Store) × IsTrue (state g old).in_transaction)
      ⊎ UpToRollback (λ before last. IsStopped before last told))
