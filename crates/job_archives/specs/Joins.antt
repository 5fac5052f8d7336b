-- what the comparison of a database with two others finds that it is made of
use Rattle.std.specs.Prelude.{◌≡◌, ◌⊎◌, ◌++◌, List, length, map, Result, IfOk, IsPermutation, IsTrue}
use Rattle.std.specs.List.{AllByRecursion}
use Rattle.office.specs.Office.{Office}
use Rattle.sqlite.specs.Effect.{Database, IsDatabase}
use Rattle.sqlite.specs.Held.{Held, state}
use Rattle.sqlite.specs.Order.{Row}
use Rattle.sqlite.specs.State.{HasCleanDisk, IsUnchanged}
use Rattle.sqlite.specs.Tree.{Trees}
use Rattle.sqlite.specs.View.{IsClean}
use Rattle.sqlite_trees.specs.declared.store.Store.{Ghosts}
use Rattle.office_tables.specs.Standing.{Rows}
use Rattle.ledger_tables.specs.Schema.{bureau_schema}
use Rattle.ledger_tables.specs.Tables.{cells}
use Rattle.ledger_tables.specs.declared.faults.Fault.{Fault}
use Rattle.job_checks.specs.Tables.{IsBureaus, version_columns}
use Rattle.job_checks.specs.declared.reports.Table.{Table}
use Rattle.job_archives.specs.Copies.{DiffersIn, IsSameJob, JobDiffers, Tells}
use Rattle.job_archives.specs.declared.comparing.Compared.{Compared}

-- the third stands for the jobs of an office for which the first stands, and behind them those of
-- one for which the second stands
abbrev pub StandsForBoth : Database → Database → Database → Type 0
StandsForBoth first second joined = (office : Office) → (more : Office) → Rows first office
    → Rows second more → Rows joined (office ++ more)

module _ (first second joined : Trees) where
  -- the third has of `jobs` the rows of the first, and behind them those of the second
  abbrev pub HasBothJobs : Type 0
  HasBothJobs = cells (joined 1) ≡ cells (first 1) ++ cells (second 1)

  -- each of these jobs of the first, and of those of the second, has the same rows in the third
  abbrev pub AreBoth : List Row → List Row → Type 0
  AreBoth jobs more =
      AllByRecursion (IsSameJob first joined) jobs × AllByRecursion (IsSameJob second joined) more

  -- the rows of a job of the first or of the second differ in this table from those of the third
  abbrev pub EitherDiffers : Table → Type 0
  EitherDiffers it = JobDiffers first joined it ⊎ JobDiffers second joined it

  -- the third has the same rows of `bureau` as the first, and of both `jobs`, and of each of their
  -- jobs the same rows
  pub record IsJoin : Type 0 where
    pub version : List Row
    pub read : IsPermutation (map version_columns (first 0)) version
    pub again : IsPermutation (map version_columns (joined 0)) version
    pub jobs : HasBothJobs
    pub each : AreBoth (cells (first 1)) (cells (second 1))

  -- the third differs in this table from the first, or from the second
  abbrev pub JoinDiffers : Table → Type 0
  JoinDiffers it = DiffersIn first joined HasBothJobs it ⊎ JobDiffers second joined it

  -- this tells how many jobs the third has, and a table in which it is not made of both, if there
  -- is one
  pub record ComparesBoth (told : Compared) : Type 0 where
    pub jobs : told.jobs ≡ length (cells (joined 1))
    pub other : Tells IsJoin JoinDiffers told.other

module _ {S T U : Type 0} (g : Ghosts S) (h : Ghosts T) (k : Ghosts U) (old new : Held S)
    (was is : Held T) (before after : Held U) where
  -- on Ok, if all three databases have a bureau's schema, they are unchanged, and if they are
  -- bureaus', this holds of their trees and of what was read
  abbrev pub ReadsThree : {X : Type 0} → Result X Fault → (Trees → Trees → Trees → X → Type 0)
      → Type 0
  ReadsThree result Are = HasCleanDisk (state g new) → HasCleanDisk (state h is)
      → HasCleanDisk (state k after) → IfOk result (λ read.
      (state g old).now.schema ≡ bureau_schema → (state h was).now.schema ≡ bureau_schema
      → (state k before).now.schema ≡ bureau_schema
      → IsUnchanged (state g old) (state g new) × IsUnchanged (state h was) (state h is)
      × IsUnchanged (state k before) (state k after)
      × (IsBureaus (state g old).now → IsBureaus (state h was).now
      → IsBureaus (state k before).now
      → Are (state g old).now.trees (state h was).now.trees (state k before).now.trees read))

  -- the same of connections that were open
  abbrev pub ReadsThreeOn : {X : Type 0} → Result X Fault → (Trees → Trees → Trees → X → Type 0)
      → Type 0
  ReadsThreeOn result Are = IsTrue (state g old).is_open → IsTrue (state h was).is_open
      → IsTrue (state k before).is_open → ReadsThree result Are

  -- on Ok, if all three databases have a bureau's schema, they are what is committed still, their
  -- trees obey their schemas, and if they are bureaus', this holds of their trees and of what was
  -- read
  abbrev pub ReadsThreeSettled : {X : Type 0} → Result X Fault
      → (Trees → Trees → Trees → X → Type 0) → Type 0
  ReadsThreeSettled result Are = HasCleanDisk (state g new) → HasCleanDisk (state h is)
      → HasCleanDisk (state k after) → IfOk result (λ read.
      (state g old).now.schema ≡ bureau_schema → (state h was).now.schema ≡ bureau_schema
      → (state k before).now.schema ≡ bureau_schema
      → (IsTrue (state g new).is_open → (state g new).committed ≡ (state g old).now)
      × IsDatabase (state g old).now
      × (IsTrue (state h is).is_open → (state h is).committed ≡ (state h was).now)
      × IsDatabase (state h was).now
      × (IsTrue (state k after).is_open → (state k after).committed ≡ (state k before).now)
      × IsDatabase (state k before).now
      × (IsBureaus (state g old).now → IsBureaus (state h was).now
      → IsBureaus (state k before).now
      → Are (state g old).now.trees (state h was).now.trees (state k before).now.trees read))

module _ {S T U : Type 0} (g : Ghosts S) (h : Ghosts T) (k : Ghosts U) where
  -- on Ok, if all three connections saw a bureau's schema, it is told how many jobs the third has,
  -- and if no table is told, the third stands for the offices of both; a table that is told differs
  abbrev pub ComparesJoin : Held S → Held T → Held U → S → T → U → Result Compared Fault → Type 0
  ComparesJoin file other join store more third result =
      let first : Database = (state g file).now in
      let second : Database = (state h other).now in
      let joined : Database = (state k join).now in
      IsClean (g.view store) → IsClean (h.view more) → IsClean (k.view third)
      → IfOk result (λ told. first.schema ≡ bureau_schema → second.schema ≡ bureau_schema
      → joined.schema ≡ bureau_schema → (told.jobs ≡ length (cells (joined.trees 1)))
      × Tells (StandsForBoth first second joined)
      (JoinDiffers first.trees second.trees joined.trees) told.other)
