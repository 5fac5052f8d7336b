-- Databases with the same rows of each job stand for the same offices, and so do their parts.
use Rattle.std.proofs.Common.{◌≡◌, ◌↔◌, ◌++◌, ℕ, pos, List, [], ◌∷◌, length, map, filter, Option, Some, None, Result, Ok, OnOk, IsTrue, refl, sym, ap, subst, ◌∙◌}
use Rattle.std.specs.Prelude.{⊤}
use Rattle.std.specs.List.{AllByRecursion}
use Rattle.std.specs.List.Sorted.{IsPermutation}
use Rattle.sqlite_keyed.proofs.ListLemmas.{filter-map, filter_same, all-filter}
use Rattle.office.specs.Office.{Entry, Office}
use Rattle.sqlite.specs.Effect.{Database, IsDatabase}
use Rattle.sqlite.specs.Held.{Held, state}
use Rattle.sqlite.specs.State.{HasCleanDisk}
use Rattle.sqlite_trees.specs.declared.store.Store.{Ghosts}
use Rattle.ledger_tables.proofs.Stepping.{if_ok_then}
use Rattle.ledger_tables.specs.Schema.{bureau_schema}
use Rattle.ledger_tables.specs.declared.faults.Fault.{Fault}
use Rattle.job_archives.specs.declared.comparing.Compared.{Compared}
use Rattle.job_archives.specs.declared.customers.Customers.{Customers}
use Rattle.job_archives.specs.declared.customers.Customers.TheVariants.{All, Named, Others}
use Rattle.sqlite.specs.Order.{Row}
use Rattle.sqlite.specs.Tree.{Trees}
use Rattle.sqlite.specs.declared.types.Value.TheVariants.{Int, Text}
use Rattle.office_tables.specs.Standing.{Rows}
use Rattle.ledger_tables.specs.Tables.{cells}
use Rattle.job_checks.specs.Kept.{AreNamedApart, IsKept}
use Rattle.job_checks.specs.Tables.{version_columns, AreRowsOf, AreRowsOfJob, HandsBack, HasRows, IsBureaus, TableRows, WholeTables}
use Rattle.job_checks.specs.declared.reports.Table.{Table}
use Rattle.job_checks.specs.declared.reports.Table.TheVariants as table
use Rattle.job_checks.proofs.KeptRows.{kept_by}
use Rattle.job_checks.proofs.NameLaw.{jobs_apart}
use Rattle.job_checks.proofs.OfficeLemmas.{names_distinct, row_in_jobs}
use Rattle.job_checks.proofs.OneJob.{kept_again, kept_in_all, kept_in_one}
use Rattle.job_checks.proofs.OwnerLaw.{all_are_owned}
use Rattle.job_checks.proofs.StandingRows.{rows_stand}
use Rattle.job_checks.proofs.WholeRows.{whole, whole_has}
use Rattle.job_archives.specs.Copies.{Compares, ComparesFiles, DiffersIn, HasPart, HasTheirJobs, HaveSameJob, IsSameJob, JobDiffers, ReadsBothSettled, StandsForPart, Tells, rows_in}
use Rattle.job_archives.specs.Parts.{is_among, is_theirs, part_of}

-- ---- the rows of some customers

their_row : (customers : Customers) (e : Entry) → is_theirs customers (row_in_jobs e) ≡ is_among customers e.customer
their_row All e = refl
their_row (Named names) e = refl
their_row (Others names) e = refl

pub their_jobs : (customers : Customers) (office : Office) → filter (is_theirs customers) (map row_in_jobs office) ≡ map row_in_jobs (part_of customers office)
their_jobs customers office = filter-map (is_theirs customers) row_in_jobs office ∙ ap (map row_in_jobs) (filter_same _ _ (their_row customers) office)

of_all : (office : Office) → part_of All office ≡ office
of_all [] = refl
of_all (e ∷ office) = ap (λ es. e ∷ es) (of_all office)

rows_of_all : (rows : List Row) → filter (is_theirs All) rows ≡ rows
rows_of_all [] = refl
rows_of_all (it ∷ rows) = ap (λ them. it ∷ them) (rows_of_all rows)

-- ---- an entry whose job's rows are the same in both is kept in the other too

module _ (first second : Database) (all other : WholeTables) (has : AreRowsOf first.trees all) (has_other : AreRowsOf second.trees other) where
  pub moved : (e : Entry) → IsSameJob first.trees second.trees (row_in_jobs e) → IsKept all.rows e → IsKept other.rows e
  moved e it kept =
      let text : Text e.customer ≡ Text it.0 = it.2 in
      let int : Int (pos e.number) ≡ Int (pos it.1) = it.3 in
      let customer : it.0 ≡ e.customer = cc in
      let number : it.1 ≡ e.number = cc in
      let rows : HaveSameJob first.trees second.trees e.customer e.number =
      subst (λ (n : ℕ). HaveSameJob first.trees second.trees e.customer n) number (subst (λ (c : List ℕ). HaveSameJob first.trees second.trees c it.1) customer it.4) in
      let own = kept_in_one first.trees all has e kept rows.0 rows.1 in
      kept_in_all second.trees other has_other e (λ others are. kept_again second.trees e rows.0 others rows.2 are own)

  pub all_moved : (office : Office) → AllByRecursion (IsSameJob first.trees second.trees) (map row_in_jobs office) → AllByRecursion (IsKept all.rows) office → AllByRecursion (IsKept other.rows) office
  all_moved [] each kept = tt
  all_moved (e ∷ office) each kept = (moved e each.0 kept.0, all_moved office each.1 kept.1)

module _ (customers : Customers) (first second : Database) (one : IsBureaus first) (two : IsBureaus second) (same : HasPart first.trees second.trees customers) where
  abbrev all : WholeTables
  all = whole first.trees same.version

  abbrev other : WholeTables
  other = whole second.trees same.version

  has : HasRows first all
  has = record { bureaus = one; rows = whole_has first.trees same.version same.read }

  has_other : HasRows second other
  has_other = record { bureaus = two; rows = whole_has second.trees same.version same.again }

  part_stands : (office : Office) → Rows first office → Rows second (part_of customers office)
  part_stands office rows =
      let kept = kept_by first all office has rows in
      let jobs : cells (second.trees 1) ≡ map row_in_jobs (part_of customers office) = same.jobs ∙ ap (filter (is_theirs customers)) kept.jobs ∙ their_jobs customers office in
      rows_stand second other (part_of customers office) two has_other.rows (record {
        version = kept.version;
        jobs = jobs;
        distinct = names_distinct (part_of customers office) (subst AreNamedApart jobs (jobs_apart second other has_other));
        kept = all_moved first second all other has.rows has_other.rows (part_of customers office) (subst (AllByRecursion (IsSameJob first.trees second.trees)) jobs same.each)
            (all-filter (IsKept all.rows) (λ (e : Entry). is_among customers e.customer) office kept.kept);
        owned = all_are_owned second other has_other;
      })

turned_job : (first second : Trees) (it : Row) → IsSameJob first second it → IsSameJob second first it
turned_job first second it is = (is.0, is.1, is.2, is.3, (is.4.0, is.4.2, is.4.1))

turned_jobs : (first second : Trees) (rows : List Row) → AllByRecursion (IsSameJob first second) rows → AllByRecursion (IsSameJob second first) rows
turned_jobs first second [] each = tt
turned_jobs first second (it ∷ rows) each = (turned_job first second it each.0, turned_jobs first second rows each.1)

turned : (first second : Trees) → HasPart first second All → HasPart second first All
turned first second same =
    let jobs : cells (second 1) ≡ cells (first 1) = same.jobs ∙ rows_of_all (cells (first 1)) in
    record {
      version = same.version;
      read = same.again;
      again = same.read;
      jobs = sym jobs ∙ sym (rows_of_all (cells (second 1)));
      each = subst (AllByRecursion (IsSameJob second first)) jobs (turned_jobs first second _ same.each);
    }

whole_stands : (first second : Database) → IsBureaus first → IsBureaus second → HasPart first.trees second.trees All → (office : Office) → Rows first office ↔ Rows second office
whole_stands first second one two same office = (
  λ rows. subst (Rows second) (of_all office) (part_stands All first second one two same office rows),
  λ rows. subst (Rows first) (of_all office) (part_stands All second first two one (turned first.trees second.trees same) office rows),
)

pub stands_for_part : (customers : Customers) (first second : Database) → IsBureaus first → IsBureaus second → HasPart first.trees second.trees customers → StandsForPart customers first second
stands_for_part customers first second one two same = record {
  part = part_stands customers first second one two same;
  whole = λ is. whole_stands first second one two (subst (HasPart first.trees second.trees) is same);
}

-- ---- what is told

-- all of these and one more
pub all_and_one : {X : Type 0} (P : X → Type 0) (xs : List X) (x : X) → AllByRecursion P xs → P x → AllByRecursion P (xs ++ x ∷ [])
all_and_one P [] x all one = (one, tt)
all_and_one P (y ∷ xs) x all one = (all.0, all_and_one P xs x all.1 one)

-- what is told of two readings of a job
pub job_told : (first second : Trees) (customer : List ℕ) (number : ℕ) (one other : TableRows) → AreRowsOfJob first customer number one → AreRowsOfJob second customer number other → (told : Option Table)
    → Tells (one ≡ other) (λ it. ¬ (rows_in one it ≡ rows_in other it)) told → Tells (HaveSameJob first second customer number) (JobDiffers first second) told
job_told first second customer number one other a b None same = (one, a, subst (AreRowsOfJob second customer number) (sym same) b)
job_told first second customer number one other a b (Some it) differs = (customer, number, one, other, a, b, differs)

-- what was told of two databases that are those of before
pub told_before : (Same : Trees → Trees → Type 0) (first second before again : Database) (told : Option Table) → first ≡ before → second ≡ again → IsBureaus before → IsBureaus again
    → (IsBureaus first → IsBureaus second → Tells (Same first.trees second.trees) (JobDiffers first.trees second.trees) told) → Tells (Same before.trees again.trees) (JobDiffers before.trees again.trees) told
told_before Same first second before again told one two a b found =
    subst (λ (db : Database). Tells (Same before.trees db.trees) (JobDiffers before.trees db.trees) told) two
    (subst (λ (db : Database). Tells (Same db.trees second.trees) (JobDiffers db.trees second.trees) told) one (found (subst IsBureaus (sym one) a) (subst IsBureaus (sym two) b)))

-- a table in which a job differs differs
pub job_differs : (first second : Trees) (Jobs : Type 0) (it : Table) → JobDiffers first second it → DiffersIn first second Jobs it
job_differs first second Jobs table.Bureau differs = absurd (differs.6 refl)
job_differs first second Jobs table.Jobs differs = absurd (differs.6 refl)
job_differs first second Jobs table.Stretches differs = differs
job_differs first second Jobs table.States differs = differs
job_differs first second Jobs table.Pages differs = differs
job_differs first second Jobs table.Cards differs = differs
job_differs first second Jobs table.Lines differs = differs
job_differs first second Jobs table.Profiles differs = differs
job_differs first second Jobs table.Pockets differs = differs

-- what is told where both have the same version, and the second the customers' jobs
pub told_of_each : (customers : Customers) (first second : Trees) (version again : List Row) → IsPermutation (map version_columns (first 0)) version → IsPermutation (map version_columns (second 0)) again → version ≡ again
    → HasTheirJobs first second customers → (told : Option Table) → Tells (AllByRecursion (IsSameJob first second) (cells (second 1))) (JobDiffers first second) told
    → Tells (HasPart first second customers) (DiffersIn first second (HasTheirJobs first second customers)) told
told_of_each customers first second version again read read_again same jobs None each =
    record { version = version; read = read; again = subst (IsPermutation (map version_columns (second 0))) (sym same) read_again; jobs = jobs; each = each }
told_of_each customers first second version again read read_again same jobs (Some it) differs = job_differs first second (HasTheirJobs first second customers) it differs

-- what both stores that are sound say of their databases
stands_told : (customers : Customers) (first second : Database) → IsBureaus first → IsBureaus second → (told : Compared) → Compares first.trees second.trees customers told
    → (told.jobs ≡ length (cells (second.trees 1))) × Tells (StandsForPart customers first second) (DiffersIn first.trees second.trees (HasTheirJobs first.trees second.trees customers)) told.other
stands_told customers first second one two told compares = (compares.jobs, go told.other compares.other)
  where
    go : (it : Option Table) → Tells (HasPart first.trees second.trees customers) (DiffersIn first.trees second.trees (HasTheirJobs first.trees second.trees customers)) it
        → Tells (StandsForPart customers first second) (DiffersIn first.trees second.trees (HasTheirJobs first.trees second.trees customers)) it
    go None same = stands_for_part customers first second one two same
    go (Some it) differs = differs

module _ {S T : Type 0} (g : Ghosts S) (h : Ghosts T) (customers : Customers) (old new : Held S) (was is : Held T) (store : S) (other : T) (made : Result Compared Fault) (file copy both : Result ⊤ Fault) where
  pub compared : ReadsBothSettled g h old new was is made (λ db two told. Compares db two customers told) → both ≡ Ok tt → OnOk both ((file ≡ Ok tt) × (copy ≡ Ok tt))
      → HandsBack g new store file → HandsBack h is other copy → ComparesFiles g h customers old was store other made
  compared settled sound each handed moved_back clean copied =
      let ok : (file ≡ Ok tt) × (copy ≡ Ok tt) = subst (λ (r : Result ⊤ Fault). OnOk r ((file ≡ Ok tt) × (copy ≡ Ok tt))) sound each in
      let one = subst (λ (r : Result ⊤ Fault). OnOk r (HasCleanDisk (state g new) × ((db : Database) → db.schema ≡ bureau_schema → IsDatabase db → (IsTrue (state g new).is_open → (state g new).committed ≡ db) → IsBureaus db))) ok.0 (handed clean) in
      let two = subst (λ (r : Result ⊤ Fault). OnOk r (HasCleanDisk (state h is) × ((db : Database) → db.schema ≡ bureau_schema → IsDatabase db → (IsTrue (state h is).is_open → (state h is).committed ≡ db) → IsBureaus db))) ok.1 (moved_back copied) in
      if_ok_then made _ _ (λ told found ours same.
      let all = found ours same in
      let first = one.1 (state g old).now ours all.1 all.0 in
      let second = two.1 (state h was).now same all.3 all.2 in
      stands_told customers (state g old).now (state h was).now first second told (all.4 first second))
      (settled one.0 two.0)
