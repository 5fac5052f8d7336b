-- Offices and the tables that stand for them.
use Rattle.std.proofs.Common.{◌≡◌, ℕ, List, [], ◌∷◌, map, Option, Some, None, Result, Ok, Err, IfOk, Bool, true, false, refl, sym, ap, subst, ◌∙◌}
use Rattle.std.specs.List.{AllByRecursion}
use Rattle.std.specs.Option.{option_map}
use Rattle.sqlite.specs.State.{State, IsUnchanged}
use Rattle.ledger_tables.specs.Tables.{NamedJob, job_named}
use Rattle.office.specs.Jobs.{Job, picture}
use Rattle.office.specs.Kept.{Kept}
use Rattle.office.specs.Office.{Entry, Office, is_entry, entry_of, job_of}
use Rattle.office.specs.declared.stretches.Stretch.{Stretch}
use Rattle.ledger.specs.Earlier.{kept_alone}
use Rattle.office_tables.specs.Standing.{CanBeKept, Rows, StandsIn, named, job_cells}
use Rattle.machine.specs.Earlier.{without_outputs}
use Rattle.machine.specs.Run as run
use Rattle.ledger_tables.specs.Cells.{JobCells}

-- what was read changed nothing
pub still : (old new : State) (office : Office) → IsUnchanged old new → StandsIn old office → StandsIn new office
still old new office same s = subst (λ db. Rows db office) (sym same.0.now_is) s

pub if_ok_then : {X E : Type 0} (P Q : X → Type 0) (r : Result X E) → ((x : X) → P x → Q x) → IfOk r P → IfOk r Q
if_ok_then P Q (Ok x) f h = f x h
if_ok_then P Q (Err e) f h = tt

-- what holds for each office, where there is no fault
pub if_ok_each : {X E A : Type 0} (P : A → Type 0) (Q : A → X → Type 0) (r : Result X E) → ((a : A) → P a → IfOk r (Q a)) → IfOk r (λ x. (a : A) → P a → Q a x)
if_ok_each P Q (Ok x) h = h
if_ok_each P Q (Err e) h = tt

-- the entry of a job that is found
pub entry_found : (customer : List ℕ) (number : ℕ) (office : Office) (job : Job) → job_of customer number office ≡ Some job → (e : Entry) × (entry_of customer number office ≡ Some e) × (e.job ≡ job)
entry_found customer number office job h = go (entry_of customer number office) refl
  where
    go : (o : Option Entry) → entry_of customer number office ≡ o → (e : Entry) × (entry_of customer number office ≡ Some e) × (e.job ≡ job)
    go None is = absurd (let e = rw is at h in cc)
    go (Some e) is = (e, is, let same : Some e.job ≡ Some job = rw is at h in cc)

all_found : (P : Entry → Type 0) (customer : List ℕ) (number : ℕ) (office : Office) (e : Entry) → AllByRecursion P office → entry_of customer number office ≡ Some e → P e
all_found P customer number [] e all h = absurd (let none = h in cc)
all_found P customer number (first ∷ office) e all h = go (is_entry customer number first) refl (λ rest. all_found P customer number office e all.1 rest)
  where
    go : (b : Bool) → is_entry customer number first ≡ b → (entry_of customer number office ≡ Some e → P e) → P e
    go true is later =
        let same : Some first ≡ Some e = rw is at h in
        let one : first ≡ e = cc in
        subst P one all.0
    go false is later = later (rw is at h)

-- a job that is found can be kept
pub job_is : (customer : List ℕ) (number : ℕ) (office : Office) (job : Job) → AllByRecursion (λ e. CanBeKept e.job) office → job_of customer number office ≡ Some job → CanBeKept job
job_is customer number office job all h =
    let it = entry_found customer number office job h in
    subst CanBeKept it.2 (all_found (λ e. CanBeKept e.job) customer number office it.0 all it.1)

-- the row of a job is found where the job is
pub named_of : (customer : List ℕ) (number : ℕ) (office : Office) → job_named customer number (map named office) ≡ option_map named (entry_of customer number office)
named_of customer number [] = refl
named_of customer number (e ∷ office) = go (is_entry customer number e) refl (named_of customer number office)
  where
    go : (b : Bool) → is_entry customer number e ≡ b → job_named customer number (map named office) ≡ option_map named (entry_of customer number office)
        → job_named customer number (map named (e ∷ office)) ≡ option_map named (entry_of customer number (e ∷ office))
    go true is rest = rw is
    go false is rest = rw is rest

-- what a look-up of the row tells of the job
row_told : (customer : List ℕ) (number : ℕ) (office : Office) → option_map (λ (j : NamedJob). j.cells) (job_named customer number (map named office)) ≡ option_map job_cells (job_of customer number office)
row_told customer number office = rw (named_of customer number office) (go (entry_of customer number office))
  where
    go : (o : Option Entry) → option_map (λ (j : NamedJob). j.cells) (option_map named o) ≡ option_map job_cells (option_map (λ (e : Entry). e.job) o)
    go None = refl
    go (Some e) = refl

pub row_found : (customer : List ℕ) (number : ℕ) (office : Office) (found : Option JobCells) (row : JobCells) → found ≡ option_map (λ (j : NamedJob). j.cells) (job_named customer number (map named office)) → found ≡ Some row
    → (job : Job) × (job_of customer number office ≡ Some job) × (row ≡ job_cells job)
row_found customer number office found row told is = go (job_of customer number office) refl
  where
    go : (o : Option Job) → job_of customer number office ≡ o → (job : Job) × (job_of customer number office ≡ Some job) × (row ≡ job_cells job)
    go None at = absurd (let e : Some row ≡ None = sym is ∙ told ∙ row_told customer number office ∙ ap (option_map job_cells) at in cc)
    go (Some job) at = (job, at, let e : Some row ≡ Some (job_cells job) = sym is ∙ told ∙ row_told customer number office ∙ ap (option_map job_cells) at in cc)

pub row_none : (customer : List ℕ) (number : ℕ) (office : Office) (found : Option JobCells) → found ≡ option_map (λ (j : NamedJob). j.cells) (job_named customer number (map named office)) → found ≡ None → job_of customer number office ≡ None
row_none customer number office found told is = go (job_of customer number office) refl
  where
    go : (o : Option Job) → job_of customer number office ≡ o → job_of customer number office ≡ None
    go None at = at
    go (Some job) at = absurd (let e : None ≡ Some (job_cells job) = sym is ∙ told ∙ row_told customer number office ∙ ap (option_map job_cells) at in cc)

-- a job that is found is there
pub not_absent : (job : Job) (found : Option Job) → found ≡ Some job → found ≡ None → ⊥
not_absent job found is none = let e : Some job ≡ None = sym is ∙ none in cc

-- .. and a look-up of a part of it
module _ {X : Type 0} (part : JobCells → X) where
  part_told : (customer : List ℕ) (number : ℕ) (office : Office) (found : Option X) (job : Option Job) → found ≡ option_map part (option_map (λ (j : NamedJob). j.cells) (job_named customer number (map named office))) → job_of customer number office ≡ job
      → found ≡ option_map part (option_map job_cells job)
  part_told customer number office found job told at = told ∙ ap (option_map part) (row_told customer number office ∙ ap (option_map job_cells) at)

  pub part_found : (customer : List ℕ) (number : ℕ) (office : Office) (found : Option X) (row : X) → found ≡ option_map part (option_map (λ (j : NamedJob). j.cells) (job_named customer number (map named office))) → found ≡ Some row
      → (job : Job) × (job_of customer number office ≡ Some job) × (row ≡ part (job_cells job))
  part_found customer number office found row told is = go (job_of customer number office) refl
    where
      go : (o : Option Job) → job_of customer number office ≡ o → (job : Job) × (job_of customer number office ≡ Some job) × (row ≡ part (job_cells job))
      go None at = absurd (let e : Some row ≡ None = sym is ∙ part_told customer number office found None told at in cc)
      go (Some job) at = (job, at, let e : Some row ≡ Some (part (job_cells job)) = sym is ∙ part_told customer number office found (Some job) told at in cc)

  pub part_none : (customer : List ℕ) (number : ℕ) (office : Office) (found : Option X) → found ≡ option_map part (option_map (λ (j : NamedJob). j.cells) (job_named customer number (map named office))) → found ≡ None → job_of customer number office ≡ None
  part_none customer number office found told is = go (job_of customer number office) refl
    where
      go : (o : Option Job) → job_of customer number office ≡ o → job_of customer number office ≡ None
      go None at = at
      go (Some job) at = absurd (let e : None ≡ Some (part (job_cells job)) = sym is ∙ part_told customer number office found (Some job) told at in cc)

pub kept_is : (stretches : List Stretch) (held collected : Bool) (machine : run.State) (job : Job) → stretches ≡ job.stretches → held ≡ job.held → collected ≡ job.collected → machine ≡ without_outputs (picture job)
    → ◌≡◌ {A = Kept} (record { stretches = stretches; held = held; collected = collected; machine = machine }) (kept_alone job)
kept_is stretches held collected machine job one two three four = rw (one, two, three, four)
