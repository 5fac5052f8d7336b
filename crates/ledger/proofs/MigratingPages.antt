-- The pages of the jobs of version 1, made of one job after another.
use Rattle.std.proofs.Common.{true≢false, ◌≡◌, ◌+◌, ℕ, zero, suc, List, [], ◌∷◌, ◌++◌, map, take, Bool, true, false, Option, None, Some, is_some, refl, sym, ap, subst, ◌∙◌}
use Rattle.std.proofs.Math.Path.{fun_ext}
use Rattle.std.specs.List.{AllByRecursion}
use Rattle.std.specs.Option.{option_map}
use Rattle.core_store.specs.Storage.{Storage}
use Rattle.office.specs.Jobs.{Job, picture}
use Rattle.office.specs.Office.{Entry, Office, is_entry, job_of}
use Rattle.sqlite.specs.Effect.{Database}
use Rattle.ledger_rows.specs.Columns.{storage_bytes}
use Rattle.ledger_rows.specs.Pages.{rows_of}
use Rattle.ledger_tables.specs.Cells.{Pages, QueuedName, unless_blank}
use Rattle.ledger_tables.specs.Listed.{queued_name}
use Rattle.ledger_tables.specs.Named.{of_job}
use Rattle.ledger_tables.specs.Raising.{without_blank_pages}
use Rattle.ledger_tables.specs.Raising as raising
use Rattle.texts.specs.declared.names.JobName.{JobName}
use Rattle.ledger_tables.specs.Tables.{ByJob, NamedJob, Tables, AreDistinct, HoldsAs, is_job, with_pages, pictured}
use Rattle.ledger_tables.proofs.InsertLast.{name_is, name_yes}
use Rattle.ledger.specs.Listed.{IsIts}
use Rattle.ledger.specs.Older.{HasWhole, all_pages_of, second_tables_of, storage_of, storages_of, with_first_pages}
use Rattle.ledger.specs.Saving.{with_storage}
use Rattle.office_tables.specs.Standing.{named, pages_of, state_of, tables_of}
use Rattle.ledger.proofs.SavingJobs.{told_behind}
use Rattle.ledger.proofs.SavingLemmas.{told_of}

-- ---- a job among those before it

all_first : (P : NamedJob → Type 0) (n : ℕ) (office : Office) → AllByRecursion P (map named office) → AllByRecursion P (map named (take n office))
all_first P zero office all = tt
all_first P (suc n) [] all = tt
all_first P (suc n) (e ∷ office) all = (all.0, all_first P n office all.1)

distinct_first : (n : ℕ) (office : Office) → AreDistinct (map named office) → AreDistinct (map named (take n office))
distinct_first zero office distinct = tt
distinct_first (suc n) [] distinct = tt
distinct_first (suc n) (e ∷ office) distinct = (all_first (λ b. is_job e.customer e.number b ≡ false) n office distinct.0, distinct_first n office distinct.1)

last_of_all : (P : NamedJob → Type 0) (before : Office) (e : Entry) → AllByRecursion P (map named (before ++ e ∷ [])) → P (named e)
last_of_all P [] e all = all.0
last_of_all P (first ∷ before) e all = last_of_all P before e all.1

-- no job before another has its name
apart_before : (before : Office) (e : Entry) → AreDistinct (map named (before ++ e ∷ [])) → job_of e.customer e.number before ≡ None
apart_before [] e distinct = refl
apart_before (first ∷ before) e distinct = go (is_entry e.customer e.number first) refl (apart_before before e distinct.1)
  where
    other : is_job first.customer first.number (named e) ≡ false
    other = last_of_all (λ b. is_job first.customer first.number b ≡ false) before e distinct.0

    go : (b : Bool) → is_entry e.customer e.number first ≡ b → job_of e.customer e.number before ≡ None → job_of e.customer e.number (first ∷ before) ≡ None
    go true this rest =
        let name = name_is first.customer e.customer first.number e.number this in
        absurd (true≢false (sym (name_yes e.customer first.customer e.number first.number (sym name.0) (sym name.1)) ∙ other))
    go false that rest = rw that rest

pub none_before : (office : Office) (count : ℕ) (e : Entry) → AreDistinct (map named office) → take (count + 1) office ≡ take count office ++ e ∷ [] → job_of e.customer e.number (take count office) ≡ None
none_before office count e distinct more =
    apart_before (take count office) e (subst (λ (es : Office). AreDistinct (map named es)) more (distinct_first (count + 1) office distinct))

-- the pages of one job more
pub next_pages : (office : Office) (count : ℕ) (e : Entry) → AreDistinct (map named office) → take (count + 1) office ≡ take count office ++ e ∷ []
    → with_pages e.customer e.number (rows_of (picture e.job).works.storage) (with_first_pages count office) ≡ with_first_pages (count + 1) office
next_pages office count e distinct more =
    ap (λ (p : ByJob Pages). let t : Tables = record (tables_of office) { pages = p } in t)
    (sym (ap (λ (es : Office). told_of pages_of es) more ∙ told_behind pages_of e (take count office) (none_before office count e distinct more)))

pub names_are : (office : Office) → map queued_name (map named office) ≡ map (λ (e : Entry). queued_name (named e)) office
names_are [] = refl
names_are (e ∷ office) = ap (λ (ns : List QueuedName). queued_name (named e) ∷ ns) (names_are office)

-- the pages of all jobs are those of the office
pub all_first_pages : (office : Office) (count : ℕ) → take count office ≡ office → with_first_pages count office ≡ tables_of office
all_first_pages office count whole = ap (λ (es : Office). let t : Tables = record (tables_of office) { pages = told_of pages_of es } in t) whole

-- ---- version 2

not_blank : (o : Option Job) → (λ page. unless_blank (all_pages_of o page)) ≡ pages_of o
not_blank None = refl
not_blank (Some job) = refl

-- without its blank pages version 2 is version 3
pub second_without_blank : (office : Office) → without_blank_pages (second_tables_of office) ≡ tables_of office
second_without_blank office =
    ap (λ (p : ByJob Pages). let t : Tables = record (tables_of office) { pages = p } in t) (fun_ext (λ c. fun_ext (λ n. not_blank (job_of c n office))))

-- the pages of as many first jobs
pub as_many_pages : (office : Office) (some many : ℕ) → take some office ≡ take many office → with_first_pages some office ≡ with_first_pages many office
as_many_pages office some many same = ap (λ (es : Office). let t : Tables = record (tables_of office) { pages = told_of pages_of es } in t) same

-- ---- a job's whole storage

stored : {X Y : Type 0} (y : Y) (o : Option X) → is_some o ≡ true → option_map (λ (_ : X). y) o ≡ Some y
stored y None some = absurd (true≢false (sym some))
stored y (Some x) some = refl

pub found_whole : (name : JobName) (s : Storage) (storages : ByJob (List ℕ)) (t : Tables) → HasWhole name s storages t → raising.storage_of name storages t ≡ Some (storage_bytes s)
found_whole name s storages t whole =
    stored (of_job name storages) (of_job name t.states) whole.state ∙ ap (λ (bytes : List ℕ). let o : Option (List ℕ) = Some bytes in o) whole.storage

-- the next job's pages were made
pub next_raised : (office : Office) (count : ℕ) (e : Entry) → take (count + 1) office ≡ take count office ++ e ∷ [] → IsIts office e
    → (name : JobName) → name.customer.now ≡ e.customer → name.number ≡ e.number → (before after : Database) → HoldsAs (pictured (storages_of office)) 1 before (with_first_pages count office)
    → (HasWhole name (picture e.job).works.storage (storages_of office) (with_first_pages count office) → HoldsAs (pictured (storages_of office)) 1 after (with_storage name (picture e.job).works.storage (with_first_pages count office)))
    → HoldsAs (pictured (storages_of office)) 1 after (with_first_pages (count + 1) office)
next_raised office count e more its name who which before after holds raised =
    let distinct = holds.shared.distinct in
    let here : job_of name.customer.now name.number office ≡ Some e.job = ap (λ c. job_of c name.number office) who ∙ ap (λ n. job_of e.customer n office) which ∙ its in
    let none : job_of name.customer.now name.number (take count office) ≡ None = ap (λ c. job_of c name.number (take count office)) who ∙ ap (λ n. job_of e.customer n (take count office)) which ∙ none_before office count e distinct more in
    let whole : HasWhole name (picture e.job).works.storage (storages_of office) (with_first_pages count office) = record {
      storage = ap storage_of here;
      state = ap is_some (ap state_of here);
      pages = ap pages_of none;
    } in
    let pages = rows_of (picture e.job).works.storage in
    let put : with_pages name.customer.now name.number pages (with_first_pages count office) ≡ with_first_pages (count + 1) office =
    ap (λ c. with_pages c name.number pages (with_first_pages count office)) who ∙ ap (λ n. with_pages e.customer n pages (with_first_pages count office)) which ∙ next_pages office count e distinct more in
    subst (HoldsAs (pictured (storages_of office)) 1 after) put (raised whole)
