-- One more row, behind those that a table has.
use Rattle.std.proofs.Common.{◌≡◌, inl, inr, ℕ, pos, List, [], ◌∷◌, ◌++◌, length, map, filter, Bool, true, false, ◌&&◌, ◌==◌, ◌+◌, bytes_eq, if◌then◌else◌, None, Some, Option, refl, sym, ap, subst, ◌∙◌, arith, append-nil, true≢false}
use Rattle.std.specs.List.{AllByRecursion}
use Rattle.std.specs.Option.{option_to_list}
use Rattle.std.proofs.lemmas.List.Elements.{filter-append}
use Rattle.std.proofs.lemmas.Bool.{and_parts, cases_Bool}
use Rattle.std.proofs.lemmas.Bool.Decides.{nat_tests}
use Rattle.std.proofs.lemmas.Slice.Eq.{bytes_eq-Decides}
use Rattle.sqlite.specs.declared.types.Value.TheVariants.{Int, Text}
use Rattle.sqlite.specs.Order.{Row}
use Rattle.sqlite.specs.Tree.{put_row}
use Rattle.sqlite.specs.Edit.{next_rowid}
use Rattle.ledger_tables.specs.Tables.{NamedJob, ByJob, is_job, job_named, AreDistinct, at_job, placed, cells, is_row_of, NamesJob, IsOf, IsOfEach, HasProfiles, HoldsShared, Tables}
use Rattle.sqlite.specs.Tree.{Trees}
use Rattle.sqlite.specs.View.{IsShaped}
use Rattle.sqlite_trees.specs.declared.store.Shape.TheVariants.{Table as Rising}
use Rattle.ledger_tables.specs.Cells.{Pages, Pockets}
use Rattle.ledger_tables.specs.declared.rows.ProfileRow.{ProfileRow}
use Rattle.ledger_tables.specs.declared.rows.StateRow.{StateRow}
use Rattle.ledger_tables.proofs.InsertPlaces.{next_cells, next_shaped}

-- the same rows are of the same jobs
pub still : {of_job : ByJob (List Row)} {old new : List Row} → new ≡ old → IsOf old of_job → IsOf new of_job
still {of_job} same is = subst (λ rows. IsOf rows of_job) (sym same) is

pub still_each : {X : Type 0} {row : List ℕ → ℕ → ℕ → X → Row} {things : ByJob (ℕ → Option X)} {old new : List Row} → new ≡ old → IsOfEach row old things → IsOfEach row new things
still_each {row = row} {things = things} same is = subst (λ rows. IsOfEach row rows things) (sym same) is

pub still_profiles : {profiles : ByJob (Option ProfileRow)} {pockets : ByJob Pockets} {old new : Trees} → HasProfiles old profiles pockets → new 15 ≡ old 15 → new 17 ≡ old 17 → HasProfiles new profiles pockets
still_profiles h fifteen seventeen = record { profiles_are = still fifteen h.profiles_are; pockets_are = still_each seventeen h.pockets_are }

-- the tables that every version has stay
pub still_shared : {t : Tables} {old new : Trees} → HoldsShared old t → new 1 ≡ old 1 → new 3 ≡ old 3 → new 7 ≡ old 7 → new 9 ≡ old 9 → HoldsShared new t
still_shared h one three seven nine = record {
  jobs = ap cells one ∙ h.jobs;
  jobs_rise = subst (IsShaped Rising) (sym one) h.jobs_rise;
  distinct = h.distinct;
  stretches = still three h.stretches;
  cards = still seven h.cards;
  lines = still nine h.lines;
}

-- .. and do not depend on the other tables
pub shared_with : {t : Tables} {db : Trees} (states : ByJob (Option StateRow)) (pages : ByJob Pages) (profiles : ByJob (Option ProfileRow)) (pockets : ByJob Pockets) → HoldsShared db t → HoldsShared db (record t { states = states; pages = pages; profiles = profiles; pockets = pockets })
shared_with states pages profiles pockets h = record { jobs = h.jobs; jobs_rise = h.jobs_rise; distinct = h.distinct; stretches = h.stretches; cards = h.cards; lines = h.lines }

-- the name of a job is tested by its customer and number
pub name_is : (customer c : List ℕ) (number n : ℕ) → bytes_eq customer c && (number == n) ≡ true → (customer ≡ c) × (number ≡ n)
name_is customer c number n h =
    let both = and_parts (bytes_eq customer c) (number == n) h in
    let same : number == n ≡ true = both.1 in
    ((bytes_eq-Decides customer c).0 both.0, grind (arith, nat_tests))

pub name_yes : (customer c : List ℕ) (number n : ℕ) → customer ≡ c → number ≡ n → bytes_eq customer c && (number == n) ≡ true
name_yes customer c number n same same_number =
    let one = (bytes_eq-Decides customer c).1 same in
    let two : number == n ≡ true = grind (arith, nat_tests) in
    rw (one, two)

pub all_push : {X : Type 0} (P : X → Type 0) (xs : List X) (x : X) → AllByRecursion P xs → P x → AllByRecursion P (xs ++ x ∷ [])
all_push P [] x all here = (here, tt)
all_push P (y ∷ xs) x all here = (all.0, all_push P xs x all.1 here)

free_of : (job first : NamedJob) (jobs : List NamedJob) → job_named job.customer job.number (first ∷ jobs) ≡ None → (is_job first.customer first.number job ≡ false) × (job_named job.customer job.number jobs ≡ None)
free_of job first jobs none = elim (cases_Bool (is_job job.customer job.number first)) [
  | inl found ↦ absurd (let e = rw found at none in cc)
  | inr lost ↦ (
    elim (cases_Bool (is_job first.customer first.number job)) [
      | inl same ↦ let key = name_is job.customer first.customer job.number first.number same in absurd (true≢false (sym (name_yes first.customer job.customer first.number job.number (sym key.0) (sym key.1)) ∙ lost))
      | inr other ↦ other
    ],
    rw lost at none,
  )
]

-- a job whose name is free goes to the end
pub distinct_with : (job : NamedJob) (jobs : List NamedJob) → AreDistinct jobs → job_named job.customer job.number jobs ≡ None → AreDistinct (jobs ++ job ∷ [])
distinct_with job [] distinct none = (tt, tt)
distinct_with job (first ∷ jobs) distinct none =
    let free = free_of job first jobs none in
    (all_push (λ b. is_job first.customer first.number b ≡ false) jobs job distinct.0 free.0, distinct_with job jobs distinct.1 free.1)

placed_more : {X : Type 0} (row : ℕ → X → Row) (first : ℕ) (xs : List X) (x : X) → placed row first (xs ++ x ∷ []) ≡ placed row first xs ++ row (first + length xs) x ∷ []
placed_more row first [] x = ap (λ n. let rows : List Row = row n x ∷ [] in rows) (omega arith)
placed_more row first (y ∷ xs) x = ap (λ rows. row first y ∷ rows) (placed_more row (first + 1) xs x ∙ ap (λ n. placed row (first + 1) xs ++ row n x ∷ []) (omega arith))

-- the rows of each job after one more for this one
pub placed_behind : {X : Type 0} (row : List ℕ → ℕ → ℕ → X → Row) (first : ℕ) (customer : List ℕ) (number place : ℕ) (x : X) (all : ByJob (List X)) → place ≡ first + length (all customer number)
    → (c : List ℕ) (n : ℕ) → placed (row c n) first (all c n) ++ (if bytes_eq customer c && (number == n) then row customer number place x ∷ [] else []) ≡ placed (row c n) first (at_job customer number (all customer number ++ x ∷ []) all c n)
placed_behind row first customer number place x all at c n = go (bytes_eq customer c && (number == n)) refl
  where
    go : (b : Bool) → bytes_eq customer c && (number == n) ≡ b
        → placed (row c n) first (all c n) ++ (if b then row customer number place x ∷ [] else []) ≡ placed (row c n) first (if b then all customer number ++ x ∷ [] else all c n)
    go true here =
        let name = name_is customer c number n here in
        rw (sym name.0, sym name.1, at) (sym (placed_more (row customer number) first (all customer number) x))
    go false other = append-nil (placed (row c n) first (all c n))

pub one_behind : {X : Type 0} (row : List ℕ → ℕ → X → Row) (customer : List ℕ) (number : ℕ) (it : X) (all : ByJob (Option X)) → all customer number ≡ None
    → (c : List ℕ) (n : ℕ) → map (row c n) (option_to_list (all c n)) ++ (if bytes_eq customer c && (number == n) then row customer number it ∷ [] else []) ≡ map (row c n) (option_to_list (at_job customer number (Some it) all c n))
one_behind {X} row customer number it all none c n = go (bytes_eq customer c && (number == n)) refl
  where
    go : (b : Bool) → bytes_eq customer c && (number == n) ≡ b
        → map (row c n) (option_to_list (all c n)) ++ (if b then row customer number it ∷ [] else []) ≡ map (row c n) (option_to_list (if b then Some it else all c n))
    go true here =
        let name = name_is customer c number n here in
        rw (sym name.0, sym name.1, none)
    go false other = append-nil (map (row c n) (option_to_list (all c n)))

-- a row of this job goes behind the rows of its table
pub row_behind : (customer : List ℕ) (number : ℕ) (rest : Row) (rows : List Row) (before after : ByJob (List Row)) → IsOf rows before
    → ((c : List ℕ) (n : ℕ) → before c n ++ (if bytes_eq customer c && (number == n) then (Text customer ∷ Int (pos number) ∷ rest) ∷ [] else []) ≡ after c n)
    → IsOf (put_row (Int (next_rowid rows) ∷ Text customer ∷ Int (pos number) ∷ rest) rows) after
row_behind customer number rest rows before after is more =
    let row : Row = Text customer ∷ Int (pos number) ∷ rest in
    let now = next_cells row rows is.rise in
    record {
      each = λ c n. ap (filter (is_row_of c n)) now ∙ filter-append (is_row_of c n) (cells rows) (row ∷ []) ∙ ap (λ xs. xs ++ filter (is_row_of c n) (row ∷ [])) (is.each c n) ∙ more c n;
      named = subst (AllByRecursion NamesJob) (sym now) (all_push NamesJob (cells rows) row is.named (customer, number, refl, refl));
      rise = next_shaped row rows is.rise;
    }
