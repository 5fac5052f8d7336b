-- The lists of the tables are those of the office.
use Rattle.std.proofs.Common.{true≢false, ◌≡◌, ◌+◌, ◌<◌, ℕ, zero, suc, List, [], ◌∷◌, ◌++◌, length, map, filter, take, get_or, Bool, true, false, not, bytes_eq, if◌then◌else◌, Option, Some, None, Contains, refl, sym, ap, subst, ◌∙◌, arith}
use Rattle.std.specs.List.{AllByRecursion}
use Rattle.std.specs.Option.{option_map}
use Rattle.std.specs.Cmp.{IsTotalOrder}
use Rattle.std.specs.List.Sorted.{IsStrictlySortedBy}
use Rattle.std.specs.Ordering.{is_eq}
use Rattle.std.proofs.lemmas.Cmp.{on_total}
use Rattle.std.proofs.lemmas.List.Elements.{All-contains, All-contains_itself, All-from_recursion, recursion_from_All}
use Rattle.std.proofs.lemmas.List.Sorted.{All-permutation, IsPermutation-sym}
use Rattle.core_store.specs.declared.checks.Check.TheVariants.{Address, Instruction, Data, Overlap, ReaderEmpty, PunchFull, PrinterFull}
use Rattle.std.proofs.lemmas.List.{map-append}
use Rattle.std.proofs.lemmas.Slice.Eq.{bytes_eq-Decides}
use Rattle.machine.specs.Run.{is_running}
use Rattle.machine.specs.declared.standings.Standing.{Standing}
use Rattle.machine.specs.declared.standings.Standing.TheVariants as standing
use Rattle.office.specs.Jobs.{Job, picture}
use Rattle.office.specs.Office.{Entry, Office, is_entry, job_of, own, free_jobs, by_number, by_name, queued_job, runs}
use Rattle.bcd.specs.Orders.{in_order}
use Rattle.bcd.proofs.Orders.{AreApart, all_map, all_ordered, all_weaker, apart_kept, filter_in_order, in_order_has, in_order_rises, rises_map, rises_once}
use Rattle.office.specs.Queued.{QueuedJob}
use Rattle.machine.specs.Numbers.{standing_number}
use Rattle.ledger_rows.specs.Columns.{state_row, truth}
use Rattle.ledger_tables.proofs.InsertLast.{name_is, name_yes}
use Rattle.ledger_tables.proofs.LookupOrder.{in_order-map}
use Rattle.ledger_tables.proofs.RunningLookups.{name_total, same_names}
use Rattle.ledger_tables.specs.Cells.{LoadedCells, QueuedName}
use Rattle.ledger_tables.specs.Listed.{AreRunning, IsRunning, loaded_row, name_row, names_of, queued_name}
use Rattle.ledger_tables.specs.Listed as listed
use Rattle.ledger_tables.specs.Tables.{NamedJob, AreDistinct, is_job, job_named}
use Rattle.ledger_tables.specs.declared.rows.StateRow.{StateRow}
use Rattle.ledger.specs.Listed.{IsHis, IsIts}
use Rattle.office_tables.specs.Standing.{named, state_of, tables_of}
use Rattle.ledger.proofs.Offices.{part_found}
use Rattle.office_tables.proofs.ReadingLemmas.{some_is}

-- ---- what holds of all of a list

module _ {X : Type 0} (P : X → Type 0) where
  pub all_filtered : (Q : X → Type 0) (test : X → Bool) → ((x : X) → P x → test x ≡ true → Q x) → (xs : List X) → AllByRecursion P xs → AllByRecursion Q (filter test xs)
  all_filtered Q test so [] all = tt
  all_filtered Q test so (x ∷ xs) all = go (test x) refl (all_filtered Q test so xs all.1)
    where
      go : (b : Bool) → test x ≡ b → AllByRecursion Q (filter test xs) → AllByRecursion Q (if b then x ∷ filter test xs else filter test xs)
      go true is rest = (so x all.0 is, rest)
      go false is rest = rest

filter_both : {X : Type 0} (p q : X → Bool) (xs : List X) → filter p (filter q xs) ≡ filter q (filter p xs)
filter_both p q [] = refl
filter_both p q (x ∷ xs) = go (p x) refl (q x) refl (filter_both p q xs)
  where
    go : (b : Bool) → p x ≡ b → (d : Bool) → q x ≡ d → filter p (filter q xs) ≡ filter q (filter p xs) → filter p (filter q (x ∷ xs)) ≡ filter q (filter p (x ∷ xs))
    go true one true two rest = rw (two, one) (rw two (ap (λ ys. x ∷ ys) rest))
    go true one false two rest = rw (two, one) (rw two rest)
    go false one true two rest = rw (two, one) rest
    go false one false two rest = rw (two, one) rest

filter-map : {X Y : Type 0} (test : Y → Bool) (f : X → Y) (xs : List X) → filter test (map f xs) ≡ map f (filter (λ x. test (f x)) xs)
filter-map test f [] = refl
filter-map test f (x ∷ xs) = go (test (f x)) (filter-map test f xs)
  where
    go : (b : Bool) → filter test (map f xs) ≡ map f (filter (λ x. test (f x)) xs) → (if b then f x ∷ filter test (map f xs) else filter test (map f xs)) ≡ map f (if b then x ∷ filter (λ x. test (f x)) xs else filter (λ x. test (f x)) xs)
    go true rest = ap (λ ys. f x ∷ ys) rest
    go false rest = rest

map-map : {X Y Z : Type 0} (g : Y → Z) (f : X → Y) (xs : List X) → map g (map f xs) ≡ map (λ x. g (f x)) xs
map-map g f [] = refl
map-map g f (x ∷ xs) = ap (λ zs. g (f x) ∷ zs) (map-map g f xs)

-- ---- the entries of an office are found by their names

behind : (first : Entry) (office rest : Office) → AllByRecursion (λ b. is_job first.customer first.number b ≡ false) (map named rest) → AllByRecursion (IsIts office) rest → AllByRecursion (IsIts (first ∷ office)) rest
behind first office [] others all = tt
behind first office (e ∷ rest) others all = (go (is_entry e.customer e.number first) refl, behind first office rest others.1 all.1)
  where
    go : (b : Bool) → is_entry e.customer e.number first ≡ b → job_of e.customer e.number (first ∷ office) ≡ Some e.job
    go true this =
        let name = name_is first.customer e.customer first.number e.number this in
        absurd (true≢false (sym (name_yes e.customer first.customer e.number first.number (sym name.0) (sym name.1)) ∙ others.0))
    go false other = rw other all.0

pub all_its : (office : Office) → AreDistinct (map named office) → AllByRecursion (IsIts office) office
all_its [] distinct = tt
all_its (e ∷ office) distinct = (rw (name_yes e.customer e.customer e.number e.number refl refl), behind e office office distinct.0 (all_its office distinct.1))

-- the jobs of a customer, in order, are that customer's
pub all_his : (customer : List ℕ) (office : Office) → AreDistinct (map named office) → AllByRecursion (IsHis customer office) (in_order by_number (own customer office))
all_his customer office distinct =
    all_ordered by_number (IsHis customer office) (own customer office)
    (all_filtered (IsIts office) (IsHis customer office) (λ e. bytes_eq e.customer customer) (λ e its is. subst (λ c. job_of c e.number office ≡ Some e.job) ((bytes_eq-Decides e.customer customer).0 is) its) office (all_its office distinct))

-- the jobs that run, in order, are found by their names
pub all_running : (office : Office) → AreDistinct (map named office) → AllByRecursion (IsIts office) (in_order by_name (filter runs office))
all_running office distinct =
    all_ordered by_name (IsIts office) (filter runs office)
    (all_filtered (IsIts office) (IsIts office) runs (λ e its is. its) office (all_its office distinct))

-- ---- the order

-- the names of a customer's jobs are those of the office
pub names_told : (customer : List ℕ) (office : Office) → names_of customer (map named office) ≡ map (λ (e : Entry). name_row (named e)) (in_order by_number (own customer office))
names_told customer office =
    let his : NamedJob → Bool = λ it. bytes_eq it.customer customer in
    ap (λ js. map name_row (in_order listed.by_number js)) (filter-map his named office)
    ∙ ap (map name_row) (in_order-map listed.by_number named (own customer office))
    ∙ map-map name_row named (in_order by_number (own customer office))

-- ---- the names of the jobs that run

-- the name in an entry
abbrev name_of : Entry → QueuedName
name_of e = queued_name (named e)

-- no two jobs of an office tie
apart_from : (e : Entry) (office : Office) → AllByRecursion (λ b. is_job e.customer e.number b ≡ false) (map named office) → AllByRecursion (λ b. is_eq (by_name e b) ≡ false) office
apart_from e [] others = tt
apart_from e (b ∷ office) others = (go (is_eq (by_name e b)) refl, apart_from e office others.1)
  where
    go : (o : Bool) → is_eq (by_name e b) ≡ o → o ≡ false
    go true tie =
        let name = same_names (name_of e) (name_of b) tie in
        absurd (true≢false (sym (name_yes b.customer e.customer b.number e.number name.0 name.1) ∙ others.0))
    go false other = refl

all_apart : (office : Office) → AreDistinct (map named office) → AreApart by_name office
all_apart [] distinct = tt
all_apart (e ∷ office) distinct = (apart_from e office distinct.0, all_apart office distinct.1)

order_total : IsTotalOrder by_name
order_total = on_total name_of name_total

-- the names of the jobs that run, in order, rise
running_rise : (office : Office) → AreDistinct (map named office) → IsStrictlySortedBy listed.by_name (map name_of (in_order by_name (filter runs office)))
running_rise office distinct = rises_map listed.by_name name_of (in_order by_name (filter runs office)) (in_order_rises by_name order_total (filter runs office) (apart_kept by_name runs office (all_apart office distinct)))

at_0 : (at : Standing) → standing_number at ≡ 0 → is_running at ≡ true
at_0 standing.Running is = refl
at_0 standing.Halted is = absurd (omega (arith, is))
at_0 (standing.Checked Address) is = absurd (omega (arith, is))
at_0 (standing.Checked Instruction) is = absurd (omega (arith, is))
at_0 (standing.Checked Data) is = absurd (omega (arith, is))
at_0 (standing.Checked Overlap) is = absurd (omega (arith, is))
at_0 (standing.Checked ReaderEmpty) is = absurd (omega (arith, is))
at_0 (standing.Checked PunchFull) is = absurd (omega (arith, is))
at_0 (standing.Checked PrinterFull) is = absurd (omega (arith, is))

running_at : (at : Standing) → is_running at ≡ true → standing_number at ≡ 0
running_at standing.Running is = refl
running_at standing.Halted is = absurd (true≢false (sym is))
running_at (standing.Checked check) is = absurd (true≢false (sym is))

-- the machine of a job is running where its state's row says so
job_running : (o : Option Job) (state : StateRow) → state_of o ≡ Some state → state.standing ≡ 0 → (job : Job) × (o ≡ Some job) × (is_running (picture job).standing ≡ true)
job_running None state is zero_is = absurd (let e = is in cc)
job_running (Some job) state is zero_is =
    let row : state_row (picture job) ≡ state = some_is is in
    (job, refl, at_0 (picture job).standing (ap (λ (s : StateRow). s.standing) row ∙ zero_is))

module _ (Q : List ℕ → ℕ → Type 0) where
  running_job : (office : Office) → AllByRecursion (λ (e : Entry). runs e ≡ true → Q e.customer e.number) office
      → (customer : List ℕ) (number : ℕ) (job : Job) → job_of customer number office ≡ Some job → is_running (picture job).standing ≡ true → Q customer number
  running_job [] all customer number job here running = absurd (let e = here in cc)
  running_job (e ∷ office) all customer number job here running = go (is_entry customer number e) refl (running_job office all.1 customer number job)
    where
      go : (b : Bool) → is_entry customer number e ≡ b → (job_of customer number office ≡ Some job → is_running (picture job).standing ≡ true → Q customer number) → Q customer number
      go true this rest =
          let name = name_is e.customer customer e.number number this in
          let found : Some e.job ≡ Some job = rw this at here in
          let same : e.job ≡ job = some_is found in
          let it : Q e.customer e.number = all.0 (ap (λ (j : Job). is_running (picture j).standing) same ∙ running) in
          subst (λ n. Q customer n) name.1 (subst (λ c. Q c e.number) name.0 it)
      go false other rest = rest (rw other at here) running

  -- what holds of the name of each job that runs holds of each that the tables have as running
  pub each_running : (office : Office) → AllByRecursion (λ (e : Entry). runs e ≡ true → Q e.customer e.number) office → (customer : List ℕ) (number : ℕ) → IsRunning (tables_of office) customer number → Q customer number
  each_running office all customer number h =
      let it = job_running (job_of customer number office) h.0 h.1 h.2 in
      running_job office all customer number it.0 it.1 it.2

unfiltered : {X : Type 0} (P : X → Type 0) (test : X → Bool) (xs : List X) → AllByRecursion P (filter test xs) → AllByRecursion (λ x. test x ≡ true → P x) xs
unfiltered P test [] all = tt
unfiltered P test (x ∷ xs) all = go (test x) refl (unfiltered P test xs)
  where
    go : (b : Bool) → test x ≡ b → (AllByRecursion P (filter test xs) → AllByRecursion (λ x. test x ≡ true → P x) xs) → AllByRecursion (λ x. test x ≡ true → P x) (x ∷ xs)
    go true this rest = let both : P x × AllByRecursion P (filter test xs) = rw this at all in (λ is. both.0, rest both.1)
    go false this rest = (λ is. absurd (true≢false (sym is ∙ this)), rest (rw this at all))

unmapped : {X Y : Type 0} (P : Y → Type 0) (f : X → Y) (xs : List X) → AllByRecursion P (map f xs) → AllByRecursion (λ x. P (f x)) xs
unmapped P f [] all = tt
unmapped P f (x ∷ xs) all = (all.0, unmapped P f xs all.1)

-- the name of each job that runs is among them
names_in : (office : Office) → AllByRecursion (λ (e : Entry). runs e ≡ true → Contains (map name_of (in_order by_name (filter runs office))) (name_of e)) office
names_in office =
    let entries = in_order by_name (filter runs office) in
    let P : Entry → Type 0 = λ e. Contains (map name_of entries) (name_of e) in
    let ordered : AllByRecursion P entries = unmapped (Contains (map name_of entries)) name_of entries (recursion_from_All (Contains (map name_of entries)) (map name_of entries) (All-contains_itself (map name_of entries))) in
    let all = All-permutation P entries (filter runs office) (IsPermutation-sym (filter runs office) entries (in_order_has by_name (filter runs office))) (All-from_recursion P entries ordered) in
    unfiltered P runs office (recursion_from_All P (filter runs office) all)

is_told : (e : Entry) (office : Office) → IsIts office e → runs e ≡ true → IsRunning (tables_of office) e.customer e.number
is_told e office its running = (state_row (picture e.job), ap state_of its, running_at (picture e.job).standing running)

told_in_order : (office : Office) → AreDistinct (map named office) → AllByRecursion (λ (e : Entry). IsRunning (tables_of office) e.customer e.number) (in_order by_name (filter runs office))
told_in_order office distinct =
    all_ordered by_name (λ (e : Entry). IsRunning (tables_of office) e.customer e.number) (filter runs office)
    (all_filtered (IsIts office) (λ (e : Entry). IsRunning (tables_of office) e.customer e.number) runs (λ e its is. is_told e office its is) office (all_its office distinct))

-- the names that the tables have as running are those of the office's jobs that run, in order
pub running_told : (office : Office) → AreDistinct (map named office) → (found : List QueuedName) → AreRunning found (tables_of office) → found ≡ map name_of (in_order by_name (filter runs office))
running_told office distinct found are =
    let entries = in_order by_name (filter runs office) in
    let told = told_in_order office distinct in
    let back : AllByRecursion (Contains found) (map name_of entries) = all_map (Contains found) name_of entries (all_weaker (λ (e : Entry). IsRunning (tables_of office) e.customer e.number) (λ (e : Entry). Contains found (name_of e)) (λ e h. are.all e.customer e.number h) entries told) in
    rises_once listed.by_name name_total found (map name_of entries) are.in_order (running_rise office distinct)
    (λ z h. each_running (λ c n. Contains (map name_of entries) (record { customer = c; number = n })) office (names_in office) z.customer z.number (All-contains (λ (it : QueuedName). IsRunning (tables_of office) it.customer it.number) found z are.only h))
    (λ z h. All-contains (Contains found) (map name_of entries) z (All-from_recursion (Contains found) (map name_of entries) back) h)

-- the order in which the queue is filtered does not matter
pub free_running : (office : Office) → AreDistinct (map named office) → free_jobs (in_order by_name (filter runs office)) ≡ filter runs (in_order by_name (free_jobs office))
free_running office distinct =
    let free : Entry → Bool = λ e. not e.job.held in
    let apart = all_apart office distinct in
    filter_in_order by_name order_total free (filter runs office) (apart_kept by_name runs office apart)
    ∙ ap (in_order by_name) (filter_both free runs office)
    ∙ sym (filter_in_order by_name order_total runs (free_jobs office) (apart_kept by_name free office apart))

-- ---- one row after another

-- the thing whose row stands at a place
at_place : {X Y : Type 0} (f : X → Y) (P : X → Type 0) (xs : List X) (i : ℕ) (y : Y) → AllByRecursion P xs → i < length (map f xs) → y ≡ get_or (map f xs) i y → (x : X) × (y ≡ f x) × P x × (take (suc i) xs ≡ take i xs ++ x ∷ [])
at_place f P [] i y all within is = absurd (omega (arith, within))
at_place f P (x ∷ xs) zero y all within is = (x, is, all.0, refl)
at_place f P (x ∷ xs) (suc i) y all within is =
    let it = at_place f P xs i y all.1 (omega (arith, within)) is in
    (it.0, it.1, it.2, ap (λ zs. x ∷ zs) it.3)

pub at_row : {X Y : Type 0} (f : X → Y) (P : X → Type 0) (xs : List X) (rows : List Y) (i : ℕ) (y : Y) → rows ≡ map f xs → AllByRecursion P xs → i < length rows → y ≡ get_or rows i y → (x : X) × (y ≡ f x) × P x × (take (i + 1) xs ≡ take i xs ++ x ∷ [])
at_row f P xs rows i y is all within at =
    let it = at_place f P xs i y all (subst (λ r. i < length r) is within) (at ∙ ap (λ r. get_or r i y) is) in
    let next : i + 1 ≡ suc i = omega arith in
    (it.0, it.1, it.2, ap (λ n. take n xs) next ∙ it.3)

filter-append : {X : Type 0} (test : X → Bool) (xs ys : List X) → filter test (xs ++ ys) ≡ filter test xs ++ filter test ys
filter-append test [] ys = refl
filter-append test (x ∷ xs) ys = go (test x) (filter-append test xs ys)
  where
    go : (b : Bool) → filter test (xs ++ ys) ≡ filter test xs ++ filter test ys → (if b then x ∷ filter test (xs ++ ys) else filter test (xs ++ ys)) ≡ (if b then x ∷ filter test xs else filter test xs) ++ filter test ys
    go true rest = ap (λ zs. x ∷ zs) rest
    go false rest = rest

-- those that pass and one more, if it passes
pub passed_on : {X Y : Type 0} (f : X → Y) (test : X → Bool) (xs more : List X) (x : X) → more ≡ xs ++ x ∷ [] → map f (filter test more) ≡ map f (filter test xs) ++ map f (filter test (x ∷ []))
passed_on {X = X} f test xs more x is =
    ap (λ (zs : List X). map f (filter test zs)) is ∙ ap (map f) (filter-append test xs (x ∷ [])) ∙ map-append f (filter test xs) (filter test (x ∷ []))

-- ---- whether a job is held

-- the flag in the row of a job is the job's
pub held_told : (customer : List ℕ) (number : ℕ) (office : Office) (found : Option LoadedCells) (row : LoadedCells) → found ≡ option_map loaded_row (option_map (λ (j : NamedJob). j.cells) (job_named customer number (map named office))) → found ≡ Some row
    → (job : Job) → job_of customer number office ≡ Some job → row.held ≡ truth job.held
held_told customer number office found row told is job here =
    let it = part_found loaded_row customer number office found row told is in
    let same : it.0 ≡ job = some_is (sym it.1 ∙ here) in
    ap (λ (r : LoadedCells). r.held) it.2 ∙ ap (λ (j : Job). truth j.held) same

pub free_so : (e : Entry) (b : Bool) → e.job.held ≡ b → free_jobs (e ∷ []) ≡ (if b then [] else e ∷ [])
free_so e true is = rw is
free_so e false is = rw is

-- what is added to the queue is the entry's name
pub queued_is : (a : List ℕ) (n : ℕ) (e : Entry) → a ≡ e.customer → n ≡ e.number → ◌≡◌ {A = QueuedJob} (record { customer = a; number = n }) (queued_job e)
queued_is a n e one two = rw (one, two)
