-- The rows of each table are those of each job.
use Rattle.std.proofs.Common.{◌≡◌, ◌<◌, ◌+◌, ◌++◌, ℕ, pos, List, [], ◌∷◌, map, filter, length, get_or, Bool, true, false, cond, ◌==◌, bytes_eq, Option, Some, None, All, refl, sym, ap, subst, ◌∙◌, arith}
use Rattle.std.specs.List.{AllByRecursion}
use Rattle.std.specs.List.Sorted.{IsPermutation}
use Rattle.std.specs.Option.{option_map, option_to_list}
use Rattle.std.proofs.lemmas.Bool.{and_parts}
use Rattle.std.proofs.lemmas.Bool.Decides.{nat_tests}
use Rattle.std.proofs.lemmas.List.Elements.{filter-append}
use Rattle.std.proofs.lemmas.List.Sorted.{IsPermutation-sym}
use Rattle.sqlite_keyed.proofs.ListLemmas.{IsPermutation-filter}
use Rattle.office.specs.Jobs.{Job}
use Rattle.office.specs.Office.{Entry, Office, entry_of, is_entry, job_of}
use Rattle.sqlite.specs.declared.types.Value.TheVariants.{Int, Text}
use Rattle.sqlite.specs.Order.{Row, column}
use Rattle.sqlite.specs.View.{IsShaped}
use Rattle.sqlite_trees.specs.declared.store.Shape.TheVariants.{Table}
use Rattle.ledger_tables.specs.Tables.{cells, has_customer, has_number, is_row_at, is_row_of, IsOf, IsOfEach, IsOne, NamesJob}
use Rattle.ledger_tables.proofs.LookupKeys.{at_most_one, key_is}
use Rattle.job_checks.specs.Kept.{IsOwned}
use Rattle.job_checks.specs.Tables.{placed_some, rows_of}
use Rattle.job_checks.proofs.AmongLemmas.{IsAmong, all_among, from_among, among_filter, found_among, none_found, contained, filter_within, none_pass}
use Rattle.job_checks.proofs.OfficeLemmas.{row_in_jobs}
use Rattle.job_checks.proofs.ReportLemmas.{append_none}
use Rattle.job_checks.proofs.RowLemmas.{all_of}
use Rattle.sqlite_trees.proofs.ListLemmas.{all-get_or}
use Rattle.std.proofs.lemmas.List.Sorted.{All-permutation}
use Rattle.std.proofs.lemmas.Slice.Eq.{bytes_eq-Decides}

pub same_bytes : (bytes : List ℕ) → bytes_eq bytes bytes ≡ true
same_bytes bytes = (bytes_eq-Decides bytes bytes).1 refl

pub same_number : (n : ℕ) → (n == n) ≡ true
same_number n = grind (arith, nat_tests)

itself : (e : Entry) → is_entry e.customer e.number e ≡ true
itself e = rw (same_bytes e.customer, same_number e.number) refl

pub permuted_all : {X : Type 0} (P : X → Type 0) (xs ys : List X) → IsPermutation xs ys → AllByRecursion P xs → AllByRecursion P ys
permuted_all P xs ys same all =
    let each : All P ys = All-permutation P xs ys same (λ k d less. all-get_or P xs k d all less) in
    all_of P ys (λ k d less. each k d less)

-- the entry of the job that a row names
pub record Owner (office : Office) (it : Row) : Type 0 where
  pub entry : Entry
  pub among : IsAmong entry office
  pub customer : column it 0 ≡ Text entry.customer
  pub number : column it 1 ≡ Int (pos entry.number)

-- a row is of a job if its owner has this name
of_owner : (office : Office) (it : Row) (owner : Owner office it) (customer : List ℕ) (number : ℕ) → is_row_of customer number it ≡ is_entry customer number owner.entry
of_owner office it owner customer number = rw (owner.customer, owner.number)

module _ (office : Office) (jobs : List Row) (jobs_are : jobs ≡ map row_in_jobs office) where
  owner_of : (it : Row) → IsOwned jobs it → Owner office it
  owner_of it own =
      let there = contained row_in_jobs office own.1.0 own.0 (subst (λ xs. own.1.0 < length xs) jobs_are own.1.1) in
      let is : own.0 ≡ row_in_jobs there.0 = sym own.1.2 ∙ ap (λ xs. get_or xs own.1.0 own.0) jobs_are ∙ there.2 in
      record {
        entry = there.0;
        among = there.1;
        customer = sym own.2 ∙ ap (λ r. column r 0) is;
        number = sym own.3 ∙ ap (λ r. column r 1) is;
      }

  none_of : (customer : List ℕ) (number : ℕ) (rows : List Row) → AllByRecursion (IsOwned jobs) rows → entry_of customer number office ≡ None → rows_of customer number rows ≡ []
  none_of customer number rows owned none =
      none_pass (is_row_of customer number) rows (from_among (λ r. is_row_of customer number r ≡ false) rows (λ r among.
      let owner = owner_of r (all_among (IsOwned jobs) r rows owned among) in
      of_owner office r owner customer number ∙ none_found (is_entry customer number) owner.entry office none owner.among))

  names_job : (rows : List Row) → AllByRecursion (IsOwned jobs) rows → AllByRecursion NamesJob rows
  names_job [] owned = tt
  names_job (r ∷ rows) owned = let owner = owner_of r owned.0 in ((owner.entry.customer, owner.entry.number, owner.customer, owner.number), names_job rows owned.1)

  module _ (rows : List Row) (wanted : List ℕ → ℕ → Option Job → List Row) (nothing : (customer : List ℕ) (number : ℕ) → wanted customer number None ≡ [])
      (owned : AllByRecursion (IsOwned jobs) (cells rows)) (kept : AllByRecursion (λ (e : Entry). rows_of e.customer e.number (cells rows) ≡ wanted e.customer e.number (Some e.job)) office) where
    each_of : (customer : List ℕ) (number : ℕ) (o : Option Entry) → entry_of customer number office ≡ o → rows_of customer number (cells rows) ≡ wanted customer number (option_map (λ (e : Entry). e.job) o)
    each_of customer number None is = none_of customer number (cells rows) owned is ∙ sym (nothing customer number)
    each_of customer number (Some e) is =
        let found = found_among (is_entry customer number) e office is in
        let key = key_is customer number e.customer e.number found.1 in
        ap (λ c. rows_of c number (cells rows)) (sym key.0) ∙ ap (λ n. rows_of e.customer n (cells rows)) (sym key.1)
        ∙ all_among (λ (e : Entry). rows_of e.customer e.number (cells rows) ≡ wanted e.customer e.number (Some e.job)) e office kept found.0
        ∙ ap (λ c. wanted c e.number (Some e.job)) key.0 ∙ ap (λ n. wanted customer n (Some e.job)) key.1

    pub is_of : IsShaped Table rows → IsOf rows (λ customer number. wanted customer number (job_of customer number office))
    is_of shaped = record {
      each = λ customer number. each_of customer number (entry_of customer number office) refl;
      named = names_job (cells rows) owned;
      rise = shaped;
    }

-- ---- things of pages and of cards

-- what is kept at a place, of things with places that rise by one from the first
abbrev pub thing_at : {X Y : Type 0} → (X → Option Y) → ℕ → List X → ℕ → Option Y
thing_at cell first [] place = None
thing_at cell first (x ∷ xs) place = cond (first == place) (cell x) (thing_at cell (first + 1) xs place)

module _ {X Y : Type 0} (cell : X → Option Y) (row : List ℕ → ℕ → ℕ → Y → Row) (customer : List ℕ) (number : ℕ)
    (keyed : (place k : ℕ) (y : Y) → is_row_at customer number place (row customer number k y) ≡ (k == place)) where
  of_one : (place k : ℕ) (o : Option Y) (b : Bool) → (k == place) ≡ b → filter (is_row_at customer number place) (map (row customer number k) (option_to_list o)) ≡ cond b (map (row customer number k) (option_to_list o)) []
  of_one place k None true is = refl
  of_one place k None false is = refl
  of_one place k (Some y) true is = rw (keyed place k y, is)
  of_one place k (Some y) false is = rw (keyed place k y, is)

  other : (place k : ℕ) → place < k → (k == place) ≡ false
  other place k less = grind (arith, nat_tests, less)

  after : (place first : ℕ) (xs : List X) → place < first → filter (is_row_at customer number place) (placed_some cell (row customer number) first xs) ≡ []
  after place first [] less = refl
  after place first (x ∷ xs) less =
      filter-append (is_row_at customer number place) (map (row customer number first) (option_to_list (cell x))) (placed_some cell (row customer number) (first + 1) xs)
      ∙ ap (λ l. l ++ filter (is_row_at customer number place) (placed_some cell (row customer number) (first + 1) xs)) (of_one place first (cell x) false (other place first less))
      ∙ after place (first + 1) xs (omega (arith, less))

  pub at_places : (place first : ℕ) (xs : List X) → filter (is_row_at customer number place) (placed_some cell (row customer number) first xs) ≡ map (row customer number place) (option_to_list (thing_at cell first xs place))
  at_places place first [] = refl
  at_places place first (x ∷ xs) =
      filter-append (is_row_at customer number place) (map (row customer number first) (option_to_list (cell x))) (placed_some cell (row customer number) (first + 1) xs)
      ∙ go (first == place) refl (at_places place (first + 1) xs)
    where
      here : List Row
      here = filter (is_row_at customer number place) (map (row customer number first) (option_to_list (cell x)))

      rest : List Row
      rest = filter (is_row_at customer number place) (placed_some cell (row customer number) (first + 1) xs)

      go : (b : Bool) → (first == place) ≡ b → rest ≡ map (row customer number place) (option_to_list (thing_at cell (first + 1) xs place)) → here ++ rest ≡ map (row customer number place) (option_to_list (cond (first == place) (cell x) (thing_at cell (first + 1) xs place)))
      go true is others =
          let same : first ≡ place = grind (arith, nat_tests, is) in
          ap (λ l. l ++ rest) (of_one place first (cell x) true is) ∙ ap (λ l. map (row customer number first) (option_to_list (cell x)) ++ l) (after place (first + 1) xs (omega (arith, same)))
          ∙ append_none (map (row customer number first) (option_to_list (cell x))) ∙ ap (λ k. map (row customer number k) (option_to_list (cell x))) same
          ∙ sym (ap (λ b. map (row customer number place) (option_to_list (cond b (cell x) (thing_at cell (first + 1) xs place)))) is)
      go false is others =
          ap (λ l. l ++ rest) (of_one place first (cell x) false is) ∙ others
          ∙ sym (ap (λ b. map (row customer number place) (option_to_list (cond b (cell x) (thing_at cell (first + 1) xs place)))) is)

  one_each : (k : ℕ) (o : Option Y) (more : List Row) → AllByRecursion (IsOne row) more → AllByRecursion (IsOne row) (map (row customer number k) (option_to_list o) ++ more)
  one_each k None more all = all
  one_each k (Some y) more all = ((customer, number, k, y, refl), all)

  pub are_ones : (first : ℕ) (xs : List X) → AllByRecursion (IsOne row) (placed_some cell (row customer number) first xs)
  are_ones first [] = tt
  are_ones first (x ∷ xs) = one_each first (cell x) _ (are_ones (first + 1) xs)

pub at_is_of : (customer : List ℕ) (number place : ℕ) (r : Row) → is_row_at customer number place r ≡ true → is_row_of customer number r ≡ true
at_is_of customer number place r is =
    let one = and_parts (has_customer customer (column r 0)) _ is in
    let two = and_parts (has_number number (column r 1)) (has_number place (column r 2)) one.1 in
    rw (one.0, two.0)

module _ (office : Office) (jobs : List Row) (jobs_are : jobs ≡ map row_in_jobs office) {Y : Type 0} (row : List ℕ → ℕ → ℕ → Y → Row) (rows found : List Row) (same : IsPermutation (cells rows) found)
    (things : Option Job → ℕ → Option Y) (nothing : (place : ℕ) → things None place ≡ None) (owned : AllByRecursion (IsOwned jobs) found)
    (kept : AllByRecursion (λ (e : Entry). (place : ℕ) → filter (is_row_at e.customer e.number place) found ≡ map (row e.customer e.number place) (option_to_list (things (Some e.job) place))) office)
    (ones : AllByRecursion (λ (e : Entry). AllByRecursion (IsOne row) (rows_of e.customer e.number found)) office) where
  found_at : (customer : List ℕ) (number place : ℕ) (o : Option Entry) → entry_of customer number office ≡ o → filter (is_row_at customer number place) found ≡ map (row customer number place) (option_to_list (things (option_map (λ (e : Entry). e.job) o) place))
  found_at customer number place None is =
      filter_within (is_row_at customer number place) (is_row_of customer number) (at_is_of customer number place) found
      ∙ ap (filter (is_row_at customer number place)) (none_of office jobs jobs_are customer number found owned is)
      ∙ sym (ap (λ o. map (row customer number place) (option_to_list o)) (nothing place))
  found_at customer number place (Some e) is =
      let it = found_among (is_entry customer number) e office is in
      let key = key_is customer number e.customer e.number it.1 in
      ap (λ c. filter (is_row_at c number place) found) (sym key.0) ∙ ap (λ n. filter (is_row_at e.customer n place) found) (sym key.1)
      ∙ all_among (λ (e : Entry). (place : ℕ) → filter (is_row_at e.customer e.number place) found ≡ map (row e.customer e.number place) (option_to_list (things (Some e.job) place))) e office kept it.0 place
      ∙ ap (λ c. map (row c e.number place) (option_to_list (things (Some e.job) place))) key.0 ∙ ap (λ n. map (row customer n place) (option_to_list (things (Some e.job) place))) key.1

  each_at : (customer : List ℕ) (number place : ℕ) → filter (is_row_at customer number place) (cells rows) ≡ map (row customer number place) (option_to_list (things (job_of customer number office) place))
  each_at customer number place =
      let here = found_at customer number place (entry_of customer number office) refl in
      let back = IsPermutation-sym _ _ (IsPermutation-filter (is_row_at customer number place) (cells rows) found same) in
      at_most_one (row customer number place) (things (job_of customer number office) place) _ (subst (λ xs. IsPermutation xs (filter (is_row_at customer number place) (cells rows))) here back)

  is_one : (r : Row) → IsAmong r found → IsOne row r
  is_one r among =
      let owner = owner_of office jobs jobs_are r (all_among (IsOwned jobs) r found owned among) in
      let e = owner.entry in
      let of : is_row_of e.customer e.number r ≡ true = of_owner office r owner e.customer e.number ∙ itself e in
      all_among (IsOne row) r (rows_of e.customer e.number found)
      (all_among (λ (e : Entry). AllByRecursion (IsOne row) (rows_of e.customer e.number found)) e office ones owner.among)
      (among_filter (is_row_of e.customer e.number) r found among of)

  pub is_of_each : IsShaped Table rows → IsOfEach row rows (λ customer number. things (job_of customer number office))
  is_of_each shaped = record {
    each = each_at;
    named = permuted_all (IsOne row) found (cells rows) (IsPermutation-sym _ _ same) (from_among (IsOne row) found is_one);
    rise = shaped;
  }
