-- What a table holds of each job of an office, and whose its rows are.
use Rattle.std.proofs.Common.{◌≡◌, ◌<◌, ◌≤◌, ℕ, zero, suc, pos, List, [], ◌∷◌, map, filter, Bool, true, false, ◌==◌, nat_lt, Contains, Option, Some, None, Greater, inl, inr, refl, sym, ap, subst, ◌∙◌, arith, true≢false}
use Rattle.std.specs.Cmp.{int_cmp_is}
use Rattle.std.specs.List.{AllByRecursion}
use Rattle.std.specs.List.Sorted.{IsPermutation}
use Rattle.std.specs.Option.{option_map, option_to_list}
use Rattle.std.proofs.lemmas.Bool.{and_parts}
use Rattle.std.proofs.lemmas.Bool.Decides.{nat_tests}
use Rattle.std.proofs.lemmas.Int.{ints}
use Rattle.sqlite_keyed.proofs.ListLemmas.{ascending-filter, IsPermutation-filter}
use Rattle.sqlite_value.proofs.OrderLemmas.{value_cmp-Int}
use Rattle.office.specs.Jobs.{Job}
use Rattle.office.specs.Office.{Entry, Office, IsFree, entry_of, is_entry, job_of}
use Rattle.office.specs.Office as office
use Rattle.sqlite.specs.declared.types.Value.{Value}
use Rattle.sqlite.specs.declared.types.Value.TheVariants.{Int, Text}
use Rattle.sqlite.specs.Order.{Row, column, value_cmp}
use Rattle.sqlite.specs.Tree.{IsAscending}
use Rattle.ledger_tables.specs.Tables.{cells, has_customer, has_number, is_job, is_row_at, is_row_of, AreDistinct, IsOf, IsOfEach, IsOne, NamesJob}
use Rattle.ledger_tables.proofs.LookupKeys.{at_most_one, key_is}
use Rattle.office_tables.specs.Standing.{named}
use Rattle.job_checks.specs.Kept.{IsOwned}
use Rattle.job_checks.specs.Tables.{placed_some, rows_of, RiseByPlace}
use Rattle.job_checks.proofs.AmongLemmas.{IsAmong, all_among, from_among, among_filter, found_among, filter_within}
use Rattle.job_checks.proofs.OfficeLemmas.{row_in_jobs}
use Rattle.job_checks.proofs.RisingLemmas.{all_passing, all_some, same_rising, some_rise, AreSameAt, IsPlaced}
use Rattle.job_checks.proofs.StandingLemmas.{at_is_of, at_places, permuted_all, same_bytes, same_number, thing_at}
use Rattle.job_checks.proofs.TableAnswers.{ascending_so}

-- ---- the entry of a name

-- each entry has its own name
itself : (e : Entry) → is_entry e.customer e.number e ≡ true
itself e = rw (same_bytes e.customer, same_number e.number) refl

-- of two entries each has the other's name or neither has
not_other : (a b : Entry) → is_entry a.customer a.number b ≡ false → is_entry b.customer b.number a ≡ false
not_other a b apart = go (is_entry b.customer b.number a) refl
  where
    go : (is : Bool) → is_entry b.customer b.number a ≡ is → is_entry b.customer b.number a ≡ false
    go false is = is
    go true is =
        let key = key_is b.customer b.number a.customer a.number is in
        let same : is_entry a.customer a.number b ≡ true = ap (λ c. is_entry c a.number b) key.0 ∙ ap (λ n. is_entry b.customer n b) key.1 ∙ itself b in
        absurd (true≢false (sym same ∙ apart))

-- where names are distinct, each entry is the one of its name
pub found_itself : (jobs : Office) → office.AreDistinct jobs → (e : Entry) → IsAmong e jobs → entry_of e.customer e.number jobs ≡ Some e
found_itself [] distinct e among = absurd among
found_itself (x ∷ jobs) distinct e (inl is) =
    let here : is_entry e.customer e.number x ≡ true = ap (is_entry e.customer e.number) (sym is) ∙ itself e in
    rw here (ap Some (sym is))
found_itself (x ∷ jobs) distinct e (inr more) =
    let other : is_entry e.customer e.number x ≡ false = not_other x e (all_among (λ b. is_entry x.customer x.number b ≡ false) e jobs distinct.0 more) in
    rw other (found_itself jobs distinct.1 e more)

-- a name that no row has is free
free_named : (customer : List ℕ) (number : ℕ) (jobs : Office) → AllByRecursion (λ b. is_job customer number b ≡ false) (map named jobs) → IsFree customer number jobs
free_named customer number [] free = tt
free_named customer number (e ∷ jobs) free = (free.0, free_named customer number jobs free.1)

-- jobs whose rows are distinct are so themselves
pub distinct_jobs : (jobs : Office) → AreDistinct (map named jobs) → office.AreDistinct jobs
distinct_jobs [] distinct = tt
distinct_jobs (e ∷ jobs) distinct = (free_named e.customer e.number jobs distinct.0, distinct_jobs jobs distinct.1)

-- ---- rows of things at places

-- the number of a page or of a place
abbrev pub number_in : Value → ℕ
number_in (Int (pos n)) = n
number_in _ = 0

-- the place of a row
abbrev pub place_in : Row → ℕ
place_in r = number_in (column r 2)

-- the place of the first is not past that of the second
abbrev pub IsNotPast : Row → Row → Type 0
IsNotPast a b = place_in a ≤ place_in b

-- among the rows of a job a row is found by its place
abbrev pub IsFoundAt : List ℕ → ℕ → Row → Type 0
IsFoundAt customer number = IsPlaced place_in (is_row_at customer number)

-- a row begins with its job's name and its place
pub record BeginsAs {Y : Type 0} (row : List ℕ → ℕ → ℕ → Y → Row) : Type 0 where
  pub customer : (customer : List ℕ) (number place : ℕ) (y : Y) → column (row customer number place y) 0 ≡ Text customer
  pub number : (customer : List ℕ) (number place : ℕ) (y : Y) → column (row customer number place y) 1 ≡ Int (pos number)
  pub place : (customer : List ℕ) (number place : ℕ) (y : Y) → column (row customer number place y) 2 ≡ Int (pos place)

-- a number that is not greater as a value
not_past : (m n : ℕ) → ¬ (value_cmp (Int (pos m)) (Int (pos n)) ≡ Greater) → m ≤ n
not_past m n up = go (nat_lt n m) refl
  where
    go : (b : Bool) → nat_lt n m ≡ b → m ≤ n
    go false is = grind (arith, nat_tests, is)
    go true is =
        let past : n < m = grind (arith, nat_tests, is) in
        absurd (up (value_cmp-Int (pos m) (pos n) ∙ sym (int_cmp_is (pos m) (pos n) Greater (omega (arith, ints, past)))))

module _ {Y : Type 0} (row : List ℕ → ℕ → ℕ → Y → Row) (begins : BeginsAs row) where
  -- the third column of a row
  third : (r : Row) (one : IsOne row r) → column r 2 ≡ Int (pos one.2)
  third r one = ap (λ (r : Row). column r 2) one.4 ∙ begins.place one.0 one.1 one.2 one.3

  -- where the third column is not greater, the place is not past
  rises : (a b : Row) → IsOne row a → IsOne row b → ¬ (value_cmp (column a 2) (column b 2) ≡ Greater) → IsNotPast a b
  rises a b one two up =
      let here = third a one in
      let there = third b two in
      rw (here, there) (not_past one.2 two.2 (rw (here, there) at up))

  -- a row is of its job
  of_job : (customer : List ℕ) (number place : ℕ) (y : Y) → is_row_of customer number (row customer number place y) ≡ true
  of_job customer number place y = rw (begins.customer customer number place y, begins.number customer number place y, same_bytes customer, same_number number) refl

  -- a row is at its place
  keyed : (customer : List ℕ) (number place k : ℕ) (y : Y) → is_row_at customer number place (row customer number k y) ≡ (k == place)
  keyed customer number place k y = rw (begins.customer customer number k y, begins.number customer number k y, begins.place customer number k y, same_bytes customer, same_number number) refl

  placed : (customer : List ℕ) (number : ℕ) (r : Row) → IsOne row r → is_row_of customer number r ≡ true → IsFoundAt customer number r
  placed customer number r one of k =
      let both = and_parts (has_customer customer (column r 0)) (has_number number (column r 1)) of in
      rw (both.0, both.1, third r one) refl

  -- rows of a job that rise by their places, with these things there, are the rows of these things
  module _ {X : Type 0} (cell : X → Option Y) (first : ℕ) (xs : List X) (customer : List ℕ) (number : ℕ) (found : List Row) (ones : AllByRecursion (IsOne row) found) (up : RiseByPlace found)
      (each : (place : ℕ) → filter (is_row_at customer number place) found ≡ map (row customer number place) (option_to_list (thing_at cell first xs place))) where
    abbrev made : List Row
    made = placed_some cell (row customer number) first xs

    -- the rows of both lists are found by their places
    found_placed : AllByRecursion (IsFoundAt customer number) (rows_of customer number found)
    found_placed = all_passing (IsOne row) (IsFoundAt customer number) (is_row_of customer number) (placed customer number) found ones

    made_placed : AllByRecursion (IsFoundAt customer number) made
    made_placed = all_some cell (row customer number) (IsFoundAt customer number) (λ k y. placed customer number (row customer number k y) (customer, number, k, y, refl) (of_job customer number k y)) first xs

    -- both lists rise
    found_rise : IsAscending IsNotPast (rows_of customer number found)
    found_rise = ascending-filter IsNotPast (is_row_of customer number) found (ascending_so (IsOne row) (λ a b. ¬ (value_cmp (column a 2) (column b 2) ≡ Greater)) IsNotPast rises found ones up)

    made_rise : IsAscending IsNotPast made
    made_rise = some_rise cell (row customer number) place_in (λ k y. ap number_in (begins.place customer number k y)) first xs

    -- both lists have the same at each place
    same_at : AreSameAt place_in (is_row_at customer number) (rows_of customer number found) made
    same_at k =
        sym (filter_within (is_row_at customer number k) (is_row_of customer number) (at_is_of customer number k) found)
        ∙ each k ∙ sym (at_places cell row customer number (keyed customer number) k first xs)

    -- so they are the same
    pub are_made : rows_of customer number found ≡ made
    are_made = same_rising place_in (is_row_at customer number) (rows_of customer number found) made found_placed made_placed found_rise made_rise same_at

-- ---- whose a row is

-- what is among the things of a list is so after a map
pub contains : {X Y : Type 0} (f : X → Y) (xs : List X) (x : X) → IsAmong x xs → Contains (map f xs) (f x)
contains f [] x among = absurd among
contains f (y ∷ xs) x (inl is) = (zero, omega arith, ap f (sym is))
contains f (y ∷ xs) x (inr more) = let it = contains f xs x more in (suc it.0, omega (arith, it.1), it.2)

module _ (jobs : Office) (rows_of_jobs : List Row) (jobs_are : rows_of_jobs ≡ map row_in_jobs jobs) where
  -- a row that names a job of the office has an owner
  owned : (r : Row) (customer : List ℕ) (number : ℕ) → column r 0 ≡ Text customer → column r 1 ≡ Int (pos number) → (entry_of customer number jobs ≡ None → ⊥) → IsOwned rows_of_jobs r
  owned r customer number name place some = go (entry_of customer number jobs) refl
    where
      go : (o : Option Entry) → entry_of customer number jobs ≡ o → IsOwned rows_of_jobs r
      go None is = absurd (some is)
      go (Some e) is =
          let found = found_among (is_entry customer number) e jobs is in
          let key = key_is customer number e.customer e.number found.1 in
          (row_in_jobs e, subst (λ rows. Contains rows (row_in_jobs e)) (sym jobs_are) (contains row_in_jobs jobs e found.0), ap Text key.0 ∙ sym name, ap (λ n. Int (pos n)) key.1 ∙ sym place)

  -- ---- a table with rows of jobs

  module _ (rows : List Row) (wanted : List ℕ → ℕ → Option Job → List Row) (nothing : (customer : List ℕ) (number : ℕ) → wanted customer number None ≡ [])
      (is : IsOf rows (λ customer number. wanted customer number (job_of customer number jobs))) where
    -- a row of a job that is not there would be one of none
    owned_row : (r : Row) → IsAmong r (cells rows) → IsOwned rows_of_jobs r
    owned_row r among =
        let it = all_among NamesJob r (cells rows) is.named among in
        let of : is_row_of it.0 it.1 r ≡ true = rw (it.2, it.3, same_bytes it.0, same_number it.1) refl in
        owned r it.0 it.1 it.2 it.3 (λ none.
        let no_rows : rows_of it.0 it.1 (cells rows) ≡ [] = is.each it.0 it.1 ∙ ap (λ o. wanted it.0 it.1 (option_map (λ (e : Entry). e.job) o)) none ∙ nothing it.0 it.1 in
        subst (IsAmong r) no_rows (among_filter (is_row_of it.0 it.1) r (cells rows) among of))

    -- each of its rows names a job
    pub all_owned : (found : List Row) → found ≡ cells rows → AllByRecursion (IsOwned rows_of_jobs) found
    all_owned found same = subst (AllByRecursion (IsOwned rows_of_jobs)) (sym same) (from_among (IsOwned rows_of_jobs) (cells rows) owned_row)

    -- it has the rows of each job
    pub has_rows : (found : List Row) → found ≡ cells rows → (e : Entry) → entry_of e.customer e.number jobs ≡ Some e → rows_of e.customer e.number found ≡ wanted e.customer e.number (Some e.job)
    has_rows found same e there =
        ap (rows_of e.customer e.number) same ∙ is.each e.customer e.number
        ∙ ap (λ o. wanted e.customer e.number (option_map (λ (e : Entry). e.job) o)) there

  -- ---- a table with rows of things at places

  module _ {Y : Type 0} (row : List ℕ → ℕ → ℕ → Y → Row) (begins : BeginsAs row) (rows found : List Row) (same : IsPermutation (cells rows) found)
      (things : Option Job → ℕ → Option Y) (nothing : (place : ℕ) → things None place ≡ None) (is : IsOfEach row rows (λ customer number. things (job_of customer number jobs))) where
    -- each row that was found is one of these
    ones : AllByRecursion (IsOne row) found
    ones = permuted_all (IsOne row) (cells rows) found same is.named

    -- a row of a job that is not there would be one of none
    owned_thing : (r : Row) → IsAmong r (cells rows) → IsOwned rows_of_jobs r
    owned_thing r among =
        let it = all_among (IsOne row) r (cells rows) is.named among in
        let name : column r 0 ≡ Text it.0 = ap (λ (r : Row). column r 0) it.4 ∙ begins.customer it.0 it.1 it.2 it.3 in
        let number : column r 1 ≡ Int (pos it.1) = ap (λ (r : Row). column r 1) it.4 ∙ begins.number it.0 it.1 it.2 it.3 in
        let here : is_row_at it.0 it.1 it.2 r ≡ true = ap (is_row_at it.0 it.1 it.2) it.4 ∙ keyed row begins it.0 it.1 it.2 it.2 it.3 ∙ same_number it.2 in
        owned r it.0 it.1 name number (λ none.
        let no_rows : filter (is_row_at it.0 it.1 it.2) (cells rows) ≡ [] =
        is.each it.0 it.1 it.2 ∙ ap (λ o. map (row it.0 it.1 it.2) (option_to_list (things (option_map (λ (e : Entry). e.job) o) it.2))) none ∙ ap (λ o. map (row it.0 it.1 it.2) (option_to_list o)) (nothing it.2) in
        subst (IsAmong r) no_rows (among_filter (is_row_at it.0 it.1 it.2) r (cells rows) among here))

    -- each of its rows names a job
    pub all_things_owned : AllByRecursion (IsOwned rows_of_jobs) found
    all_things_owned = permuted_all (IsOwned rows_of_jobs) (cells rows) found same (from_among (IsOwned rows_of_jobs) (cells rows) owned_thing)

    -- at each place the row of the job's thing was found
    found_at : (e : Entry) → entry_of e.customer e.number jobs ≡ Some e → (place : ℕ) → filter (is_row_at e.customer e.number place) found ≡ map (row e.customer e.number place) (option_to_list (things (Some e.job) place))
    found_at e there place =
        let passed = IsPermutation-filter (is_row_at e.customer e.number place) (cells rows) found same in
        let wanted : filter (is_row_at e.customer e.number place) (cells rows) ≡ map (row e.customer e.number place) (option_to_list (things (Some e.job) place)) =
        is.each e.customer e.number place ∙ ap (λ o. map (row e.customer e.number place) (option_to_list (things (option_map (λ (e : Entry). e.job) o) place))) there in
        at_most_one (row e.customer e.number place) (things (Some e.job) place) _ (subst (λ rows. IsPermutation rows (filter (is_row_at e.customer e.number place) found)) wanted passed)

    -- it has the rows of each job's things, in the order of their places
    pub has_things : RiseByPlace found → {X : Type 0} (cell : X → Option Y) (first : ℕ) (xs : List X) (e : Entry) → entry_of e.customer e.number jobs ≡ Some e → ((place : ℕ) → thing_at cell first xs place ≡ things (Some e.job) place)
        → rows_of e.customer e.number found ≡ placed_some cell (row e.customer e.number) first xs
    has_things up cell first xs e there are =
        are_made row begins cell first xs e.customer e.number found ones up
        (λ place. found_at e there place ∙ ap (λ o. map (row e.customer e.number place) (option_to_list o)) (sym (are place)))
