-- What the SELECT of the names of the jobs whose machines are running answers.
use Rattle.std.proofs.Common.{◌≡◌, ◌⊎◌, inl, inr, ◌≤◌, ◌<◌, ◌^◌, ℕ, pos, List, [], ◌∷◌, length, map, filter, drop, Bool, true, false, cond, ◌==◌, Option, Some, None, IsTrue, IsUtf8, All, Contains, Ordering, Less, Equal, Greater, refl, sym, ap, subst, ◌∙◌, arith, true≢false}
use Rattle.std.specs.List.{AllByRecursion}
use Rattle.std.specs.Ordering.{is_eq, nat_cmp, ordering_then}
use Rattle.std.specs.Cmp.Lexicographic.{slice_cmp}
use Rattle.std.specs.Cmp.{IsTotalOrder}
use Rattle.std.proofs.lemmas.Cmp.{nat_cmp_total, nat_list_cmp_total, on_total, then_total}
use Rattle.std.proofs.lemmas.Bool.Decides.{nat_tests}
use Rattle.std.proofs.lemmas.List.Elements.{recursion_from_All}
use Rattle.std.proofs.lemmas.List.Sorted.{Contains-permutation}
use Rattle.std.proofs.lemmas.Map.Text.{is_eq-slice_cmp}
use Rattle.std.proofs.lemmas.Slice.Eq.{bytes_eq-Decides}
use Rattle.sqlite.specs.declared.types.Value.{Value}
use Rattle.sqlite.specs.declared.types.Value.TheVariants.{Int, Text}
use Rattle.sqlite.specs.Order.{Row, column, value_cmp}
use Rattle.sqlite.specs.Ops.{binary}
use Rattle.sqlite.specs.Query.{Output}
use Rattle.sqlite.specs.State.{State, Shown, IsUnchanged}
use Rattle.sqlite.specs.Listing.{understood}
use Rattle.sqlite.specs.Term.{Term}
use Rattle.sqlite.specs.Tree.{IsAscending}
use Rattle.sqlite_tied.specs.Compute.{everything}
use Rattle.sqlite_keyed.proofs.ListLemmas.{map-map}
use Rattle.sqlite_value.proofs.OrderLemmas.{value_cmp-Text}
use Rattle.bcd.specs.Orders.{in_order}
use Rattle.bcd.proofs.Orders.{all_ordered, in_order_has}
use Rattle.ledger_tables.specs.Cells.{QueuedName}
use Rattle.ledger_tables.specs.Listed.{AreRunning, HaveNames, IsRunning, by_name}
use Rattle.ledger_tables.specs.Reading.{CanRead, Refuses, ShowsNone}
use Rattle.ledger_tables.specs.Schema.{bureau_schema}
use Rattle.ledger_tables.specs.Shown.{shown_queued}
use Rattle.ledger_tables.specs.Steps.{HasFailed}
use Rattle.ledger_tables.specs.Tables.{Tables, Holds, NamesJob, cells, has_number, is_row_of, state_row, state_rows}
use Rattle.ledger_tables.specs.declared.rows.StateRow.{StateRow}
use Rattle.ledger_tables.proofs.FaultLemmas.{IsWhole, IsCalm, refused}
use Rattle.ledger_tables.proofs.Frames.{shown_opened}
use Rattle.ledger_tables.proofs.ListLemmas.{int_is_nat, lost, same_numbers, then_equal}
use Rattle.ledger_tables.proofs.LookupAnswers.{looks}
use Rattle.ledger_tables.proofs.LookupKeys.{and_true, number_test, row_form}
use Rattle.ledger_tables.proofs.LookupOrder.{sorting_pair, sorting_query, sorted_answer, in_order_rises}
use Rattle.ledger_tables.proofs.LookupStatement.{passes}
use Rattle.ledger_tables.proofs.PageLookups.{all_at, among, contains_map, each_k, nat_in}
use Rattle.ledger_tables.proofs.ReadTexts.{is_running, select_running, select_running_is, queued_terms, by_name as name_order}
use Rattle.ledger_tables.proofs.UpdateFlags.{the_only, no_other}
use Rattle.ledger_tables.proofs.UpdateRows.{key_yes}

-- ---- what a row holds

abbrev text_in : Value → List ℕ
text_in (Text text) = text
text_in _ = []

-- the name in a state's row
abbrev name_in : Row → QueuedName
name_in row = record { customer = text_in (column row 0); number = nat_in (column row 1) }

-- whether the standing in a state's row is 0
abbrev is_at_0 : Row → Bool
is_at_0 row = has_number 0 (column row 14)

-- ---- lists

-- what is left after the first has no more that pass than the whole
tail_once : (p : Row → Bool) (x : Row) (xs : List Row) → length (filter p (x ∷ xs)) ≤ 1 → length (filter p xs) ≤ 1
tail_once p x xs h = go (p x) refl
  where
    go : (b : Bool) → p x ≡ b → length (filter p xs) ≤ 1
    go true this = let l : length (x ∷ filter p xs) ≤ 1 = rw this at h in omega (arith, l)
    go false this = let l : length (filter p xs) ≤ 1 = rw this at h in l

empty : (xs : List Row) → length xs ≤ 0 → xs ≡ []
empty [] h = refl
empty (x ∷ xs) h = absurd (omega (arith, h))

none_later : (p : Row → Bool) (x : Row) (xs : List Row) → p x ≡ true → length (filter p (x ∷ xs)) ≤ 1 → filter p xs ≡ []
none_later p x xs this h = let l : length (x ∷ filter p xs) ≤ 1 = rw this at h in empty (filter p xs) (omega (arith, l))

-- what is told of the rows that pass is told of their cells
module _ (tests : List Term) (params : Row) (pair : Row → Output) (Is : Row → Type 0) (test : Row → Bool) (told : Row → Output)
    (passing : (r : Row) → Is (drop 1 r) → passes tests params r ≡ test (drop 1 r)) (paired : (r : Row) → Is (drop 1 r) → pair r ≡ told (drop 1 r)) where
  pairs_of_cells : (rows : List Row) → AllByRecursion Is (cells rows) → map pair (filter (passes tests params) rows) ≡ map told (filter test (cells rows))
  pairs_of_cells [] all = refl
  pairs_of_cells (r ∷ rows) all =
      let rest = pairs_of_cells rows all.1 in
      rw (passing r all.0) (elim (test (drop 1 r)) as (λ b. map pair (cond b (r ∷ filter (passes tests params) rows) (filter (passes tests params) rows)) ≡ map told (cond b (drop 1 r ∷ filter test (cells rows)) (filter test (cells rows))))
      [ true ↦ ap (λ v. v ∷ map pair (filter (passes tests params) rows)) (paired r all.0) ∙ ap (λ vs. told (drop 1 r) ∷ vs) rest | false ↦ rest ])

-- ---- the order of names

pub name_total : IsTotalOrder by_name
name_total = then_total (on_total (λ (it : QueuedName). it.customer) nat_list_cmp_total) (on_total (λ (it : QueuedName). it.number) nat_cmp_total)

queued_order : (a b : QueuedName) → ordering_then (value_cmp (Text a.customer) (Text b.customer)) (ordering_then (value_cmp (Int (pos a.number)) (Int (pos b.number))) Equal) ≡ by_name a b
queued_order a b =
    ap (λ o. ordering_then o (ordering_then (value_cmp (Int (pos a.number)) (Int (pos b.number))) Equal)) (value_cmp-Text a.customer b.customer)
    ∙ ap (ordering_then (slice_cmp nat_cmp a.customer b.customer)) (then_equal (value_cmp (Int (pos a.number)) (Int (pos b.number))) ∙ int_is_nat a.number b.number)

tied_both : (o p : Ordering) → is_eq (ordering_then o p) ≡ true → (is_eq o ≡ true) × (is_eq p ≡ true)
tied_both Less p h = absurd (true≢false (sym h))
tied_both Equal p h = (refl, h)
tied_both Greater p h = absurd (true≢false (sym h))

pub same_names : (a b : QueuedName) → is_eq (by_name a b) ≡ true → (b.customer ≡ a.customer) × (b.number ≡ a.number)
same_names a b h =
    let both = tied_both (slice_cmp nat_cmp a.customer b.customer) (nat_cmp a.number b.number) h in
    (sym ((bytes_eq-Decides a.customer b.customer).0 (sym (is_eq-slice_cmp a.customer b.customer) ∙ both.0)), same_numbers a.number b.number both.1)

-- ---- the rows of states

running_passes : (x : Value) (customer : List ℕ) (number : ℕ) (s : StateRow) → passes is_running [] (x ∷ state_row customer number s) ≡ (s.standing == 0)
unfolding binary
running_passes x customer number s = rw (number_test s.standing 0, and_true (s.standing == 0))

abbrev told_queued : QueuedName → Output
told_queued it = (Text it.customer ∷ Int (pos it.number) ∷ [], shown_queued it)

abbrev queued_pair : Row → Output
queued_pair = sorting_pair 11 is_running queued_terms name_order []

module _ (t : Tables) where
  -- the row is that of the state of some job
  abbrev IsState : Row → Type 0
  IsState row = (customer : List ℕ) × (number : ℕ) × (s : StateRow) × (t.states customer number ≡ Some s) × (row ≡ state_row customer number s)

  raw_form : (r : Row) (h : IsState (drop 1 r)) → (x : Value) × (r ≡ x ∷ state_row h.0 h.1 h.2)
  raw_form [] h = absurd (let e = h.4 in cc)
  raw_form (x ∷ r) h = (x, ap (λ cs. x ∷ cs) h.4)

  state_passes : (r : Row) → IsState (drop 1 r) → passes is_running [] r ≡ is_at_0 (drop 1 r)
  state_passes r h = let it = raw_form r h in ap (passes is_running []) it.1 ∙ running_passes it.0 h.0 h.1 h.2 ∙ ap is_at_0 (sym h.4)

  state_paired : (r : Row) → IsState (drop 1 r) → queued_pair r ≡ told_queued (name_in (drop 1 r))
  state_paired r h = let it = raw_form r h in ap queued_pair it.1 ∙ ap (λ (row : Row). told_queued (name_in row)) (sym h.4)

  -- if the row is of the job of this name, it is that of its state
  abbrev Tells : QueuedName → Row → Type 0
  Tells it row = is_row_of it.customer it.number row ≡ true → (s : StateRow) × (t.states it.customer it.number ≡ Some s) × (row ≡ state_row it.customer it.number s)

  -- no two of the names tie
  apart_from : (customer : List ℕ) (number : ℕ) (xs : List Row) → AllByRecursion IsState xs → AllByRecursion (λ r. is_row_of customer number r ≡ true → r ≡ []) xs
      → AllByRecursion (λ b. is_eq (by_name (record { customer = customer; number = number }) b) ≡ false) (map name_in (filter is_at_0 xs))
  apart_from customer number [] all none = tt
  apart_from customer number (x ∷ xs) all none = go (is_at_0 x) refl (apart_from customer number xs all.1 none.1)
    where
      own : QueuedName
      own = record { customer = customer; number = number }

      other : is_eq (by_name own (name_in x)) ≡ false
      other = lost (is_eq (by_name own (name_in x))) (λ e.
          let name = same_names own (name_in x) e in
          let one : all.0.0 ≡ customer = ap (λ (r : Row). text_in (column r 0)) (sym all.0.4) ∙ name.0 in
          let two : all.0.1 ≡ number = ap (λ (r : Row). nat_in (column r 1)) (sym all.0.4) ∙ name.1 in
          let mine : is_row_of customer number x ≡ true = subst (λ (r : Row). is_row_of customer number r ≡ true) (sym all.0.4) (key_yes customer number all.0.0 all.0.1 one two) in
          let nothing : state_row all.0.0 all.0.1 all.0.2 ≡ [] = sym all.0.4 ∙ none.0 mine in
          absurd (cc))

      go : (b : Bool) → is_at_0 x ≡ b → AllByRecursion (λ b. is_eq (by_name own b) ≡ false) (map name_in (filter is_at_0 xs)) → AllByRecursion (λ b. is_eq (by_name own b) ≡ false) (map name_in (filter is_at_0 (x ∷ xs)))
      go true this rest = rw this (other, rest)
      go false this rest = rw this rest

  all_apart : (xs : List Row) → AllByRecursion IsState xs → ((customer : List ℕ) (number : ℕ) → length (filter (is_row_of customer number) xs) ≤ 1) → IsAscending (λ a b. is_eq (by_name a b) ≡ false) (map name_in (filter is_at_0 xs))
  all_apart [] all once = tt
  all_apart (x ∷ xs) all once = go (is_at_0 x) refl (all_apart xs all.1 (λ customer number. tail_once (is_row_of customer number) x xs (once customer number)))
    where
      mine : is_row_of all.0.0 all.0.1 x ≡ true
      mine = subst (λ (r : Row). is_row_of all.0.0 all.0.1 r ≡ true) (sym all.0.4) (key_yes all.0.0 all.0.1 all.0.0 all.0.1 refl refl)

      others : AllByRecursion (λ b. is_eq (by_name (name_in x) b) ≡ false) (map name_in (filter is_at_0 xs))
      others = subst (λ (a : QueuedName). AllByRecursion (λ b. is_eq (by_name a b) ≡ false) (map name_in (filter is_at_0 xs))) (sym (ap name_in all.0.4))
          (apart_from all.0.0 all.0.1 xs all.1 (no_other (is_row_of all.0.0 all.0.1) [] xs (none_later (is_row_of all.0.0 all.0.1) x xs mine (once all.0.0 all.0.1))))

      go : (b : Bool) → is_at_0 x ≡ b → IsAscending (λ a b. is_eq (by_name a b) ≡ false) (map name_in (filter is_at_0 xs)) → IsAscending (λ a b. is_eq (by_name a b) ≡ false) (map name_in (filter is_at_0 (x ∷ xs)))
      go true this rest = rw this (others, rest)
      go false this rest = rw this rest

  only_running : (xs : List Row) → AllByRecursion IsState xs → AllByRecursion (λ (it : QueuedName). IsRunning t it.customer it.number) (map name_in (filter is_at_0 xs))
  only_running [] all = tt
  only_running (x ∷ xs) all = go (is_at_0 x) refl (only_running xs all.1)
    where
      go : (b : Bool) → is_at_0 x ≡ b → AllByRecursion (λ (it : QueuedName). IsRunning t it.customer it.number) (map name_in (filter is_at_0 xs)) → AllByRecursion (λ (it : QueuedName). IsRunning t it.customer it.number) (map name_in (filter is_at_0 (x ∷ xs)))
      go true this rest =
          let at : (all.0.2.standing == 0) ≡ true = ap is_at_0 (sym all.0.4) ∙ this in
          let zero_is : all.0.2.standing ≡ 0 = grind (arith, nat_tests, at) in
          rw this (subst (λ (it : QueuedName). IsRunning t it.customer it.number) (sym (ap name_in all.0.4)) (all.0.2, all.0.3, zero_is), rest)
      go false this rest = rw this rest

  most_once : (customer : List ℕ) (number : ℕ) (o : Option StateRow) → length (state_rows customer number o) ≤ 1
  most_once customer number None = omega arith
  most_once customer number (Some s) = omega arith

  module _ (rows : List Row) (each : (customer : List ℕ) (number : ℕ) → filter (is_row_of customer number) rows ≡ state_rows customer number (t.states customer number)) (named : AllByRecursion NamesJob rows) where
    of_one : (it : QueuedName) (o : Option StateRow) → t.states it.customer it.number ≡ o → AllByRecursion (Tells it) rows
    of_one it None is = weaken rows (no_other (is_row_of it.customer it.number) [] rows (each it.customer it.number ∙ ap (state_rows it.customer it.number) is))
      where
        none_passes : (row : Row) → is_row_of it.customer it.number row ≡ true → row ≡ [] → (s : StateRow) × (t.states it.customer it.number ≡ Some s) × (row ≡ state_row it.customer it.number s)
        none_passes row passes nothing = absurd (let e : is_row_of it.customer it.number [] ≡ true = subst (λ r. is_row_of it.customer it.number r ≡ true) nothing passes in cc)

        weaken : (xs : List Row) → AllByRecursion (λ row. is_row_of it.customer it.number row ≡ true → row ≡ []) xs → AllByRecursion (Tells it) xs
        weaken [] h = tt
        weaken (x ∷ xs) h = (λ passes. none_passes x passes (h.0 passes), weaken xs h.1)
    of_one it (Some s) is = weaken rows (the_only (is_row_of it.customer it.number) (state_row it.customer it.number s) rows (each it.customer it.number ∙ ap (state_rows it.customer it.number) is))
      where
        weaken : (xs : List Row) → AllByRecursion (λ row. is_row_of it.customer it.number row ≡ true → row ≡ state_row it.customer it.number s) xs → AllByRecursion (Tells it) xs
        weaken [] h = tt
        weaken (x ∷ xs) h = (λ passes. (s, is, h.0 passes), weaken xs h.1)

    of_state : (row : Row) → NamesJob row → ((it : QueuedName) → Tells it row) → IsState row
    of_state row h told =
        let form = row_form row h in
        let mine : is_row_of h.0 h.1 row ≡ true = subst (λ (r : Row). is_row_of h.0 h.1 r ≡ true) (sym form.1) (key_yes h.0 h.1 h.0 h.1 refl refl) in
        let it = told (record { customer = h.0; number = h.1 }) mine in
        (h.0, h.1, it.0, it.1, it.2)

    of_states : (xs : List Row) → AllByRecursion NamesJob xs → AllByRecursion (λ row. (it : QueuedName) → Tells it row) xs → AllByRecursion IsState xs
    of_states [] names told = tt
    of_states (x ∷ xs) names told = (of_state x names.0 told.0, of_states xs names.1 told.1)

    -- each row is that of the state of a job
    are_states : AllByRecursion IsState rows
    are_states = of_states rows named (each_k Tells rows (λ it. of_one it (t.states it.customer it.number) refl))

    -- each job has one at most
    once : (customer : List ℕ) (number : ℕ) → length (filter (is_row_of customer number) rows) ≤ 1
    once customer number = let same = ap length (each customer number) in let most = most_once customer number (t.states customer number) in omega (arith, same, most)

    abbrev names_running : List QueuedName
    names_running = map name_in (filter is_at_0 rows)

    names_apart : IsAscending (λ a b. is_eq (by_name a b) ≡ false) names_running
    names_apart = all_apart rows are_states once

    -- the name of each job whose machine is running is among them
    has_running : (customer : List ℕ) (number : ℕ) → IsRunning t customer number → Contains names_running (record { customer = customer; number = number })
    has_running customer number h =
        contains_map name_in (filter is_at_0 rows) (state_row customer number h.0)
        (among (is_row_of customer number) is_at_0 (state_row customer number h.0) rows (ap (λ k. k == 0) h.2) (each customer number ∙ ap (state_rows customer number) h.1))

    are_running : AreRunning (in_order by_name names_running) t
    are_running = record {
      in_order = in_order_rises by_name name_total names_running names_apart;
      only = all_at (λ (it : QueuedName). IsRunning t it.customer it.number) (in_order by_name names_running) (all_ordered by_name (λ (it : QueuedName). IsRunning t it.customer it.number) names_running (only_running rows are_states));
      all = λ customer number h. Contains-permutation names_running (in_order by_name names_running) _ (in_order_has by_name names_running) (has_running customer number h);
    }

pub running_looked_up : (old new : State) (rows : List Row) → Shown select_running [] old new rows
    → (t : Tables) → Holds old.now t → IsUnchanged old new × (found : List QueuedName) × (rows ≡ map shown_queued found) × AreRunning found t
running_looked_up old new rows h t holds =
    let did = looks select_running _ _ select_running_is old new [] rows holds.schema h in
    let db = old.now.trees in
    let each = holds.states.each in
    let named = holds.states.named in
    let names = names_running t (cells (db 11)) each named in
    let are = pairs_of_cells is_running [] queued_pair (IsState t) is_at_0 (λ row. told_queued (name_in row)) (state_passes t) (state_paired t) (db 11) (are_states t (cells (db 11)) each named)
    ∙ sym (map-map told_queued name_in (filter is_at_0 (cells (db 11)))) in
    let answer = sorted_answer 11 is_running queued_terms name_order [] db rows refl did.1 told_queued names are by_name queued_order (names_apart t (cells (db 11)) each named) in
    (did.0, in_order by_name names, answer, are_running t (cells (db 11)) each named)

-- ---- why it fails

running_whole : IsWhole 0 select_running (understood bureau_schema select_running)
unfolding understood everything
running_whole = (omega arith, refl)

running_calm : IsCalm (sorting_query 11 is_running queued_terms name_order) ([])
running_calm limit db e has (inl typed) = absurd (let no = rw has at typed.1 in cc)
running_calm limit db e has (inr (inl over)) = elim over.1 [ inl none ↦ absurd none | inr some ↦ absurd some.4 ]
running_calm limit db e has (inr (inr stopped)) = stopped.1

can_read : (found : List QueuedName) → All (λ (it : QueuedName). IsUtf8 it.customer × (it.number < 2 ^ 32)) found → CanRead shown_queued found
can_read [] all = tt
can_read (it ∷ found) all =
    let h = recursion_from_All (λ (it : QueuedName). IsUtf8 it.customer × (it.number < 2 ^ 32)) (it ∷ found) all in
    ((h.0.0, (h.0.1, tt)), can_read found (all_at (λ (it : QueuedName). IsUtf8 it.customer × (it.number < 2 ^ 32)) found h.1))

pub running_blamed : (old new : State) (t : Tables) → (IsTrue old.is_open → Holds old.now t) → HaveNames t
    → Refuses select_running [] old new ⊎ ShowsNone shown_queued select_running [] old new → HasFailed old new
running_blamed old new t has ready (inl h) = refused select_running _ _ select_running_is 0 running_whole [] refl running_calm old new t has h
running_blamed old new t has ready (inr none) =
    let looked = running_looked_up old new none.0 none.1 t (has (shown_opened old new select_running [] none.0 none.1)) in
    absurd (none.2 looked.1 (can_read looked.1 (λ k d less. ready _ _ (looked.3.only k d less))) looked.2)
