-- What the SELECT of a job's pages answers, and that of its cards' pockets.
use Rattle.std.proofs.Common.{◌≡◌, ◌⊎◌, inl, inr, ◌<◌, ◌^◌, ℕ, zero, suc, pos, List, [], ◌∷◌, length, map, filter, Bool, true, false, ◌==◌, bytes_eq, Option, Some, None, IsTrue, All, Contains, get_or, refl, sym, ap, subst, ◌∙◌, arith, true≢false}
use Rattle.std.specs.List.{AllByRecursion}
use Rattle.std.specs.Option.{option_to_list}
use Rattle.std.specs.List.Sorted.{IsPermutation}
use Rattle.std.proofs.lemmas.Bool.{and_parts}
use Rattle.std.proofs.lemmas.Bool.Decides.{nat_tests}
use Rattle.std.proofs.lemmas.List.Elements.{recursion_from_All}
use Rattle.std.proofs.lemmas.List.Sorted.{All-permutation, Contains-permutation}
use Rattle.sqlite.specs.declared.types.Value.{Value}
use Rattle.sqlite.specs.declared.types.Value.TheVariants.{Int, Text, Blob}
use Rattle.sqlite.specs.Order.{Row, column}
use Rattle.sqlite.specs.State.{State, Shown, IsUnchanged}
use Rattle.sqlite.specs.Listing.{understood}
use Rattle.sqlite_tied.specs.Compute.{everything}
use Rattle.ledger_tables.specs.Cells.{PageCells}
use Rattle.ledger_tables.specs.Named.{ArePages, ArePockets, HaveNumbers, HavePocketNumbers}
use Rattle.ledger_tables.specs.Reading.{CanRead, Refuses, ShowsNone}
use Rattle.ledger_tables.specs.Schema.{bureau_schema}
use Rattle.ledger_tables.specs.Shown.{shown_page, shown_pocket}
use Rattle.ledger_tables.specs.Steps.{HasFailed}
use Rattle.ledger_tables.specs.Tables.{Tables, Holds, NamesJob, IsOne, cells, is_row_of, is_row_at}
use Rattle.ledger_tables.specs.declared.rows.PocketRow.{PocketRow}
use Rattle.ledger_tables.proofs.FaultLemmas.{IsWhole, IsCalm, refused}
use Rattle.ledger_tables.proofs.Frames.{shown_opened}
use Rattle.ledger_tables.proofs.LookupAnswers.{looks}
use Rattle.ledger_tables.proofs.LookupKeys.{columns, view, shown_cells, rows_of_key}
use Rattle.ledger_tables.proofs.LookupStatement.{passes, plain_query, plain_answer}
use Rattle.ledger_tables.proofs.ReadTexts.{is_key, select_pages, select_pages_is, page_terms, select_pockets, select_pockets_is, pocket_terms}
use Rattle.ledger_tables.proofs.UpdateFlags.{the_only, no_other}
use Rattle.ledger_tables.proofs.UpdateRows.{key_yes}

-- ---- what a row holds

abbrev pub nat_in : Value → ℕ
nat_in (Int (pos n)) = n
nat_in _ = 0

abbrev bytes_in : Value → List ℕ
bytes_in (Blob bytes) = bytes
bytes_in _ = []

abbrev shown_columns : List ℕ
shown_columns = 2 ∷ 3 ∷ []

-- ---- lists

pub each_k : {K X : Type 0} (Q : K → X → Type 0) (xs : List X) → ((k : K) → AllByRecursion (Q k) xs) → AllByRecursion (λ x. (k : K) → Q k x) xs
each_k Q [] all = tt
each_k Q (x ∷ xs) all = (λ k. (all k).0, each_k Q xs (λ k. (all k).1))

pub all_at : {X : Type 0} (P : X → Type 0) (xs : List X) → AllByRecursion P xs → All P xs
all_at P [] all k d less = absurd (omega (arith, less))
all_at P (x ∷ xs) all zero d less = all.0
all_at P (x ∷ xs) all (suc k) d less = all_at P xs all.1 k d (omega (arith, less))

contains_first : {X : Type 0} (x : X) (xs : List X) → Contains (x ∷ xs) x
contains_first x xs = (0, omega arith, refl)

contains_later : {X : Type 0} (x y : X) (xs : List X) → Contains xs y → Contains (x ∷ xs) y
contains_later x y xs h = (suc h.0, omega (arith, h.1), h.2)

-- what passes one test alone passes another too, and is among those
pub among : {X : Type 0} (p q : X → Bool) (it : X) (xs : List X) → q it ≡ true → filter p xs ≡ it ∷ [] → Contains (filter q xs) it
among p q it [] passes one = absurd (let e = one in cc)
among p q it (x ∷ xs) passes one = go (p x) refl (q x) refl (among p q it xs passes)
  where
    go : (b : Bool) → p x ≡ b → (d : Bool) → q x ≡ d → (filter p xs ≡ it ∷ [] → Contains (filter q xs) it) → Contains (filter q (x ∷ xs)) it
    go true this true that rest =
        let whole : x ∷ filter p xs ≡ it ∷ [] = rw this at one in
        let same : x ≡ it = cc in
        rw that (subst (λ y. Contains (y ∷ filter q xs) it) (sym same) (contains_first it (filter q xs)))
    go true this false that rest =
        let whole : x ∷ filter p xs ≡ it ∷ [] = rw this at one in
        let same : x ≡ it = cc in
        absurd (true≢false (sym passes ∙ ap q (sym same) ∙ that))
    go false this true that rest = rw that (contains_later x it (filter q xs) (rest (rw this at one)))
    go false this false that rest = rw that (rest (rw this at one))

pub contains_map : {X Y : Type 0} (f : X → Y) (xs : List X) (x : X) → Contains xs x → Contains (map f xs) (f x)
contains_map f [] x h = absurd (omega (arith, h.1))
contains_map f (y ∷ xs) x h = go h.0 h.1 h.2 (contains_map f xs x)
  where
    go : (k : ℕ) → k < length (y ∷ xs) → get_or (y ∷ xs) k x ≡ x → (Contains xs x → Contains (map f xs) (f x)) → Contains (map f (y ∷ xs)) (f x)
    go zero less is rest = subst (λ z. Contains (f z ∷ map f xs) (f x)) (sym is) (contains_first (f x) (map f xs))
    go (suc k) less is rest = contains_later (f y) (f x) (map f xs) (rest (k, omega (arith, less), is))

-- ---- the rows of a job's pages or cards

-- things that a row holds in one column, and what is read of them with the number of the page or card
module _ {X F : Type 0} (value : X → Value) (thing_in : Value → X) (back : (x : X) → thing_in (value x) ≡ x) (make : ℕ → X → F) (number_of : F → ℕ) (thing_of : F → X) (shown : F → Row)
    (made : (k : ℕ) (x : X) → (shown (make k x) ≡ Int (pos k) ∷ value x ∷ []) × (number_of (make k x) ≡ k) × (thing_of (make k x) ≡ x)) where
  abbrev each_row : List ℕ → ℕ → ℕ → X → Row
  each_row customer number k x = Text customer ∷ Int (pos number) ∷ Int (pos k) ∷ value x ∷ []

  named_job : (row : Row) → IsOne each_row row → NamesJob row
  named_job row h = (h.0, h.1, ap (λ (r : Row). column r 0) h.4, ap (λ (r : Row). column r 1) h.4)

  named_jobs : (rows : List Row) → AllByRecursion (IsOne each_row) rows → AllByRecursion NamesJob rows
  named_jobs [] named = tt
  named_jobs (row ∷ rows) named = (named_job row named.0, named_jobs rows named.1)

  -- what a row of the answer shows
  abbrev read : Row → F
  read row = make (nat_in (column row 0)) (thing_in (column row 1))

  module _ (customer : List ℕ) (number : ℕ) (all : ℕ → Option X) (rows : List Row) (named : AllByRecursion (IsOne each_row) rows)
      (each : (k : ℕ) → filter (is_row_at customer number k) rows ≡ map (each_row customer number k) (option_to_list (all k))) where
    abbrev Tells : ℕ → Row → Type 0
    Tells k row = is_row_at customer number k row ≡ true → all k ≡ Some (thing_in (column row 3))

    -- a row of this number holds the thing of this number
    of_one : (k : ℕ) (o : Option X) → all k ≡ o → AllByRecursion (Tells k) rows
    of_one k None is = weaken rows (no_other (is_row_at customer number k) [] rows (each k ∙ ap (λ o. map (each_row customer number k) (option_to_list o)) is))
      where
        none_passes : (row : Row) → is_row_at customer number k row ≡ true → row ≡ [] → all k ≡ Some (thing_in (column row 3))
        none_passes row passes empty = absurd (let e : is_row_at customer number k [] ≡ true = subst (λ r. is_row_at customer number k r ≡ true) empty passes in cc)

        weaken : (xs : List Row) → AllByRecursion (λ row. is_row_at customer number k row ≡ true → row ≡ []) xs → AllByRecursion (Tells k) xs
        weaken [] h = tt
        weaken (x ∷ xs) h = (λ passes. none_passes x passes (h.0 passes), weaken xs h.1)
    of_one k (Some thing) is = weaken rows (the_only (is_row_at customer number k) (each_row customer number k thing) rows (each k ∙ ap (λ o. map (each_row customer number k) (option_to_list o)) is))
      where
        weaken : (xs : List Row) → AllByRecursion (λ row. is_row_at customer number k row ≡ true → row ≡ each_row customer number k thing) xs → AllByRecursion (Tells k) xs
        weaken [] h = tt
        weaken (x ∷ xs) h = (λ passes. is ∙ ap Some (sym (back thing) ∙ ap (λ (r : Row). thing_in (column r 3)) (sym (h.0 passes))), weaken xs h.1)

    of_each : AllByRecursion (λ row. (k : ℕ) → Tells k row) rows
    of_each = each_k Tells rows (λ k. of_one k (all k) refl)

    -- what is read of a row: it shows a thing, and that of the job
    abbrev Shows : Row → Type 0
    Shows row = (row ≡ shown (read row)) × (all (number_of (read row)) ≡ Some (thing_of (read row)))

    shows_this : (k : ℕ) (x : X) → all k ≡ Some x → Shows (Int (pos k) ∷ value x ∷ [])
    shows_this k x is =
        let it : read (Int (pos k) ∷ value x ∷ []) ≡ make k x = ap (make k) (back x) in
        (sym (ap shown it ∙ (made k x).0), ap (λ f. all (number_of f)) it ∙ ap all (made k x).1 ∙ is ∙ ap Some (sym (ap thing_of it ∙ (made k x).2)))

    shows_one : (row : Row) → IsOne each_row row → is_row_of customer number row ≡ true → ((k : ℕ) → Tells k row) → Shows (view shown_columns row)
    shows_one row h his told =
        let mine : is_row_at customer number h.2 row ≡ true = at_of_his h.0 h.1 h.2 h.3 row h.4 his in
        let is : all h.2 ≡ Some h.3 = told h.2 mine ∙ ap (λ (r : Row). Some (thing_in (column r 3))) h.4 ∙ ap Some (back h.3) in
        subst (λ (r : Row). Shows (view shown_columns r)) (sym h.4) (shows_this h.2 h.3 is)
      where
        at_of_his : (c : List ℕ) (n k : ℕ) (x : X) (r : Row) → r ≡ each_row c n k x → is_row_of customer number r ≡ true → is_row_at customer number k r ≡ true
        at_of_his c n k x r is his =
            let both = and_parts (bytes_eq c customer) (n == number) (rw is at his) in
            let name = both.0 in
            let num : n == number ≡ true = both.1 in
            let own : k == k ≡ true = grind (arith, nat_tests) in
            rw (is, name, num, own)

    shows_all : (xs : List Row) → AllByRecursion (IsOne each_row) xs → AllByRecursion (λ row. (k : ℕ) → Tells k row) xs → AllByRecursion Shows (map (view shown_columns) (filter (is_row_of customer number) xs))
    shows_all [] names told = tt
    shows_all (x ∷ xs) names told = go (is_row_of customer number x) refl (shows_all xs names.1 told.1)
      where
        go : (b : Bool) → is_row_of customer number x ≡ b → AllByRecursion Shows (map (view shown_columns) (filter (is_row_of customer number) xs)) → AllByRecursion Shows (map (view shown_columns) (filter (is_row_of customer number) (x ∷ xs)))
        go true is rest = rw is (shows_one x names.0 is told.0, rest)
        go false is rest = rw is rest

    -- each thing of the job is shown
    shows_each : (k : ℕ) (x : X) → all k ≡ Some x → Contains (map (view shown_columns) (filter (is_row_of customer number) rows)) (Int (pos k) ∷ value x ∷ [])
    shows_each k x is =
        contains_map (view shown_columns) (filter (is_row_of customer number) rows) (each_row customer number k x)
        (among (is_row_at customer number k) (is_row_of customer number) (each_row customer number k x) rows (key_yes customer number customer number refl refl) (each k ∙ ap (λ o. map (each_row customer number k) (option_to_list o)) is))

    read_back : (answer : List Row) → AllByRecursion Shows answer → answer ≡ map shown (map read answer)
    read_back [] all_shown = refl
    read_back (x ∷ answer) all_shown = ap (λ (r : Row). let rs : List Row = r ∷ answer in rs) all_shown.0.0 ∙ ap (λ (rs : List Row). let more : List Row = shown (read x) ∷ rs in more) (read_back answer all_shown.1)

    only_his : (answer : List Row) → AllByRecursion Shows answer → AllByRecursion (λ it. all (number_of it) ≡ Some (thing_of it)) (map read answer)
    only_his [] shows = tt
    only_his (x ∷ answer) shows = (shows.0.1, only_his answer shows.1)

    -- what was read of an answer is what the job has, in some order
    pub read_of_answer : (answer : List Row) → IsPermutation (map (view shown_columns) (filter (is_row_of customer number) rows)) answer
        → (found : List F) × (answer ≡ map shown found) × All (λ it. all (number_of it) ≡ Some (thing_of it)) found × ((k : ℕ) (x : X) → all k ≡ Some x → Contains found (make k x))
    read_of_answer answer same =
        let shows = recursion_from_All Shows answer (All-permutation Shows _ answer same (all_at Shows _ (shows_all rows named of_each))) in (
          map read answer,
          read_back answer shows,
          all_at _ (map read answer) (only_his answer shows),
          λ k x is. subst (Contains (map read answer)) (ap (make k) (back x)) (contains_map read answer (Int (pos k) ∷ value x ∷ []) (Contains-permutation _ answer _ same (shows_each k x is))),
        )

pub pages_looked_up : (old new : State) (customer : List ℕ) (number : ℕ) (rows : List Row) → Shown select_pages (Text customer ∷ Int (pos number) ∷ []) old new rows
    → (t : Tables) → Holds old.now t → IsUnchanged old new × (found : List PageCells) × (rows ≡ map shown_page found) × ArePages found (t.pages customer number)
pages_looked_up old new customer number rows h t holds =
    let params : Row = Text customer ∷ Int (pos number) ∷ [] in
    let did = looks select_pages _ _ select_pages_is old new params rows holds.schema h in
    let db = old.now.trees in
    let make : ℕ → List ℕ → PageCells = λ k storage. record { page = k; storage = storage } in
    let named = named_jobs Blob bytes_in (λ x. refl) make (λ it. it.page) (λ it. it.storage) shown_page (λ k x. (refl, refl, refl)) (cells (db 13)) holds.pages.named in
    let kept = filter (passes is_key params) (db 13) in
    let are : cells kept ≡ filter (is_row_of customer number) (cells (db 13)) = rows_of_key customer number [] (db 13) named in
    let found = shown_cells shown_columns params kept ∙ ap (map (view shown_columns)) are in
    let same = plain_answer 13 is_key (columns shown_columns) params db rows refl did.1 in
    let it = read_of_answer Blob bytes_in (λ x. refl) make (λ it. it.page) (λ it. it.storage) shown_page (λ k x. (refl, refl, refl)) customer number (t.pages customer number) (cells (db 13)) holds.pages.named (holds.pages.each customer number) rows (subst (λ xs. IsPermutation xs rows) found same) in
    (did.0, it.0, it.1, record { only = it.2; all = it.3 })

pub pockets_looked_up : (old new : State) (customer : List ℕ) (number : ℕ) (rows : List Row) → Shown select_pockets (Text customer ∷ Int (pos number) ∷ []) old new rows
    → (t : Tables) → Holds old.now t → IsUnchanged old new × (found : List PocketRow) × (rows ≡ map shown_pocket found) × ArePockets found (t.pockets customer number)
pockets_looked_up old new customer number rows h t holds =
    let params : Row = Text customer ∷ Int (pos number) ∷ [] in
    let did = looks select_pockets _ _ select_pockets_is old new params rows holds.schema h in
    let db = old.now.trees in
    let is = holds.beside.pockets_are in
    let value : ℕ → Value = λ p. Int (pos p) in
    let make : ℕ → ℕ → PocketRow = λ k pocket. record { place = k; pocket = pocket } in
    let named = named_jobs value nat_in (λ x. refl) make (λ it. it.place) (λ it. it.pocket) shown_pocket (λ k x. (refl, refl, refl)) (cells (db 17)) is.named in
    let kept = filter (passes is_key params) (db 17) in
    let are : cells kept ≡ filter (is_row_of customer number) (cells (db 17)) = rows_of_key customer number [] (db 17) named in
    let found = shown_cells shown_columns params kept ∙ ap (map (view shown_columns)) are in
    let same = plain_answer 17 is_key (columns shown_columns) params db rows refl did.1 in
    let it = read_of_answer value nat_in (λ x. refl) make (λ it. it.place) (λ it. it.pocket) shown_pocket (λ k x. (refl, refl, refl)) customer number (t.pockets customer number) (cells (db 17)) is.named (is.each customer number) rows (subst (λ xs. IsPermutation xs rows) found same) in
    (did.0, it.0, it.1, record { only = it.2; all = it.3 })

-- ---- why they fail

pages_whole : IsWhole 2 select_pages (understood bureau_schema select_pages)
unfolding understood everything
pages_whole = (omega arith, refl)

pages_calm : (customer : List ℕ) (number : ℕ) → IsCalm (plain_query 13 is_key page_terms) (Text customer ∷ Int (pos number) ∷ [])
pages_calm customer number limit db e has (inl typed) = absurd (let no = rw has at typed.1 in cc)
pages_calm customer number limit db e has (inr (inl over)) = elim over.1 [ inl none ↦ absurd none | inr some ↦ absurd some.4 ]
pages_calm customer number limit db e has (inr (inr stopped)) = stopped.1

can_read : (found : List PageCells) → All (λ (it : PageCells). it.page < 2 ^ 32) found → CanRead shown_page found
can_read [] all = tt
can_read (it ∷ found) all =
    let h = recursion_from_All (λ (it : PageCells). it.page < 2 ^ 32) (it ∷ found) all in
    ((h.0, (tt, tt)), can_read found (all_at (λ (it : PageCells). it.page < 2 ^ 32) found h.1))

pub pages_blamed : (old new : State) (customer : List ℕ) (number : ℕ) (t : Tables) → (IsTrue old.is_open → Holds old.now t) → HaveNumbers (t.pages customer number)
    → Refuses select_pages (Text customer ∷ Int (pos number) ∷ []) old new ⊎ ShowsNone shown_page select_pages (Text customer ∷ Int (pos number) ∷ []) old new → HasFailed old new
pages_blamed old new customer number t has ready (inl h) = refused select_pages _ _ select_pages_is 2 pages_whole (Text customer ∷ Int (pos number) ∷ []) refl (pages_calm customer number) old new t has h
pages_blamed old new customer number t has ready (inr none) =
    let looked = pages_looked_up old new customer number none.0 none.1 t (has (shown_opened old new select_pages _ none.0 none.1)) in
    absurd (none.2 looked.1 (can_read looked.1 (λ k d less. ready _ _ (looked.3.only k d less))) looked.2)

pockets_whole : IsWhole 2 select_pockets (understood bureau_schema select_pockets)
unfolding understood everything
pockets_whole = (omega arith, refl)

pockets_calm : (customer : List ℕ) (number : ℕ) → IsCalm (plain_query 17 is_key pocket_terms) (Text customer ∷ Int (pos number) ∷ [])
pockets_calm customer number limit db e has (inl typed) = absurd (let no = rw has at typed.1 in cc)
pockets_calm customer number limit db e has (inr (inl over)) = elim over.1 [ inl none ↦ absurd none | inr some ↦ absurd some.4 ]
pockets_calm customer number limit db e has (inr (inr stopped)) = stopped.1

can_read_pockets : (found : List PocketRow) → All (λ (it : PocketRow). (it.place < 2 ^ 32) × (it.pocket < 2 ^ 32)) found → CanRead shown_pocket found
can_read_pockets [] all = tt
can_read_pockets (it ∷ found) all =
    let h = recursion_from_All (λ (it : PocketRow). (it.place < 2 ^ 32) × (it.pocket < 2 ^ 32)) (it ∷ found) all in
    ((h.0.0, (h.0.1, tt)), can_read_pockets found (all_at (λ (it : PocketRow). (it.place < 2 ^ 32) × (it.pocket < 2 ^ 32)) found h.1))

pub pockets_blamed : (old new : State) (customer : List ℕ) (number : ℕ) (t : Tables) → (IsTrue old.is_open → Holds old.now t) → HavePocketNumbers (t.pockets customer number)
    → Refuses select_pockets (Text customer ∷ Int (pos number) ∷ []) old new ⊎ ShowsNone shown_pocket select_pockets (Text customer ∷ Int (pos number) ∷ []) old new → HasFailed old new
pockets_blamed old new customer number t has ready (inl h) = refused select_pockets _ _ select_pockets_is 2 pockets_whole (Text customer ∷ Int (pos number) ∷ []) refl (pockets_calm customer number) old new t has h
pockets_blamed old new customer number t has ready (inr none) =
    let looked = pockets_looked_up old new customer number none.0 none.1 t (has (shown_opened old new select_pockets _ none.0 none.1)) in
    absurd (none.2 looked.1 (can_read_pockets looked.1 (λ k d less. ready _ _ (looked.3.only k d less))) looked.2)
