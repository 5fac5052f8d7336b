-- What the statements on the table of pages do.
use Rattle.std.proofs.Common.{◌≡◌, ◌≢◌, ℕ, ℤ, pos, List, [], ◌∷◌, ◌++◌, map, drop, filter, slice_get, cond, Bool, true, false, not, ◌&&◌, ◌==◌, bytes_eq, if◌then◌else◌, Option, Some, None, Ok, Less, Equal, refl, sym, ap, subst, ◌∙◌, arith, append-nil, true≢false}
use Rattle.std.specs.List.{AllByRecursion}
use Rattle.std.specs.Option.{option_to_list}
use Rattle.std.specs.List.Sorted.{IsPermutation}
use Rattle.std.proofs.lemmas.List.Sorted.{length_permutation}
use Rattle.std.proofs.lemmas.Bool.{and_parts}
use Rattle.std.proofs.lemmas.Bool.Decides.{nat_tests}
use Rattle.std.proofs.lemmas.Cmp.{tied_itself}
use Rattle.std.proofs.lemmas.List.Elements.{filter-append}
use Rattle.std.proofs.lemmas.Slice.Eq.{bytes_eq-Decides}
use Rattle.sqlite.specs.declared.types.Value.TheVariants.{Null, Int, Text, Blob}
use Rattle.sqlite.specs.Order.{Row, value_cmp}
use Rattle.sqlite.specs.Tree.{Trees, rowid, put_row, without_rowid}
use Rattle.sqlite.specs.View.{IsShaped}
use Rattle.sqlite.specs.Term.{Term, lit, col}
use Rattle.sqlite.specs.Schema.{Schema}
use Rattle.sqlite.specs.Table.{Table}
use Rattle.sqlite.specs.Rowids.TheVariants.{Given}
use Rattle.sqlite.specs.Edit.{Edit, edit_of, edited, next_rowid, taken_by}
use Rattle.sqlite.specs.Command.TheVariants.{Delete}
use Rattle.sqlite.specs.Does.{Tally, Does, OnRows}
use Rattle.sqlite.specs.Rows.{Written, Task}
use Rattle.sqlite.specs.Effect.{Database, IsDatabase, Answers}
use Rattle.sqlite.specs.State.{State, mode_of, Executes, ExecutesInside}
use Rattle.sqlite.specs.Listing.{understood}
use Rattle.sqlite.proofs.Callers.{statement_of, runs_as, one_step, one_permutation}
use Rattle.sqlite_schema.specs.declared.schema.Keys.TheVariants.{Enforced}
use Rattle.sqlite_rules.specs.Action.{works}
use Rattle.sqlite_rules.specs.Calls.{ids_of}
use Rattle.sqlite_trees.specs.declared.store.Shape.TheVariants.{Table as Rising}
use Rattle.sqlite_trees.proofs.TreeLemmas.{IsShaped-filter}
use Rattle.sqlite_trees.proofs.ListLemmas.{all-filter}
use Rattle.sqlite_value.proofs.OrderLemmas.{value_cmp_total}
use Rattle.ledger_tables.specs.Cells.{Pages}
use Rattle.ledger_tables.specs.Schema.{pages}
use Rattle.ledger_tables.specs.Tables.{Beside, ByJob, Tables, HoldsAs, IsOfEach, IsOfPages, IsOne, at_job, at_page, at_place, cells, is_row_at, page_row, schema_beside, with_page, pictured, paged, profiled, complete}
use Rattle.ledger_tables.proofs.InsertStatement.{Means, adds, apart, cast_int, cast_null, went, same_value}
use Rattle.ledger_tables.proofs.InsertPlaces.{next_cells, next_shaped}
use Rattle.ledger_tables.proofs.InsertLast.{still, still_profiles, still_shared, shared_with, name_is, all_push}
use Rattle.ledger_tables.proofs.LookupStatement.{passes, show, plain_query, plain_answer}
use Rattle.ledger_tables.proofs.LookupKeys.{place_passes, kept_cells, each_test}
use Rattle.ledger_tables.proofs.ReadTexts.{is_place, delete_pages, delete_pages_is}
use Rattle.ledger_tables.proofs.Texts.{insert_pages, insert_pages_is, place_of_pages}
use Rattle.ledger_tables.proofs.UpdateRows.{kept_after, only_row}
use Rattle.ledger_tables.proofs.UpdateStatements.{idle_beside, on_cells, blind_place}

-- ---- a DELETE

module _ (schema : Schema) (sql : List ℕ) (at : ℕ) (table : Table) (tests terms : List Term) (is : Means schema sql (Delete at (record { lets = []; body = plain_query table.tree tests terms })))
    (place : slice_get schema.tables at ≡ Some table) (idle : (olds news : List Row) → works schema Enforced 0 table.tree olds news ≡ []) where
  -- the rows that the statement finds are taken out
  pub deletes : (old new : State) (params : Row) (count : ℕ) → old.now.schema ≡ schema → Executes sql params old new (Ok count)
      → (rows : List Row) × Answers (record { schema = schema; trees = old.now.trees }) (record { lets = []; body = plain_query table.tree tests terms }) params rows
      × (new.now.schema ≡ schema) × (new.now.trees table.tree ≡ edited old.now.trees (edit_of old.now.trees table (ids_of rows) Given 0 []))
      × AllByRecursion (λ t. t.tree ≢ table.tree → new.now.trees t.tree ≡ old.now.trees t.tree) schema.tables × IsDatabase new.now
  deletes old new params count has h =
      let db = old.now.trees in
      let command = Delete at (record { lets = []; body = plain_query table.tree tests terms }) in
      let w = runs_as sql params old new schema has command is.0 is.1 count h in
      let text = statement_of sql (understood schema sql) in
      let task : Task = record { limit = old.step_limit; keys = (mode_of old).keys; schema = schema; table = table; params = params } in
      let whole = subst (λ s. Does old.step_limit (mode_of old) params (record old.now { schema = s }) text None command (Ok (w.tally, new.now))) has w.changed in
      let here : OnRows task (mode_of old) None command db (Ok (w.tally, new.now)) = rw place at whole in
      let done = went here in
      let now = ap (λ (p : Tally × Database). p.1) (same_value (went (went done.2).2).2) in
      let given = went done.1 in
      let written = went given.2 in
      let trees : done.0.trees ≡ written.0 = ap (λ (it : Written). it.trees) (same_value written.2) in
      let step : Edit = edit_of db table (ids_of given.0) Given 0 [] in
      let does = one_step schema Enforced db written.0 step (idle (taken_by db step) step.news) written.1 in
      let same = ap (λ (d : Database). d.trees) now ∙ trees in (
        given.0,
        given.1,
        ap (λ (d : Database). d.schema) now,
        ap (λ (t : Trees). t table.tree) same ∙ does.rows,
        subst (λ (next : Trees). AllByRecursion (λ t. t.tree ≢ table.tree → next t.tree ≡ db t.tree) schema.tables) (sym same) does.tables,
        w.sound,
      )

-- ---- rows that are left

-- the rows that don't pass a test
abbrev pub left : (Row → Bool) → List Row → List Row
left test = filter (λ row. not (test row))

module _ (p test : Row → Bool) (same : (r : Row) → p r ≡ test (drop 1 r)) where
  none_left_out : (rows : List Row) → filter p rows ≡ [] → left test (cells rows) ≡ cells rows
  none_left_out [] none = refl
  none_left_out (r ∷ rows) none = go (test (drop 1 r)) refl (none_left_out rows)
    where
      go : (b : Bool) → test (drop 1 r) ≡ b → (filter p rows ≡ [] → left test (cells rows) ≡ cells rows) → left test (cells (r ∷ rows)) ≡ cells (r ∷ rows)
      go true this rest = absurd (let e = rw (same r, this) at none in cc)
      go false this rest = rw this (ap (λ rs. drop 1 r ∷ rs) (rest (rw (same r, this) at none)))

  -- the one row that passes goes
  pub one_left_out : (id : ℤ) (old : Row) (rows : List Row) → IsShaped Rising rows → filter p rows ≡ (Int id ∷ old) ∷ [] → cells (without_rowid id rows) ≡ left test (cells rows)
  one_left_out id old [] shaped one = absurd (let e = one in cc)
  one_left_out id old (r ∷ rows) shaped one = go (test (drop 1 r)) refl (one_left_out id old rows (shaped.0.1, shaped.1.1))
    where
      go : (b : Bool) → test (drop 1 r) ≡ b → (filter p rows ≡ (Int id ∷ old) ∷ [] → cells (without_rowid id rows) ≡ left test (cells rows))
          → cells (without_rowid id (r ∷ rows)) ≡ left test (cells (r ∷ rows))
      go true this rest =
          let whole : r ∷ filter p rows ≡ (Int id ∷ old) ∷ [] = rw (same r, this) at one in
          let here : r ≡ Int id ∷ old = cc in
          let none : filter p rows ≡ [] = cc in
          let after : AllByRecursion (λ x. value_cmp (Int id) (rowid x) ≡ Less) rows = subst (λ q. AllByRecursion (λ x. value_cmp (rowid q) (rowid x) ≡ Less) rows) here shaped.0.0 in
          let tied : value_cmp (rowid r) (Int id) ≡ Equal = ap (λ q. value_cmp (rowid q) (Int id)) here ∙ tied_itself value_cmp_total (Int id) in
          let gone : without_rowid id (r ∷ rows) ≡ rows = rw tied (kept_after id rows after) in
          rw (gone, this) (sym (none_left_out rows none))
      go false this rest =
          let later : filter p rows ≡ (Int id ∷ old) ∷ [] = rw (same r, this) at one in
          let less : value_cmp (rowid r) (Int id) ≡ Less = (subst (AllByRecursion (λ x. value_cmp (rowid r) (rowid x) ≡ Less)) later (all-filter (λ x. value_cmp (rowid r) (rowid x) ≡ Less) p rows shaped.0.0)).0 in
          rw (less, this) (ap (λ rs. drop 1 r ∷ rs) (rest later))

pub same_filter : {X : Type 0} (p q : X → Bool) (xs : List X) → AllByRecursion (λ x. p x ≡ q x) xs → filter p xs ≡ filter q xs
same_filter p q [] same = refl
same_filter p q (x ∷ xs) same = rw same.0 (ap (λ ys. cond (q x) (x ∷ ys) ys) (same_filter p q xs same.1))

pub all_left : {X : Type 0} (P : X → Type 0) (p : X → Bool) (xs : List X) → AllByRecursion P xs → AllByRecursion P (filter p xs)
all_left P p [] all = tt
all_left P p (x ∷ xs) all = elim (p x) as (λ b. AllByRecursion P (cond b (x ∷ filter p xs) (filter p xs))) [ true ↦ (all.0, all_left P p xs all.1) | false ↦ all_left P p xs all.1 ]

pub no_rows : (rows : List Row) → cells rows ≡ [] → rows ≡ []
no_rows [] h = refl
no_rows (r ∷ rows) h = absurd (let e = h in cc)

pub no_more_rows : (rows : List Row) → IsPermutation [] rows → rows ≡ []
no_more_rows [] same = refl
no_more_rows (r ∷ rows) same = absurd (omega (arith, length_permutation [] (r ∷ rows) same))

-- ---- rows of pages, and of cards

-- they are tested by their job's customer and number, and by their own number
each_is : (customer c : List ℕ) (number n place k : ℕ) → (bytes_eq customer c && ((number == n) && (place == k))) ≡ true → (customer ≡ c) × (number ≡ n) × (place ≡ k)
each_is customer c number n place k h =
    let both = and_parts (bytes_eq customer c) ((number == n) && (place == k)) h in
    let two = and_parts (number == n) (place == k) both.1 in
    let one : number == n ≡ true = two.0 in
    let last : place == k ≡ true = two.1 in
    ((bytes_eq-Decides customer c).0 both.0, grind (arith, nat_tests), grind (arith, nat_tests))

pub each_yes : (customer c : List ℕ) (number n place k : ℕ) → customer ≡ c → number ≡ n → place ≡ k → (bytes_eq customer c && ((number == n) && (place == k))) ≡ true
each_yes customer c number n place k same same_number same_place =
    let one = (bytes_eq-Decides customer c).1 same in
    let two : number == n ≡ true = grind (arith, nat_tests) in
    let three : place == k ≡ true = grind (arith, nat_tests) in
    rw (one, two, three)

-- what there is at each place, where it is told of one place and of the others
pub by_place : {X : Type 0} (customer : List ℕ) (number place : ℕ) (here : Option X) (all : ByJob (ℕ → Option X)) (R : (c : List ℕ) (n k : ℕ) → Option X → Type 0)
    → R customer number place here → ((c : List ℕ) (n k : ℕ) → (bytes_eq customer c && ((number == n) && (place == k))) ≡ false → R c n k (all c n k))
    → (c : List ℕ) (n k : ℕ) → R c n k (at_job customer number (at_place place here (all customer number)) all c n k)
by_place customer number place here all R yes_here elsewhere c n k = go (bytes_eq customer c && (number == n)) refl
  where
    inside : (customer ≡ c) → (number ≡ n) → (b : Bool) → place == k ≡ b → R c n k (if b then here else all customer number k)
    inside one two true is =
        let three : place ≡ k = grind (arith, nat_tests) in
        subst (λ x. R x n k here) one (subst (λ m. R customer m k here) two (subst (λ j. R customer number j here) three yes_here))
    inside one two false is =
        let other : (bytes_eq customer c && ((number == n) && (place == k))) ≡ false = both_false (bytes_eq customer c) (number == n) (place == k) is in
        subst (λ x. R c n k (all x number k)) (sym one) (subst (λ m. R c n k (all c m k)) (sym two) (elsewhere c n k other))
      where
        both_false : (a b d : Bool) → d ≡ false → (a && (b && d)) ≡ false
        both_false true true d h = h
        both_false true false d h = refl
        both_false false b d h = refl

    apart_job : (a b d : Bool) → (a && b) ≡ false → (a && (b && d)) ≡ false
    apart_job true true d h = absurd (true≢false h)
    apart_job true false d h = refl
    apart_job false b d h = refl

    go : (b : Bool) → (bytes_eq customer c && (number == n)) ≡ b → R c n k ((if b then at_place place here (all customer number) else all c n) k)
    go true is = let name = name_is customer c number n is in inside name.0 name.1 (place == k) refl
    go false is = elsewhere c n k (apart_job (bytes_eq customer c) (number == n) (place == k) is)

-- ---- one row more

-- rows with these columns after the names of a job and of a page or a card
module _ {X : Type 0} (columns : X → Row) where
  abbrev pub keyed_row : List ℕ → ℕ → ℕ → X → Row
  keyed_row customer number place it = Text customer ∷ Int (pos number) ∷ Int (pos place) ∷ columns it

  -- the rows of a table with this one behind them
  pub put_behind : (customer : List ℕ) (number place : ℕ) (it : X) (rows news : List Row) (all : ByJob (ℕ → Option X)) → IsOfEach keyed_row rows all → all customer number place ≡ None
      → news ≡ put_row (Int (next_rowid rows) ∷ keyed_row customer number place it) rows → IsOfEach keyed_row news (at_job customer number (at_place place (Some it) (all customer number)) all)
  put_behind customer number place it rows news all is none now =
      let row : Row = keyed_row customer number place it in
      let are : cells news ≡ cells rows ++ row ∷ [] = ap cells now ∙ next_cells row rows is.rise in
      let own : (bytes_eq customer customer && ((number == number) && (place == place))) ≡ true = each_yes customer customer number number place place refl refl refl in
      let R : (c : List ℕ) (n k : ℕ) → Option X → Type 0 = λ c n k o. filter (is_row_at c n k) (cells rows) ++ filter (is_row_at c n k) (row ∷ []) ≡ map (keyed_row c n k) (option_to_list o) in
      let here : R customer number place (Some it) = ap (λ xs. xs ++ filter (is_row_at customer number place) (row ∷ [])) (is.each customer number place ∙ ap (λ o. map (keyed_row customer number place) (option_to_list o)) none) ∙ rw own in
      let elsewhere : (c : List ℕ) (n k : ℕ) → (bytes_eq customer c && ((number == n) && (place == k))) ≡ false → R c n k (all c n k) = λ c n k other.
      rw other (append-nil (filter (is_row_at c n k) (cells rows)) ∙ is.each c n k) in
      record {
        each = λ c n k. ap (filter (is_row_at c n k)) are ∙ filter-append (is_row_at c n k) (cells rows) (row ∷ []) ∙ by_place customer number place (Some it) all R here elsewhere c n k;
        named = subst (AllByRecursion (IsOne keyed_row)) (sym are) (all_push (IsOne keyed_row) (cells rows) row is.named (customer, number, place, it, refl));
        rise = subst (IsShaped Rising) (sym now) (next_shaped row rows is.rise);
      }

-- ---- pages, whatever there is beside them

-- where the rows of pages alone change
pub pages_alone : (there : Beside) (version : ℕ) (old new : Database) (t : Tables) (all : ByJob Pages) → HoldsAs there version old t → new.schema ≡ schema_beside there → IsDatabase new
    → AllByRecursion (λ s. s.tree ≢ 13 → new.trees s.tree ≡ old.trees s.tree) (schema_beside there).tables → IsOfPages (new.trees 13) all → HoldsAs there version new (record t { pages = all })
pages_alone (pictured storages) version old new t all holds schema sound others are = record {
  schema = schema;
  sound = sound;
  version = others.0 (apart refl) ∙ holds.version;
  shared = shared_with _ _ _ _ (still_shared holds.shared (others.1.0 (apart refl)) (others.1.1.0 (apart refl)) (others.1.1.1.1.0 (apart refl)) (others.1.1.1.1.1.0 (apart refl)));
  states = still (others.1.1.1.1.1.1.0 (apart refl)) holds.states;
  pages = are;
  beside = still (others.1.1.1.0 (apart refl)) holds.beside;
}
pages_alone paged version old new t all holds schema sound others are = record {
  schema = schema;
  sound = sound;
  version = others.0 (apart refl) ∙ holds.version;
  shared = shared_with _ _ _ _ (still_shared holds.shared (others.1.0 (apart refl)) (others.1.1.0 (apart refl)) (others.1.1.1.0 (apart refl)) (others.1.1.1.1.0 (apart refl)));
  states = still (others.1.1.1.1.1.0 (apart refl)) holds.states;
  pages = are;
  beside = tt;
}
pages_alone profiled version old new t all holds schema sound others are = record {
  schema = schema;
  sound = sound;
  version = others.0 (apart refl) ∙ holds.version;
  shared = shared_with _ _ _ _ (still_shared holds.shared (others.1.0 (apart refl)) (others.1.1.0 (apart refl)) (others.1.1.1.0 (apart refl)) (others.1.1.1.1.0 (apart refl)));
  states = still (others.1.1.1.1.1.0 (apart refl)) holds.states;
  pages = are;
  beside = others.1.1.1.1.1.1.1.0 (apart refl) ∙ holds.beside;
}
pages_alone complete version old new t all holds schema sound others are = record {
  schema = schema;
  sound = sound;
  version = others.0 (apart refl) ∙ holds.version;
  shared = shared_with _ _ _ _ (still_shared holds.shared (others.1.0 (apart refl)) (others.1.1.0 (apart refl)) (others.1.1.1.0 (apart refl)) (others.1.1.1.1.0 (apart refl)));
  states = still (others.1.1.1.1.1.0 (apart refl)) holds.states;
  pages = are;
  beside = still_profiles holds.beside (others.1.1.1.1.1.1.1.0 (apart refl)) (others.1.1.1.1.1.1.1.1.0 (apart refl));
}

pub pages_there : (there : Beside) → slice_get (schema_beside there).tables (place_of_pages there) ≡ Some (record pages { tree = 13 })
pages_there (pictured storages) = refl
pages_there paged = refl
pages_there profiled = refl
pages_there complete = refl

pub page_added : (customer : List ℕ) (number page : ℕ) (storage : List ℕ) (old new : State) (count : ℕ) → ExecutesInside 0 insert_pages (page_row customer number page storage) old new (Ok count)
    → (there : Beside) (version : ℕ) (t : Tables) → HoldsAs there version old.now t → t.pages customer number page ≡ None → HoldsAs there version new.now (with_page customer number page (Some storage) t)
page_added customer number page storage old new count h there version t holds none =
    let row : Row = page_row customer number page storage in
    let did = adds (schema_beside there) insert_pages (place_of_pages there) (record pages { tree = 13 }) (lit Null ∷ col 0 0 ∷ col 0 1 ∷ col 0 2 ∷ col 0 3 ∷ []) 5 (insert_pages_is there) (pages_there there) old new row count holds.schema h.0 in
    let now : new.now.trees 13 ≡ put_row (Int (next_rowid (old.now.trees 13)) ∷ row) (old.now.trees 13) = did.1 ∙ simp (cast_null, cast_int) in
    pages_alone there version old.now new.now t _ holds did.0 did.3 did.2 (put_behind (λ (bytes : List ℕ). Blob bytes ∷ []) customer number page storage (old.now.trees 13) (new.now.trees 13) t.pages holds.pages none now)

-- ---- the row of one page

module _ (customer : List ℕ) (number page : ℕ) (more : Row) where
  abbrev pub page_params : Row
  page_params = Text customer ∷ Int (pos number) ∷ Int (pos page) ∷ more

  abbrev pub of_page : Row → Bool
  of_page = on_cells is_place page_params

  -- the test is that of the page's name
  pub page_passes : (row : Row) → IsOne page_row row → of_page row ≡ is_row_at customer number page row
  page_passes row h = rw h.4 (place_passes Null h.0 h.1 h.2 (Blob h.3 ∷ []) customer number page more)

  -- a row that passes has the page's name
  pub page_named : (row : Row) (it : IsOne page_row row) → of_page row ≡ true → (it.0 ≡ customer) × (it.1 ≡ number) × (it.2 ≡ page)
  page_named row it is =
      let mine : (bytes_eq it.0 customer && ((it.1 == number) && (it.2 == page))) ≡ true = rw it.4 at (sym (page_passes row it) ∙ is) in
      each_is it.0 customer it.1 number it.2 page mine

  -- the rows that pass are the page's
  pub page_found : (db : Trees) (all : ByJob Pages) → IsOfPages (db 13) all → cells (filter (passes is_place page_params) (db 13)) ≡ map (page_row customer number page) (option_to_list (all customer number page))
  page_found db all is =
      kept_cells (passes is_place page_params) (is_row_at customer number page) (db 13)
      (each_test (IsOne page_row) (passes is_place page_params) (is_row_at customer number page) (λ r named. blind_place page_params r ∙ page_passes (drop 1 r) named) (db 13) is.named)
      ∙ is.each customer number page

  -- ---- one page less

  -- the rows of other pages are left
  module _ (c : List ℕ) (n k : ℕ) where
    none_of_it : (rows : List Row) → AllByRecursion (IsOne page_row) rows → customer ≡ c → number ≡ n → page ≡ k → filter (is_row_at c n k) (left of_page rows) ≡ []
    none_of_it [] named one two three = refl
    none_of_it (row ∷ rows) named one two three = go (of_page row) refl (none_of_it rows named.1 one two three)
      where
        go : (b : Bool) → of_page row ≡ b → filter (is_row_at c n k) (left of_page rows) ≡ [] → filter (is_row_at c n k) (left of_page (row ∷ rows)) ≡ []
        go true is rest = rw is rest
        go false is rest =
            let out : is_row_at customer number page row ≡ false = sym (page_passes row named.0) ∙ is in
            let here : is_row_at c n k row ≡ false = subst (λ x. is_row_at x n k row ≡ false) one (subst (λ m. is_row_at customer m k row ≡ false) two (subst (λ j. is_row_at customer number j row ≡ false) three out)) in
            rw (is, here) rest

    others_stay : (rows : List Row) → AllByRecursion (IsOne page_row) rows → (bytes_eq customer c && ((number == n) && (page == k))) ≡ false → filter (is_row_at c n k) (left of_page rows) ≡ filter (is_row_at c n k) rows
    others_stay [] named other = refl
    others_stay (row ∷ rows) named other = go (of_page row) refl (others_stay rows named.1 other)
      where
        go : (b : Bool) → of_page row ≡ b → filter (is_row_at c n k) (left of_page rows) ≡ filter (is_row_at c n k) rows → filter (is_row_at c n k) (left of_page (row ∷ rows)) ≡ filter (is_row_at c n k) (row ∷ rows)
        go true is rest =
            let it = named.0 in
            let name = page_named row it is in
            let out : (bytes_eq it.0 c && ((it.1 == n) && (it.2 == k))) ≡ false = rw (name.0, name.1, name.2) other in
            rw (is, it.4, out) rest
        go false is rest = rw is (ap (λ xs. cond (is_row_at c n k row) (row ∷ xs) xs) rest)

  -- what is left of the table, where the page had a row or none
  removed : (o : Option (List ℕ)) (db : Trees) (rows : List Row) → IsShaped Rising (db 13) → cells (filter (passes is_place page_params) (db 13)) ≡ map (page_row customer number page) (option_to_list o)
      → IsPermutation (map (show (col 1 0 ∷ []) page_params) (filter (passes is_place page_params) (db 13))) rows
      → (cells (edited db (edit_of db (record pages { tree = 13 }) (ids_of rows) Given 0 [])) ≡ left of_page (cells (db 13))) × IsShaped Rising (edited db (edit_of db (record pages { tree = 13 }) (ids_of rows) Given 0 []))
  removed None db rows shaped found some =
      let none : filter (passes is_place page_params) (db 13) ≡ [] = no_rows (filter (passes is_place page_params) (db 13)) found in
      let nothing : rows ≡ [] = no_more_rows rows (subst (λ rs. IsPermutation (map (show (col 1 0 ∷ []) page_params) rs) rows) none some) in
      rw nothing (sym (none_left_out (passes is_place page_params) of_page (blind_place page_params) (db 13) none), shaped)
  removed (Some storage) db rows shaped found some =
      let it = only_row (filter (passes is_place page_params) (db 13)) (page_row customer number page storage) (IsShaped-filter Rising (passes is_place page_params) (db 13) shaped) found in
      let one : rows ≡ (Int it.0 ∷ []) ∷ [] = one_permutation (Int it.0 ∷ []) rows (subst (λ rs. IsPermutation (map (show (col 1 0 ∷ []) page_params) rs) rows) it.1 some) in
      rw one (one_left_out (passes is_place page_params) of_page (blind_place page_params) it.0 (page_row customer number page storage) (db 13) shaped it.1, IsShaped-filter Rising _ (db 13) shaped)

  -- the rows of the pages without those of this one
  one_less : (db new : Trees) (all : ByJob Pages) (rows : List Row) → IsOfPages (db 13) all → new 13 ≡ edited db (edit_of db (record pages { tree = 13 }) (ids_of rows) Given 0 [])
      → IsPermutation (map (show (col 1 0 ∷ []) page_params) (filter (passes is_place page_params) (db 13))) rows
      → IsOfPages (new 13) (at_job customer number (at_page page None (all customer number)) all)
  one_less db new all rows is tree some =
      let are = removed (all customer number page) db rows is.rise (page_found db all is) some in
      let now : cells (new 13) ≡ left of_page (cells (db 13)) = ap cells tree ∙ are.0 in
      record {
        each = λ c n k. ap (filter (is_row_at c n k)) now
            ∙ by_place customer number page None all (λ c n k o. filter (is_row_at c n k) (left of_page (cells (db 13))) ≡ map (page_row c n k) (option_to_list o))
            (none_of_it customer number page (cells (db 13)) is.named refl refl refl)
            (λ c n k other. others_stay c n k (cells (db 13)) is.named other ∙ is.each c n k) c n k;
        named = subst (AllByRecursion (IsOne page_row)) (sym now) (all_left (IsOne page_row) (λ row. not (of_page row)) (cells (db 13)) is.named);
        rise = subst (IsShaped Rising) (sym tree) are.1;
      }

  pub page_removed : (old new : State) (count : ℕ) → ExecutesInside 0 delete_pages page_params old new (Ok count)
      → (there : Beside) (version : ℕ) (t : Tables) → HoldsAs there version old.now t → HoldsAs there version new.now (with_page customer number page None t)
  page_removed old new count h there version t holds =
      let did = deletes (schema_beside there) delete_pages (place_of_pages there) (record pages { tree = 13 }) is_place (col 1 0 ∷ []) (delete_pages_is there) (pages_there there) (idle_beside there 13) old new page_params count holds.schema h.0 in
      let some = plain_answer 13 is_place (col 1 0 ∷ []) page_params old.now.trees did.0 refl did.1.answer in
      pages_alone there version old.now new.now t _ holds did.2 did.5 did.4 (one_less old.now.trees new.now.trees t.pages did.0 holds.pages did.3 some)
