-- By the unique key of `jobs` no two of its rows have the same customer and number.
use Rattle.std.proofs.Common.{◌≡◌, ℕ, ℤ, zero, suc, pos, negsuc, List, [], ◌∷◌, drop, Bool, true, false, not, ◌&&◌, ◌==◌, inl, inr, Some, IsTrue, Less, refl, sym, ap, subst, ◌∙◌, true≢false, arith}
use Rattle.std.specs.Cmp.{tied_itself}
use Rattle.std.specs.List.{AllByRecursion, list_any}
use Rattle.std.specs.Ordering.{is_eq, is_ne, ordering_reverse}
use Rattle.std.proofs.lemmas.Bool.{and_from, and_parts, false_from_ne_true, or_parts}
use Rattle.std.proofs.lemmas.Bool.Decides.{nat_tests}
use Rattle.std.proofs.lemmas.Slice.Eq.{bytes_eq-Decides}
use Rattle.sqlite.specs.declared.types.Value.{Value}
use Rattle.sqlite.specs.declared.types.Value.TheVariants.{Null, Int, Real, Text, Blob}
use Rattle.sqlite.specs.Collation.TheVariants.{Binary}
use Rattle.sqlite.specs.Effect.{Database}
use Rattle.sqlite.specs.Ops.{binary, is_true, from_truth}
use Rattle.sqlite.specs.Order.{Row, column, value_cmp}
use Rattle.sqlite.specs.Schema.{Schema}
use Rattle.sqlite_keyed.proofs.ListLemmas.{ascending-map}
use Rattle.sqlite_value.specs.Keys.{plain, first_key}
use Rattle.sqlite_value.proofs.OrderLemmas.{value_cmp_total}
use Rattle.sqlite_schema.specs.Rules.{agree, clashes, differ, equal, passes}
use Rattle.sqlite_schema.specs.declared.schema.Constraint.TheVariants.{Unique}
use Rattle.sqlite_schema.specs.declared.schema.Table.{Table as Listed}
use Rattle.sqlite_trees.specs.Tree.{rowid}
use Rattle.sqlite_trees.specs.View.{is_int}
use Rattle.ledger_tables.specs.Schema.{bureau_schema}
use Rattle.ledger_tables.specs.Tables.{cells, has_customer, has_number, is_row_of}
use Rattle.job_checks.specs.Kept.{AreNamedApart}
use Rattle.job_checks.specs.Tables.{HasRows, IsBureaus, rows_of, WholeTables}
use Rattle.job_checks.proofs.AmongLemmas.{IsAmong, all_among, from_among, none_pass}
use Rattle.job_checks.proofs.KeyLemmas.{column_of_cells, IsNaming, NameTheSame}
use Rattle.job_checks.proofs.OwnerLaw.{jobs_named}
use Rattle.job_checks.proofs.TableAnswers.{ascending_so, int_of}

-- ---- two rows of the same name

equal_texts : (t : List ℕ) → equal Binary (Text t) (Text t) ≡ true
unfolding binary
equal_texts t = ap (λ o. is_true (from_truth (Some (is_eq o)))) (tied_itself value_cmp_total (Text t))

equal_integers : (n : ℤ) → equal Binary (Int n) (Int n) ≡ true
unfolding binary
equal_integers n = ap (λ o. is_true (from_truth (Some (is_eq o)))) (tied_itself value_cmp_total (Int n))

agree_if_same : (a b : Row) → IsNaming a → NameTheSame a b → agree plain (1 ∷ 2 ∷ []) b (1 ∷ 2 ∷ []) a ≡ true
unfolding first_key
agree_if_same a b named same =
    let texts : equal Binary (column b 1) (column a 1) ≡ true = rw (sym same.0, named.text) (equal_texts named.customer) in
    let integers : equal Binary (column b 2) (column a 2) ≡ true = rw (sym same.1, named.integer) (equal_integers named.number) in
    and_from _ _ texts (and_from _ _ integers refl)

later_integer : (m n : ℤ) → value_cmp (Int m) (Int n) ≡ Less → differ (Int n) (Int m) ≡ true
unfolding binary
later_integer m n less = ap (λ o. is_true (from_truth (Some (is_ne o)))) (value_cmp_total.antisymm (Int n) (Int m) ∙ ap ordering_reverse less)

later_rowid : (a b : Value) → IsTrue (is_int a) → IsTrue (is_int b) → value_cmp a b ≡ Less → differ b a ≡ true
later_rowid a b here there less =
    let one = int_of a here in
    let two = int_of b there in
    let order : value_cmp (Int one.0) (Int two.0) ≡ Less = rw (one.1, two.1) at less in
    rw (one.1, two.1) (later_integer one.0 two.0 order)

none_any : {X : Type 0} (p : X → Bool) (x : X) (xs : List X) → list_any p xs ≡ false → IsAmong x xs → p x ≡ false
none_any p x [] none among = absurd among
none_any p x (y ∷ ys) none (inl is) = ap p is ∙ (or_parts (p y) _ none).0
none_any p x (y ∷ ys) none (inr more) = none_any p x ys (or_parts (p y) _ none).1 more

-- the row is one of these and names a job, and no other of them clashes with it
record IsSingle (rows : List Row) (row : Row) : Type 0 where
  among : IsAmong row rows
  named : IsNaming row
  integer : IsTrue (is_int (rowid row))
  single : clashes plain (1 ∷ 2 ∷ []) rows row ≡ false

-- the names of rows as they are read, without their rowids
abbrev OtherName : Row → Row → Type 0
OtherName a b = ¬ ((column a 0 ≡ column b 0) × (column a 1 ≡ column b 1))

other_name : (rows : List Row) (a b : Row) → IsSingle rows a → IsSingle rows b → value_cmp (rowid a) (rowid b) ≡ Less → OtherName (drop 1 a) (drop 1 b)
other_name rows a b one two less same =
    let named : NameTheSame a b = (sym (column_of_cells a 0) ∙ same.0 ∙ column_of_cells b 0, sym (column_of_cells a 1) ∙ same.1 ∙ column_of_cells b 1) in
    let clash = and_from _ _ (agree_if_same a b one.named named) (later_rowid (rowid a) (rowid b) one.integer two.integer less) in
    true≢false (sym clash ∙ none_any (λ other. agree plain (1 ∷ 2 ∷ []) other (1 ∷ 2 ∷ []) a && differ (rowid other) (rowid a)) b rows one.single two.among)

-- ---- the table

unique_rows : (db : Database) → IsBureaus db → AllByRecursion (λ (t : Listed). AllByRecursion (λ row. passes Unique bureau_schema db.trees t row ≡ true) (db.trees t.tree)) bureau_schema.tables
unique_rows db bureaus = subst (λ (s : Schema). AllByRecursion (λ (t : Listed). AllByRecursion (λ row. passes Unique s db.trees t row ≡ true) (db.trees t.tree)) s.tables) bureaus.schema (bureaus.sound.obeys.rules Unique)

not_so : (b : Bool) → (not b && true) ≡ true → b ≡ false
not_so true is = absurd (true≢false (sym is))
not_so false is = refl

single_rows : (table rows : List Row) → AllByRecursion (λ row. (not (clashes plain (1 ∷ 2 ∷ []) table row) && true) ≡ true) rows → AllByRecursion (λ row. clashes plain (1 ∷ 2 ∷ []) table row ≡ false) rows
single_rows table [] each = tt
single_rows table (r ∷ rows) each = (not_so _ each.0, single_rows table rows each.1)

module _ (db : Database) (bureaus : IsBureaus db) where
  single : AllByRecursion (λ row. clashes plain (1 ∷ 2 ∷ []) (db.trees 1) row ≡ false) (db.trees 1)
  single = single_rows (db.trees 1) (db.trees 1) (unique_rows db bureaus).1.0

  each_single : AllByRecursion (IsSingle (db.trees 1)) (db.trees 1)
  each_single = from_among (IsSingle (db.trees 1)) (db.trees 1) (λ row among. record {
    among = among;
    named = all_among IsNaming row (db.trees 1) (jobs_named db bureaus) among;
    integer = all_among (λ r. IsTrue (is_int (rowid r))) row (db.trees 1) bureaus.in_order.jobs.1 among;
    single = all_among (λ r. clashes plain (1 ∷ 2 ∷ []) (db.trees 1) r ≡ false) row (db.trees 1) single among;
  })

  cells_apart : AreNamedApart (cells (db.trees 1))
  cells_apart = ascending-map OtherName (drop 1) (db.trees 1)
      (ascending_so (IsSingle (db.trees 1)) (λ a b. value_cmp (rowid a) (rowid b) ≡ Less) (λ a b. OtherName (drop 1 a) (drop 1 b)) (other_name (db.trees 1)) (db.trees 1) each_single bureaus.in_order.jobs.0)

pub jobs_apart : (db : Database) (all : WholeTables) → HasRows db all → AreNamedApart all.jobs
jobs_apart db all has = subst AreNamedApart (sym has.rows.jobs) (cells_apart db has.bureaus)

-- ---- what comes later

has_text : (customer : List ℕ) (v : Value) → has_customer customer v ≡ true → v ≡ Text customer
has_text customer Null is = absurd (true≢false (sym is))
has_text customer (Int n) is = absurd (true≢false (sym is))
has_text customer (Real x) is = absurd (true≢false (sym is))
has_text customer (Text name) is = ap Text ((bytes_eq-Decides name customer).0 is)
has_text customer (Blob b) is = absurd (true≢false (sym is))

same_number : (m n : ℕ) → (m == n) ≡ true → m ≡ n
same_number m n is = grind (arith, nat_tests)

has_integer : (number : ℕ) (v : Value) → has_number number v ≡ true → v ≡ Int (pos number)
has_integer number Null is = absurd (true≢false (sym is))
has_integer number (Int (pos n)) is = ap (λ m. Int (pos m)) (same_number n number is)
has_integer number (Int (negsuc n)) is = absurd (true≢false (sym is))
has_integer number (Real x) is = absurd (true≢false (sym is))
has_integer number (Text t) is = absurd (true≢false (sym is))
has_integer number (Blob b) is = absurd (true≢false (sym is))

other_row : (customer : List ℕ) (number : ℕ) (it : Row) → column it 0 ≡ Text customer → column it 1 ≡ Int (pos number) → (rows : List Row) → AllByRecursion (OtherName it) rows → AllByRecursion (λ row. is_row_of customer number row ≡ false) rows
other_row customer number it name place [] each = tt
other_row customer number it name place (r ∷ rows) each =
    let none : is_row_of customer number r ≡ true → ⊥ =
    λ is. let both = and_parts (has_customer customer (column r 0)) _ is in
    each.0 (name ∙ sym (has_text customer (column r 0) both.0), place ∙ sym (has_integer number (column r 1) both.1)) in
    (false_from_ne_true _ none, other_row customer number it name place rows each.1)

apart_from_later : (rows : List Row) (at : ℕ) (it : Row) (later : List Row) → drop at rows ≡ it ∷ later → AreNamedApart rows → AllByRecursion (OtherName it) later
apart_from_later rows zero it later is apart = (subst AreNamedApart is apart).0
apart_from_later [] (suc at) it later is apart = absurd (let e = is in cc)
apart_from_later (r ∷ rows) (suc at) it later is apart = apart_from_later rows at it later is apart.1

pub none_later : (db : Database) (all : WholeTables) → HasRows db all → (later : List Row) (it : Row) (at : ℕ) → drop at all.jobs ≡ it ∷ later
    → (customer : List ℕ) (number : ℕ) → column it 0 ≡ Text customer → column it 1 ≡ Int (pos number) → rows_of customer number later ≡ []
none_later db all has later it at there customer number name place =
    none_pass (is_row_of customer number) later (other_row customer number it name place later (apart_from_later all.jobs at it later there (jobs_apart db all has)))
