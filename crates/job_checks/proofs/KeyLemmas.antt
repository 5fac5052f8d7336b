-- The customer and the number that each row of a job begins with.
use Rattle.std.proofs.Common.{◌≡◌, ℕ, ℤ, suc, List, [], ◌∷◌, drop, codes, Bool, true, false, not, ◌&&◌, ◌||◌, inl, inr, None, Some, Ordering, Less, Equal, Greater, refl, sym, ap, ◌∙◌, true≢false}
use Rattle.std.specs.List.{AllByRecursion, list_any}
use Rattle.std.specs.Ordering.{is_eq}
use Rattle.std.proofs.lemmas.Bool.{and_parts}
use Rattle.std.proofs.lemmas.Map.Lookups.{exact_bytes, exact_signed}
use Rattle.sqlite.specs.declared.types.Value.{Value}
use Rattle.sqlite.specs.declared.types.Value.TheVariants.{Null, Int, Real, Text, Blob}
use Rattle.sqlite.specs.Collation.TheVariants.{Binary}
use Rattle.sqlite.specs.Kind.TheVariants as kind
use Rattle.sqlite.specs.Order.{Row, column, value_cmp}
use Rattle.sqlite.specs.Ops.{binary, is_true, from_truth}
use Rattle.sqlite_value.specs.Keys.{plain, first_key}
use Rattle.sqlite_value.proofs.OrderLemmas.{value_cmp-Int, value_cmp-Text}
use Rattle.sqlite_sql.specs.Ops.{is_null}
use Rattle.sqlite_schema.specs.Rules.{agree, are_present, are_typed, equal, is_of}
use Rattle.sqlite_schema.specs.declared.schema.Column.{Column}
use Rattle.ledger_tables.specs.Schema.{required}
use Rattle.job_checks.proofs.AmongLemmas.{IsAmong}

-- the columns of a table whose rows name jobs, with these after the customer and the number
abbrev pub naming : List Column → List Column
naming cs = required (codes "customer") kind.Text ∷ required (codes "number") kind.Integer ∷ cs

-- a text and an integer follow the rowid
pub record IsNaming (row : Row) : Type 0 where
  pub customer : List ℕ
  pub number : ℤ
  pub text : column row 1 ≡ Text customer
  pub integer : column row 2 ≡ Int number

text_of : (v : Value) → is_of kind.Text v ≡ true → is_null v ≡ false → (t : List ℕ) × (v ≡ Text t)
text_of Null is some = absurd (true≢false some)
text_of (Int n) is some = absurd (true≢false (sym is))
text_of (Real x) is some = absurd (true≢false (sym is))
text_of (Text t) is some = (t, refl)
text_of (Blob b) is some = absurd (true≢false (sym is))

integer_of : (v : Value) → is_of kind.Integer v ≡ true → is_null v ≡ false → (n : ℤ) × (v ≡ Int n)
integer_of Null is some = absurd (true≢false some)
integer_of (Int n) is some = (n, refl)
integer_of (Real x) is some = absurd (true≢false (sym is))
integer_of (Text t) is some = absurd (true≢false (sym is))
integer_of (Blob b) is some = absurd (true≢false (sym is))

pub not_null : (v : Value) (rest : Bool) → (not (is_null v) && rest) ≡ true → is_null v ≡ false
not_null Null rest is = absurd (true≢false (sym is))
not_null (Int n) rest is = refl
not_null (Real x) rest is = refl
not_null (Text t) rest is = refl
not_null (Blob b) rest is = refl

naming_row : (cs : List Column) (row : Row) → are_typed None 0 (naming cs) (drop 1 row) ≡ true → are_present None 0 (naming cs) row ≡ true → IsNaming row
naming_row cs [] typed present = absurd (true≢false (sym present))
naming_row cs (x ∷ []) typed present = absurd (true≢false (sym present))
naming_row cs (x ∷ v ∷ []) typed present = absurd (true≢false (sym (and_parts _ _ present).1))
naming_row cs (x ∷ v ∷ w ∷ row) typed present =
    let types = and_parts (is_of kind.Text v) _ typed in
    let here = and_parts (not (is_null v)) _ present in
    let text = text_of v types.0 (not_null v _ present) in
    let integer = integer_of w (and_parts (is_of kind.Integer w) _ types.1).0 (not_null w _ here.1) in
    record { customer = text.0; number = integer.0; text = text.1; integer = integer.1 }

-- by the rules of types and of NOT NULL each row of such a table names something
pub naming_rows : (cs : List Column) (rows : List Row) → AllByRecursion (λ row. are_typed None 0 (naming cs) (drop 1 row) ≡ true) rows → AllByRecursion (λ row. are_present None 0 (naming cs) row ≡ true) rows → AllByRecursion IsNaming rows
naming_rows cs [] typed present = tt
naming_rows cs (r ∷ rows) typed present = (naming_row cs r typed.0 present.0, naming_rows cs rows typed.1 present.1)

-- ---- the same name

-- two rows have the same customer and number after their rowids
abbrev pub NameTheSame : Row → Row → Type 0
NameTheSame a b = (column a 1 ≡ column b 1) × (column a 2 ≡ column b 2)

equal_order : (o : Ordering) → is_true (from_truth (Some (is_eq o))) ≡ true → o ≡ Equal
equal_order Less is = absurd (true≢false (sym is))
equal_order Equal is = refl
equal_order Greater is = absurd (true≢false (sym is))

same_texts : (s t : List ℕ) → equal Binary (Text s) (Text t) ≡ true → s ≡ t
unfolding binary
same_texts s t is = exact_bytes s t (sym (value_cmp-Text s t) ∙ equal_order (value_cmp (Text s) (Text t)) is)

same_integers : (m n : ℤ) → equal Binary (Int m) (Int n) ≡ true → m ≡ n
unfolding binary
same_integers m n is = exact_signed m n (sym (value_cmp-Int m n) ∙ equal_order (value_cmp (Int m) (Int n)) is)

-- rows that agree in the key of a job, and maybe in further columns, name the same
pub agree_in_name : (places : List ℕ) (a b : Row) → IsNaming a → IsNaming b → agree plain (1 ∷ 2 ∷ places) a (1 ∷ 2 ∷ places) b ≡ true → NameTheSame a b
unfolding first_key
agree_in_name places a b one two is =
    let first = and_parts (equal Binary (column a 1) (column b 1)) _ is in
    let second = and_parts (equal Binary (column a 2) (column b 2)) _ first.1 in
    let texts : equal Binary (Text one.customer) (Text two.customer) ≡ true = rw (one.text, two.text) at first.0 in
    let integers : equal Binary (Int one.number) (Int two.number) ≡ true = rw (one.integer, two.integer) at second.0 in (
      one.text ∙ ap Text (same_texts one.customer two.customer texts) ∙ sym two.text,
      one.integer ∙ ap Int (same_integers one.number two.number integers) ∙ sym two.integer,
    )

-- ---- without the rowid

pub column_of_cells : (row : Row) (at : ℕ) → column (drop 1 row) at ≡ column row (suc at)
column_of_cells [] at = refl
column_of_cells (x ∷ row) at = refl

pub any_among : {X : Type 0} (p : X → Bool) (xs : List X) → list_any p xs ≡ true → (x : X) × IsAmong x xs × (p x ≡ true)
any_among p [] is = absurd (true≢false (sym is))
any_among p (x ∷ xs) is = go (p x) refl is (any_among p xs)
  where
    go : (b : Bool) → p x ≡ b → (b || list_any p xs) ≡ true → (list_any p xs ≡ true → (y : _) × IsAmong y xs × (p y ≡ true)) → (y : _) × IsAmong y (x ∷ xs) × (p y ≡ true)
    go true here any later = (x, inl refl, here)
    go false here any later = let it = later any in (it.0, inr it.1, it.2)
