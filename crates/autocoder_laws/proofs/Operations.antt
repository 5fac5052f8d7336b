-- for `cards_are_read`: the operation that the name in an operation field is of
use Rattle.std.proofs.Common.{◌≡◌, ℕ, zero, suc, ◌-◌, ◌<◌, ◌==◌, Bool, true, false, not, ◌&&◌, List, [], ◌∷◌, ◌++◌, length, get_or, map, replicate, Option, Some, None, if◌then◌else◌, option_map, refl, sym, ◌∙◌, ap, subst, arith, length-append, eqb-true}
use Rattle.std.proofs.lemmas.List.{get_or_read, get_or_default, get_or-map}
use Rattle.bcd.proofs.Tables.{at_each}
use Rattle.bcd.specs.Table.{glyph_of}
use Rattle.addresses.specs.Digits.{code_of}
use Rattle.autocoder_statements.specs.Characters.{is_of, run, begins, with_blanks}
use Rattle.autocoder_statements.specs.Laws.{names}
use Rattle.autocoder_statements.specs.Mnemonics.{orders, mnemonics, entry, or_else, mnemonic_of, operation_named}
use Rattle.autocoder_statements.specs.Statements.{word, is_broken, operation_in}
use Rattle.autocoder_statements.specs.declared.operand_forms.OperandForm.{OperandForm}
use Rattle.autocoder_statements.specs.declared.operand_forms.OperandForm.TheVariants.{Empty, One, Two}
use Rattle.autocoder_statements.specs.declared.operand_forms.OperandForms.{OperandForms}
use Rattle.autocoder_statements.specs.declared.operations.Operation.{Operation}
use Rattle.autocoder_statements.specs.declared.operations.Operation.TheVariants as operation
use Rattle.autocoder_statements.proofs.OperationLaw.{one_operation}
use Rattle.autocoder_laws.specs.Texts.{characters}
use Rattle.autocoder_laws.specs.Cards.{operations, IsNamed}
use Rattle.autocoder_laws.proofs.Fronts.{are_glyphs, begins_typed, whole_front}
use Rattle.autocoder_laws.proofs.Words.{parts}
use Rattle.autocoder_laws.proofs.Tests.{negated}
use Rattle.autocoder_statements.proofs.Tests.{both}

abbrev Row : Type 0
Row = List ℕ × Operation

abbrev none : Row
none = ([], operation.Job)

abbrev row_at : ℕ → Row
row_at k = get_or operations k none

-- ---- forms that no field has both of

abbrev pub is_apart : OperandForm → OperandForm → Bool
is_apart Empty (One kind) = true
is_apart Empty (Two kind other) = true
is_apart (One kind) (Two other third) = true
is_apart _ _ = false

abbrev may_be_apart : OperandForm → Option OperandForm → Bool
may_be_apart form None = true
may_be_apart form (Some other) = is_apart form other

abbrev both_apart : Option OperandForm → Option OperandForm → Bool
both_apart None other = true
both_apart (Some form) other = may_be_apart form other

abbrev pub are_apart : OperandForms → Bool
are_apart forms = may_be_apart forms.form forms.other && (may_be_apart forms.form forms.third && both_apart forms.other forms.third)

abbrev pub has_forms_apart : Operation → Bool
has_forms_apart (operation.Instruction mnemonic) = are_apart mnemonic.forms
has_forms_apart _ = true

-- ---- what holds of each row

-- how many rows the tables of orders and mnemonics have together
abbrev row_count : ℕ
row_count = length operations

abbrev is_right : Row → Bool
is_right row = (length row.0 == 5) && (are_glyphs row.0 && (not (is_broken (characters row.0)) && begins row.0 (with_blanks 5 (word (characters row.0)))))

rows_right : (k : ℕ) → k < row_count → is_right (row_at k) ≡ true
unfolding operations orders mnemonics begins with_blanks is_broken run is_of glyph_of code_of
rows_right k h = at_each (λ i. is_right (row_at i)) row_count refl k h

rows_apart : (k : ℕ) → k < row_count → has_forms_apart (row_at k).1 ≡ true
unfolding operations orders mnemonics
rows_apart k h = at_each (λ i. has_forms_apart (row_at i).1) row_count refl k h

pub many : length operations ≡ row_count
unfolding operations orders mnemonics
many = refl

same_names : (i : ℕ) → i < row_count → get_or names i [] ≡ (row_at i).0
unfolding operations names orders mnemonics
same_names i h = get_or-map (λ (row : Row). row.0) operations i none [] h

-- ---- the search

entry_append : {A : Type 0} (xs ys : List (List ℕ × A)) (w : List ℕ) → entry (xs ++ ys) w ≡ or_else (entry xs w) (entry ys w)
unfolding entry
entry_append [] ys w = refl
entry_append (row ∷ xs) ys w = by_test (begins row.0 w) (entry_append xs ys w)
  where
    by_test : (test : Bool) → entry (xs ++ ys) w ≡ or_else (entry xs w) (entry ys w) →
        (if test then Some row.1 else entry (xs ++ ys) w) ≡ or_else (if test then Some row.1 else entry xs w) (entry ys w)
    by_test true h = refl
    by_test false h = h

entry_map : {A B : Type 0} (f : A → B) (rows : List (List ℕ × A)) (w : List ℕ) → entry (map (λ row. (row.0, f row.1)) rows) w ≡ option_map f (entry rows w)
unfolding entry
entry_map f [] w = refl
entry_map f (row ∷ rows) w = by_test (begins row.0 w) (entry_map f rows w)
  where
    by_test : (test : Bool) → entry (map (λ row. (row.0, f row.1)) rows) w ≡ option_map f (entry rows w) →
        (if test then Some (f row.1) else entry (map (λ row. (row.0, f row.1)) rows) w) ≡ option_map f (if test then Some row.1 else entry rows w)
    by_test true h = refl
    by_test false h = h

named_is : (w : List ℕ) → operation_named w ≡ entry operations w
unfolding operation_named operations
named_is w = sym (entry_append orders (map (λ row. (row.0, operation.Instruction (mnemonic_of row.1))) mnemonics) w
    ∙ ap (or_else (entry orders w)) (entry_map (λ row. operation.Instruction (mnemonic_of row)) mnemonics w))

found : (rows : List Row) (w : List ℕ) (k : ℕ) → k < length rows → begins (get_or rows k none).0 w ≡ true →
    ((i : ℕ) → i < k → begins (get_or rows i none).0 w ≡ false) → entry rows w ≡ Some (get_or rows k none).1
unfolding entry
found [] w k low h others = absurd (omega arith)
found (row ∷ rows) w zero low h others = rw h refl
found (row ∷ rows) w (suc k) low h others = rw (others 0 (omega arith)) (found rows w k (omega arith) h (λ i less. others (suc i) (omega arith)))

record Found (rows : List Row) (w : List ℕ) (o : Operation) : Type 0 where
  k : ℕ
  low : k < length rows
  begun : begins (get_or rows k none).0 w ≡ true
  is : (get_or rows k none).1 ≡ o

found_back : (rows : List Row) (w : List ℕ) (o : Operation) → entry rows w ≡ Some o → Found rows w o
unfolding entry
found_back [] w o e = absurd (cc)
found_back (row ∷ rows) w o e = by_test (begins row.0 w) refl (found_back rows w o) e
  where
    by_test : (test : Bool) → begins row.0 w ≡ test → (entry rows w ≡ Some o → Found rows w o) → (if test then Some row.1 else entry rows w) ≡ Some o → Found (row ∷ rows) w o
    by_test true t more h = record { k = 0; low = omega arith; begun = t; is = same row.1 o h }
      where
        same : (a b : Operation) → Some a ≡ Some b → a ≡ b
        same a b h = cc
    by_test false t more h = let f = more h in record { k = suc f.k; low = omega (arith, f.low); begun = f.begun; is = f.is }

-- ---- operation fields

record Right (name : List ℕ) : Type 0 where
  long : length name ≡ 5
  glyphs : are_glyphs name ≡ true
  unbroken : is_broken (characters name) ≡ false
  begun : begins name (with_blanks 5 (word (characters name))) ≡ true

right : (k : ℕ) → k < row_count → Right (row_at k).0
right k h =
    let name = (row_at k).0 in
    let p = both (length name == 5) _ (rows_right k h) in
    let q = both (are_glyphs name) _ p.1 in
    let r = both (not (is_broken (characters name))) _ q.1 in
    record { long = eqb-true _ _ p.0; glyphs = q.0; unbroken = negated _ r.0; begun = r.1 }

-- no earlier row begins what a row begins
first_row : (w : List ℕ) (k i : ℕ) → k < row_count → begins (row_at k).0 w ≡ true → i < k → begins (row_at i).0 w ≡ false
unfolding operations names orders mnemonics
first_row w k i low h less = by_test (begins (row_at i).0 w) refl
  where
    by_test : (test : Bool) → begins (row_at i).0 w ≡ test → test ≡ false
    by_test false t = refl
    by_test true t =
        let at_i : begins (get_or names i []) w ≡ true = ap (λ n. begins n w) (same_names i (omega arith)) ∙ t in
        let at_k : begins (get_or names k []) w ≡ true = ap (λ n. begins n w) (same_names k low) ∙ h in
        let same : i ≡ k = one_operation w i k (omega arith) low at_i at_k in
        absurd (omega arith)

pub record Operated (o : Operation) (field : List ℕ) : Type 0 where
  pub unbroken : is_broken field ≡ false
  pub found : operation_in field ≡ Some o
  pub apart : has_forms_apart o ≡ true

pub operation_read : (o : Operation) (field : List ℕ) → IsNamed o field → Operated o field
unfolding operation_in
operation_read o field h =
    let (k, low, e) = h.named in
    let small : k < row_count = subst (λ n. k < n) many low in
    let own : (h.name, o) ≡ row_at k = get_or_read operations k (h.name, o) low (sym e) none in
    let fine = subst Right (ap (λ (row : Row). row.0) (sym own)) (right k small) in
    let w : List ℕ = with_blanks 5 (word (characters h.name)) in
    let begun : begins (row_at k).0 w ≡ true = ap (λ (row : Row). begins row.0 w) (sym own) ∙ fine.begun in
    record {
      unbroken = ap is_broken h.said ∙ fine.unbroken;
      found = ap (λ f. operation_named (with_blanks 5 (word f))) h.said ∙ named_is w
          ∙ found operations w k low begun (λ i less. first_row w k i small begun less)
          ∙ ap (λ (row : Row). Some row.1) (sym own);
      apart = ap (λ (row : Row). has_forms_apart row.1) own ∙ rows_apart k small;
    }

-- a field of five columns is its word and blanks
filled_up : (field : List ℕ) → length field ≡ 5 → is_broken field ≡ false → with_blanks 5 (word field) ≡ field
unfolding with_blanks
filled_up field long h =
    let p = parts field h in
    let count : 5 - length (word field) ≡ length p.other = omega (arith, ap length p.said, length-append (word field) p.other) in
    ap (λ n. word field ++ replicate n 0) count ∙ ap (λ t. word field ++ t) (sym p.blanks) ∙ sym p.said

pub operation_spelled : (o : Operation) (field : List ℕ) → length field ≡ 5 → is_broken field ≡ false → operation_in field ≡ Some o → IsNamed o field
unfolding operation_in
operation_spelled o field long h e =
    let f = found_back operations (with_blanks 5 (word field)) o (sym (named_is (with_blanks 5 (word field))) ∙ e) in
    let small : f.k < row_count = subst (λ n. f.k < n) many f.low in
    let fine = right f.k small in
    let begun : begins (row_at f.k).0 field ≡ true = ap (begins (row_at f.k).0) (sym (filled_up field long h)) ∙ f.begun in
    let own : row_at f.k ≡ ((row_at f.k).0, o) = ap (λ x. ((row_at f.k).0, x)) f.is in
    record {
      name = (row_at f.k).0;
      named = (f.k, f.low, get_or_default operations f.k _ none f.low ∙ own);
      said = whole_front field (length (row_at f.k).0) (begins_typed (row_at f.k).0 field fine.glyphs begun) (long ∙ sym fine.long);
    }
