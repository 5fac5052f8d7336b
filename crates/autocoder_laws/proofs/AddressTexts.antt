-- for `expressions_are_read` and operands: addresses as they are spelled, read and read back
use Rattle.std.proofs.Common.{◌≡◌, ℕ, zero, suc, ◌+◌, ◌<◌, ◌==◌, ◌/◌, ◌%◌, ◌^◌, Bool, true, false, List, [], ◌∷◌, ◌++◌, length, take, drop, Option, Some, None, if◌then◌else◌, option_map, codes, refl, sym, ◌∙◌, ap, subst, arith, append_assoc, length-append, one-add, mod-lt}
use Rattle.std.specs.List.{list_all}
use Rattle.std.proofs.Math.Seq.{take-append_seam, drop-append_seam}
use Rattle.std.proofs.lemmas.Option.{some_pair_parts}
use Rattle.bcd.specs.Table.{glyph_of}
use Rattle.addresses.specs.Digits.{code_of}
use Rattle.addresses.specs.declared.tagged.IndexLocation.{IndexLocation}
use Rattle.addresses.specs.declared.tagged.IndexLocation.TheVariants.{First, Second, Third}
use Rattle.autocoder_statements.specs.Characters.{is_of, run, begins, begins_with_letter}
use Rattle.autocoder_statements.specs.Expressions.{digit_run, signed_run, number, base, adjustment_by, adjustment, index, expression, address}
use Rattle.autocoder_statements.specs.Laws.{digits_of}
use Rattle.autocoder_statements.specs.Names.{name_run, name_of}
use Rattle.autocoder_statements.specs.declared.characters.Class.TheVariants.{Digit, LetterOrDigit}
use Rattle.autocoder_statements.specs.Ranges.{IsAdjustmentInRange}
use Rattle.autocoder_statements.specs.declared.names.Name as label
use Rattle.autocoder_statements.specs.declared.expressions.Base.{Base}
use Rattle.autocoder_statements.specs.declared.expressions.Base.TheVariants.{Number, Name}
use Rattle.autocoder_statements.specs.declared.expressions.Adjustment.{Adjustment}
use Rattle.autocoder_statements.specs.declared.expressions.Adjustment.TheVariants.{Nothing, Plus, Minus}
use Rattle.autocoder_statements.specs.declared.expressions.Expression.{Expression}
use Rattle.autocoder_statements.specs.declared.expressions.Address.{Address}
use Rattle.autocoder_laws.specs.Texts.{is_one_of, digits, Joined, IsTyped, characters}
use Rattle.autocoder_laws.specs.Numbers.{IsNumber}
use Rattle.autocoder_laws.specs.Addresses.{HasSpelling, IsBase, IsAdjustment, IsExpression, IsIndex, IsAddress}
use Rattle.autocoder_laws.proofs.Classes.{letter_class, digit_named, is_of_digit, is_of_name, digits_no_letters}
use Rattle.autocoder_laws.proofs.Fronts.{Front, joined, changed, nothing, begins_typed, bound}
use Rattle.autocoder_statements.proofs.Found.{mapped}
use Rattle.autocoder_laws.proofs.NumberTexts.{run_front, run_whole, number_read, number_spelled_so, each_spelled}
use Rattle.autocoder_laws.proofs.NameTexts.{is_of_names, letter_first, name_read, name_spelled}
use Rattle.autocoder_laws.proofs.Stops.{Halts, Stops}
use Rattle.autocoder_laws.proofs.Tests.{some_test}
use Rattle.autocoder_statements.proofs.Tests.{both}

-- ---- digits of a number

all_digits : (count n : ℕ) → list_all (is_one_of digits) (digits_of count n) ≡ true
unfolding digits_of
all_digits zero n = refl
all_digits (suc k) n = rw (digit_named (n / 10 ^ k % 10) (mod-lt (n / 10 ^ k) {m = 10} (omega arith)), all_digits k n) refl

pub number_digits : (n : ℕ) (text : List ℕ) → IsNumber n text → list_all (is_one_of digits) text ≡ true
number_digits n text h = subst (λ t. list_all (is_one_of digits) t ≡ true) (sym h.said) (all_digits (length text) n)

pub not_a_letter : (text rest : List ℕ) → 0 < length text → list_all (is_one_of digits) text ≡ true → begins_with_letter (text ++ rest) ≡ false
unfolding begins_with_letter
not_a_letter [] rest some all = absurd (omega arith)
not_a_letter (c ∷ text) rest some all = letter_class c ∙ digits_no_letters c (both (is_one_of digits c) _ all).0

-- ---- bases

pub base_read : (b : Base) (text rest : List ℕ) → IsBase b text → name_run rest ≡ 0 → digit_run rest ≡ 0 → base (text ++ rest) ≡ Some (b, length text)
unfolding base
base_read (Number n) text rest h names none =
    rw (not_a_letter text rest h.some (number_digits n text h), number_read n text rest h none) refl
base_read (Name name) text rest h names none =
    rw (letter_first text rest h.letter, run_whole LetterOrDigit is_of_names is_of_name text rest h.others names, take-append_seam text rest, name_read name text h) refl

abbrev as_name : ℕ → label.Name → Base × ℕ
as_name count name = (Name name, count)

abbrev as_number : ℕ × ℕ → Base × ℕ
as_number found = (Number found.0, found.1)

pub base_spelled : (text : List ℕ) (b : Base) (n : ℕ) → base text ≡ Some (b, n) → Front (IsBase b) text n
unfolding base
base_spelled text b n e = by_test (begins_with_letter text) e
  where
    by_test : (test : Bool) →
        (if test then option_map (as_name (name_run text)) (name_of (take (name_run text) text)) else option_map as_number (number text)) ≡ Some (b, n) →
        Front (IsBase b) text n
    by_test true h =
        let (name, read, same) = mapped (as_name (name_run text)) (name_of (take (name_run text) text)) (b, n) h in
        let f = run_front LetterOrDigit is_of_names is_of_name text in
        let long : name_run text ≡ n = ap (λ p. p.1) same in
        let own : Name name ≡ b = ap (λ p. p.0) same in
        record {
          one = f.one;
          rest = f.rest;
          said = f.said;
          counted = f.counted ∙ long;
          is_one = subst (λ x. IsBase x f.one) own (name_spelled f.one name read);
        }
    by_test false h =
        let ((m, k), read, same) = mapped as_number (number text) (b, n) h in
        let long : k ≡ n = ap (λ p. p.1) same in
        let own : Number m ≡ b = ap (λ p. p.0) same in
        let f = number_spelled_so text m k read in
        record {
          one = f.one;
          rest = f.rest;
          said = f.said;
          counted = f.counted ∙ long;
          is_one = subst (λ x. IsBase x f.one) own f.is_one;
        }

-- ---- adjustments

plus_read : (n : ℕ) (digits_text rest : List ℕ) → IsNumber n digits_text → digit_run rest ≡ 0 →
    adjustment (48 ∷ (digits_text ++ rest)) ≡ Some (Plus n, 1 + length digits_text)
unfolding adjustment signed_run begins glyph_of
plus_read n text rest h none =
    rw (run_whole Digit (is_one_of digits) is_of_digit text rest (number_digits n text h) none, some_test (length text) h.some, number_read n text rest h none) refl

minus_read : (n : ℕ) (digits_text rest : List ℕ) → IsNumber n digits_text → digit_run rest ≡ 0 →
    adjustment (32 ∷ (digits_text ++ rest)) ≡ Some (Minus n, 1 + length digits_text)
unfolding adjustment signed_run begins glyph_of
minus_read n text rest h none =
    rw (run_whole Digit (is_one_of digits) is_of_digit text rest (number_digits n text h) none, some_test (length text) h.some, number_read n text rest h none) refl

pub adjustment_read : (a : Adjustment) (text rest : List ℕ) → IsAdjustment a text → Halts rest → adjustment (text ++ rest) ≡ Some (a, length text)
unfolding adjustment code_of
adjustment_read Nothing text rest h halts = rw (h, halts.signs) refl
adjustment_read (Plus n) text rest h halts =
    let e : text ≡ 48 ∷ h.other = h.said ∙ ap (λ one. one ++ h.other) h.is_one in
    ap (λ t. adjustment (t ++ rest)) e ∙ plus_read n h.other rest h.is_other halts.digits ∙ ap (λ k. Some (Plus n, k)) (one-add (length h.other) ∙ sym (ap length e))
adjustment_read (Minus n) text rest h halts =
    let e : text ≡ 32 ∷ h.other = h.said ∙ ap (λ one. one ++ h.other) h.is_one in
    ap (λ t. adjustment (t ++ rest)) e ∙ minus_read n h.other rest h.is_other halts.digits ∙ ap (λ k. Some (Minus n, k)) (one-add (length h.other) ∙ sym (ap length e))

signed_front : (glyphs text : List ℕ) (n k : ℕ) → length glyphs ≡ 1 → Front (IsTyped glyphs) text (length glyphs) → number (drop 1 text) ≡ Some (n, k) →
    Front (Joined (IsTyped glyphs) (IsNumber n)) text (1 + k)
signed_front glyphs text n k long f read =
    joined text 1 k (subst (Front (IsTyped glyphs) text) long f) (number_spelled_so (drop 1 text) n k read)

abbrev no_adjustment : Option (Adjustment × ℕ)
no_adjustment = Some (Nothing, 0)

abbrev as_adjustment : Bool → ℕ × ℕ → Adjustment × ℕ
as_adjustment plus found = (adjustment_by plus found.0, 1 + found.1)

abbrev by_count : List ℕ → Bool → ℕ → Option (Adjustment × ℕ)
by_count text plus count = if count == 0 then no_adjustment else option_map (as_adjustment plus) (number (drop 1 text))

pub adjustment_spelled : (text : List ℕ) (a : Adjustment) (n : ℕ) → adjustment text ≡ Some (a, n) → Front (IsAdjustment a) text n
unfolding adjustment signed_run code_of glyph_of
adjustment_spelled text a n e = by_plus (begins (codes "&") text) refl e
  where
    some : (plus : Bool) (glyphs : List ℕ) → length glyphs ≡ 1 → Front (IsTyped glyphs) text (length glyphs) →
        ((m : ℕ) (one : List ℕ) → Joined (IsTyped glyphs) (IsNumber m) one → IsAdjustment (adjustment_by plus m) one) →
        (test : Bool) → (if test then no_adjustment else option_map (as_adjustment plus) (number (drop 1 text))) ≡ Some (a, n) →
        Front (IsAdjustment a) text n
    some plus glyphs long f own true h =
        let same = some_pair_parts _ _ _ _ h in
        subst (Front (IsAdjustment a) text) same.1 (subst (λ x. Front (IsAdjustment x) text 0) same.0 (nothing text refl))
    some plus glyphs long f own false h =
        let ((m, k), found, same) = mapped (as_adjustment plus) (number (drop 1 text)) (a, n) h in
        let value : adjustment_by plus m ≡ a = ap (λ p. p.0) same in
        let count : 1 + k ≡ n = ap (λ p. p.1) same in
        subst (Front (IsAdjustment a) text) count (subst (λ x. Front (IsAdjustment x) text (1 + k)) value
        (changed text (1 + k) (own m) (signed_front glyphs text m k long f found)))

    by_minus : (test : Bool) → begins (codes "-") text ≡ test → by_count text false (if test then digit_run (drop 1 text) else 0) ≡ Some (a, n) → Front (IsAdjustment a) text n
    by_minus true t h = some false (codes "-") refl (begins_typed (codes "-") text refl t) (λ m one j. j) (digit_run (drop 1 text) == 0) h
    by_minus false t h =
        let same = some_pair_parts _ _ _ _ h in
        subst (Front (IsAdjustment a) text) same.1 (subst (λ x. Front (IsAdjustment x) text 0) same.0 (nothing text refl))

    by_plus : (test : Bool) → begins (codes "&") text ≡ test →
        by_count text test (if test then digit_run (drop 1 text) else (if begins (codes "-") text then digit_run (drop 1 text) else 0)) ≡ Some (a, n) → Front (IsAdjustment a) text n
    by_plus true t h = some true (codes "&") refl (begins_typed (codes "&") text refl t) (λ m one j. j) (digit_run (drop 1 text) == 0) h
    by_plus false t h = by_minus (begins (codes "-") text) refl h

-- ---- index locations

pub index_read : (i : Option IndexLocation) (text rest : List ℕ) → IsIndex i text → Stops rest → index (text ++ rest) ≡ (i, length text)
unfolding index begins glyph_of code_of
index_read None text rest h stops = rw h stops.tags
index_read (Some First) text rest h stops = rw h refl
index_read (Some Second) text rest h stops = rw h refl
index_read (Some Third) text rest h stops = rw h refl

abbrev Found : Type 0
Found = Option IndexLocation × ℕ

abbrev first : Found
first = (Some First, 3)

abbrev second : Found
second = (Some Second, 3)

abbrev third : Found
third = (Some Third, 3)

abbrev none : Found
none = (None, 0)

pub index_spelled : (text : List ℕ) (i : Option IndexLocation) (n : ℕ) → index text ≡ (i, n) → Front (IsIndex i) text n
unfolding index code_of glyph_of
index_spelled text i n e = by_first (begins (codes "&X1") text) refl e
  where
    own : (found : Found) → found ≡ (i, n) → Front (IsIndex found.0) text found.1 → Front (IsIndex i) text n
    own found same f = subst (λ (p : Found). Front (IsIndex p.0) text p.1) same f

    by_third : (test : Bool) → begins (codes "&X3") text ≡ test → (if test then third else none) ≡ (i, n) → Front (IsIndex i) text n
    by_third true t h = own third h (begins_typed (codes "&X3") text refl t)
    by_third false t h = own none h (nothing text refl)

    by_second : (test : Bool) → begins (codes "&X2") text ≡ test → (if test then second else (if begins (codes "&X3") text then third else none)) ≡ (i, n) →
        Front (IsIndex i) text n
    by_second true t h = own second h (begins_typed (codes "&X2") text refl t)
    by_second false t h = by_third (begins (codes "&X3") text) refl h

    by_first : (test : Bool) → begins (codes "&X1") text ≡ test →
        (if test then first else (if begins (codes "&X2") text then second else (if begins (codes "&X3") text then third else none))) ≡ (i, n) →
        Front (IsIndex i) text n
    by_first true t h = own first h (begins_typed (codes "&X1") text refl t)
    by_first false t h = by_second (begins (codes "&X2") text) refl h

-- ---- what follows

adjustment_stops : (a : Adjustment) (text rest : List ℕ) → IsAdjustment a text → Halts rest → (name_run (text ++ rest) ≡ 0) × (digit_run (text ++ rest) ≡ 0)
unfolding run is_of glyph_of code_of
adjustment_stops Nothing text rest h halts = rw h (halts.names, halts.digits)
adjustment_stops (Plus n) text rest h halts = let e : text ≡ 48 ∷ h.other = h.said ∙ ap (λ one. one ++ h.other) h.is_one in rw e (refl, refl)
adjustment_stops (Minus n) text rest h halts = let e : text ≡ 32 ∷ h.other = h.said ∙ ap (λ one. one ++ h.other) h.is_one in rw e (refl, refl)

index_stops : (i : Option IndexLocation) (text rest : List ℕ) → IsIndex i text → Halts rest → Halts (text ++ rest)
unfolding run is_of signed_run begins glyph_of code_of
index_stops None text rest h halts = rw h halts
index_stops (Some First) text rest h halts = rw h (record { digits = refl; names = refl; signs = refl })
index_stops (Some Second) text rest h halts = rw h (record { digits = refl; names = refl; signs = refl })
index_stops (Some Third) text rest h halts = rw h (record { digits = refl; names = refl; signs = refl })

-- ---- expressions and addresses

pub expression_read : (e : Expression) (text rest : List ℕ) → IsExpression e text → Halts rest → expression (text ++ rest) ≡ Some (e, length text)
unfolding expression
expression_read e text rest h halts =
    let split : text ++ rest ≡ h.one ++ (h.other ++ rest) = ap (λ t. t ++ rest) h.said ∙ append_assoc h.one h.other rest in
    let after = adjustment_stops e.adjustment h.other rest h.is_other halts in
    let long : length h.one + length h.other ≡ length text = sym (ap length h.said ∙ length-append h.one h.other) in
    rw (split, base_read e.base h.one (h.other ++ rest) h.is_one after.0 after.1, drop-append_seam h.one (h.other ++ rest), adjustment_read e.adjustment h.other rest h.is_other halts, long) refl

pub expression_spelled : (text : List ℕ) (e : Expression) (n : ℕ) → expression text ≡ Some (e, n) → Front (IsExpression e) text n
unfolding expression
expression_spelled text e n h =
    let ((b, j), first, more) = bound (base text) _ (e, n) h in
    let ((a, k), second, last) = bound (adjustment (drop j text)) _ (e, n) more in
    let whole : Some (record { base = b; adjustment = a }, j + k) ≡ Some (e, n) = last in
    let same = some_pair_parts _ _ _ _ whole in
    subst (Front (IsExpression e) text) same.1 (subst (λ x. Front (IsExpression x) text (j + k)) same.0
    (joined text j k (base_spelled text b j first) (adjustment_spelled (drop j text) a k second)))

pub address_read : (a : Address) (text rest : List ℕ) → IsAddress a text → Stops rest → address (text ++ rest) ≡ Some (a, length text)
unfolding address
address_read a text rest h stops =
    let split : text ++ rest ≡ h.one ++ (h.other ++ rest) = ap (λ t. t ++ rest) h.said ∙ append_assoc h.one h.other rest in
    let after = index_stops a.index h.other rest h.is_other stops.halts in
    let long : length h.one + length h.other ≡ length text = sym (ap length h.said ∙ length-append h.one h.other) in
    rw (split, expression_read a.expression h.one (h.other ++ rest) h.is_one after, drop-append_seam h.one (h.other ++ rest), index_read a.index h.other rest h.is_other stops, long) refl

pub address_spelled : (text : List ℕ) (a : Address) (n : ℕ) → address text ≡ Some (a, n) → Front (IsAddress a) text n
unfolding address
address_spelled text a n h =
    let ((e, j), first, more) = bound (expression text) _ (a, n) h in
    let found : Option IndexLocation × ℕ = index (drop j text) in
    let whole : Some (record { expression = e; index = (index (drop j text)).0 }, j + (index (drop j text)).1) ≡ Some (a, n) = more in
    let same = some_pair_parts _ _ _ _ whole in
    subst (Front (IsAddress a) text) same.1 (subst (λ x. Front (IsAddress x) text (j + (index (drop j text)).1)) same.0
    (joined text j (index (drop j text)).1 (expression_spelled text e j first) (index_spelled (drop j text) (index (drop j text)).0 (index (drop j text)).1 refl)))

-- ---- each expression can be spelled

base_spelling : (b : Base) → HasSpelling b → (text : List ℕ) × IsBase b text
base_spelling (Number n) h = (digits_of 5 n, each_spelled n h)
base_spelling (Name name) h = h

signed_number : (sign : List ℕ) (n : ℕ) → n < 100000 → Joined (IsTyped sign) (IsNumber n) (characters sign ++ digits_of 5 n)
signed_number sign n h = record { one = characters sign; other = digits_of 5 n; said = refl; is_one = refl; is_other = each_spelled n h }

adjustment_spelling : (a : Adjustment) → IsAdjustmentInRange a → (text : List ℕ) × IsAdjustment a text
adjustment_spelling Nothing h = ([], refl)
adjustment_spelling (Plus n) h = (characters (codes "&") ++ digits_of 5 n, signed_number (codes "&") n h)
adjustment_spelling (Minus n) h = (characters (codes "-") ++ digits_of 5 n, signed_number (codes "-") n h)

pub each_expression : (e : Expression) → HasSpelling e.base → IsAdjustmentInRange e.adjustment → (text : List ℕ) × IsExpression e text
each_expression e named small =
    let (one, is_one) = base_spelling e.base named in
    let (other, is_other) = adjustment_spelling e.adjustment small in
    (one ++ other, record { one = one; other = other; said = refl; is_one = is_one; is_other = is_other })
