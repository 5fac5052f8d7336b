-- for `numbers_are_read`: numbers as they are spelled, read and read back
use Rattle.std.proofs.Common.{◌≡◌, ℕ, zero, suc, ◌+◌, ◌*◌, ◌/◌, ◌%◌, ◌^◌, ◌<◌, ◌≤◌, ◌==◌, nat_lt, Bool, true, false, List, [], ◌∷◌, ◌++◌, length, take, drop, Some, if◌then◌else◌, refl, sym, ◌∙◌, ap, ap₂, subst, arith, mod-eq_of_lt, length-take-le, take-append-drop, one-add, mul-le-mul_right}
use Rattle.std.specs.List.{list_all}
use Rattle.std.proofs.Math.Nat.{pow-succ', mul-add-div_right, mul-add-mod_self_right}
use Rattle.std.proofs.lemmas.Nat.{div-mul-add}
use Rattle.std.proofs.lemmas.Option.{some_pair_parts}
use Rattle.std.proofs.lemmas.Bool.Decides.{nat_tests}
use Rattle.bcd.specs.declared.Zone.TheVariants.{Bare}
use Rattle.addresses.specs.Digits.{digit_under}
use Rattle.autocoder_statements.specs.Characters.{is_of, run, number_of, digit_value}
use Rattle.autocoder_statements.specs.Expressions.{digit_run, number, positive}
use Rattle.autocoder_statements.specs.Laws.{digits_of}
use Rattle.autocoder_statements.specs.declared.characters.Class.{Class}
use Rattle.autocoder_statements.specs.declared.characters.Class.TheVariants.{Digit}
use Rattle.autocoder_statements.proofs.NumberLaw.{number_spelled, ten_pos}
use Rattle.autocoder_laws.specs.Texts.{is_one_of, digits}
use Rattle.autocoder_laws.specs.Numbers.{IsNumber, IsPositive}
use Rattle.autocoder_laws.proofs.Classes.{is_of_digit, digit_is}
use Rattle.autocoder_laws.proofs.Fronts.{Front, bound, if_none, changed}
use Rattle.autocoder_laws.proofs.Tests.{some_test, test_some}
use Rattle.autocoder_statements.proofs.Tests.{both}

-- ---- the run of a class

-- the run of a class at the beginning of a text is of the class
pub run_all : (class : Class) (test : ℕ → Bool) → ((c : ℕ) → is_of class c ≡ test c) → (text : List ℕ) → list_all test (take (run class text) text) ≡ true
unfolding run
run_all class test same [] = refl
run_all class test same (c ∷ text) = by_test (run_all class test same text) (is_of class c) refl
  where
    by_test : list_all test (take (run class text) text) ≡ true → (b : Bool) → is_of class c ≡ b → list_all test (take (if b then 1 + run class text else 0) (c ∷ text)) ≡ true
    by_test before true e = rw (one-add, sym (same c) ∙ e) before
    by_test before false e = refl

-- it is not longer than the text
pub run_within : (class : Class) (text : List ℕ) → run class text ≤ length text
unfolding run
run_within class [] = omega arith
run_within class (c ∷ text) = by_test (run_within class text) (is_of class c)
  where
    by_test : run class text ≤ length text → (b : Bool) → (if b then 1 + run class text else 0) ≤ suc (length text)
    by_test before true = omega arith
    by_test before false = omega arith

-- a text of the class, with no character of it after, is the run
pub run_whole : (class : Class) (test : ℕ → Bool) → ((c : ℕ) → is_of class c ≡ test c) → (text rest : List ℕ) → list_all test text ≡ true → run class rest ≡ 0 →
    run class (text ++ rest) ≡ length text
unfolding run
run_whole class test same [] rest all none = none
run_whole class test same (c ∷ text) rest all none =
    let p = both (test c) (list_all test text) all in
    rw (same c ∙ p.0, one-add) (ap suc (run_whole class test same text rest p.1 none))

-- the front of a text that is its run
abbrev pub run_front : (class : Class) (test : ℕ → Bool) → ((c : ℕ) → is_of class c ≡ test c) → (text : List ℕ) → Front (λ one. list_all test one ≡ true) text (run class text)
run_front class test same text = record {
  one = take (run class text) text;
  rest = drop (run class text) text;
  said = sym (take-append-drop (run class text) text);
  counted = length-take-le (run class text) text (run_within class text);
  is_one = run_all class test same text;
}

-- ---- digits

-- the last digits of a number do not depend on those before them
digits_of_more : (k m n : ℕ) → digits_of k (m * 10 ^ k + n) ≡ digits_of k n
unfolding digits_of
digits_of_more zero m n = refl
digits_of_more (suc k) m n =
    let e : m * 10 ^ suc k + n ≡ (m * 10) * 10 ^ k + n = ap (λ p. m * p + n) (pow-succ' 10 k) ∙ omega arith in
    let head : (m * 10 ^ suc k + n) / 10 ^ k % 10 ≡ n / 10 ^ k % 10 =
    ap (λ x. x / 10 ^ k % 10) e ∙ ap (λ x. x % 10) (mul-add-div_right (ten_pos k) (m * 10) n) ∙ mul-add-mod_self_right m 10 (n / 10 ^ k) in
    let tail : digits_of k (m * 10 ^ suc k + n) ≡ digits_of k n = ap (digits_of k) e ∙ digits_of_more k (m * 10) n in
    ap₂ (λ d ds. digit_under Bare d ∷ ds) head tail

pub record Spells (text : List ℕ) : Type 0 where
  pub below : number_of text < 10 ^ length text
  pub said : text ≡ digits_of (length text) (number_of text)

pub spells : (text : List ℕ) → list_all (is_one_of digits) text ≡ true → Spells text
unfolding digits_of number_of
spells [] all = record { below = omega arith; said = refl }
spells (c ∷ text) all =
    let p = both (is_one_of digits c) (list_all (is_one_of digits) text) all in
    let here = digit_is c p.0 in
    let rest = spells text p.1 in
    let v = digit_value c in
    let k = length text in
    let head : (v * 10 ^ k + number_of text) / 10 ^ k % 10 ≡ v =
    ap (λ x. x % 10) (div-mul-add v (10 ^ k) (number_of text) rest.below) ∙ mod-eq_of_lt here.1 in
    let tail : digits_of k (v * 10 ^ k + number_of text) ≡ text = digits_of_more k v (number_of text) ∙ sym rest.said in
    record {
      below = below v (10 ^ k) (number_of text) _ here.1 rest.below (pow-succ' 10 k);
      said = sym (ap₂ (λ d ds. digit_under Bare d ∷ ds) head tail ∙ ap (λ d. d ∷ text) (sym here.0));
    }
  where
    below : (v P r Q : ℕ) → v < 10 → r < P → Q ≡ 10 * P → v * P + r < Q
    below v P r Q h g e = let k : v * P ≤ 9 * P = mul-le-mul_right P (omega arith) in omega arith

-- ---- numbers

pub number_read : (n : ℕ) (text rest : List ℕ) → IsNumber n text → digit_run rest ≡ 0 → number (text ++ rest) ≡ Some (n, length text)
number_read n text rest h none =
    ap (λ t. number (t ++ rest)) h.said ∙ number_spelled (length text) n rest h.some h.few h.below none

few : (count : ℕ) → nat_lt 5 count ≡ false → count ≤ 5
few count h = grind (arith, nat_tests)

pub number_spelled_so : (text : List ℕ) (n count : ℕ) → number text ≡ Some (n, count) → Front (IsNumber n) text count
unfolding number
number_spelled_so text n count e =
    let p = if_none (digit_run text == 0) _ _ e in
    let q = if_none (nat_lt 5 (digit_run text)) _ _ p.1 in
    let last : Some (number_of (take (digit_run text) text), digit_run text) ≡ Some (n, count) = q.1 in
    let same = some_pair_parts _ _ _ _ last in
    let f = run_front Digit (is_one_of digits) is_of_digit text in
    let s = spells f.one f.is_one in
    let value : number_of f.one ≡ n = same.0 in
    let long : digit_run text ≡ count = same.1 in
    record {
      one = f.one;
      rest = f.rest;
      said = f.said;
      counted = f.counted ∙ long;
      is_one = record {
        some = subst (λ k. 0 < k) (sym f.counted) (test_some (digit_run text) p.0);
        few = subst (λ k. k ≤ 5) (sym f.counted) (few (digit_run text) q.0);
        below = subst (λ k. k < 10 ^ length f.one) value s.below;
        said = s.said ∙ ap (digits_of (length f.one)) value;
      };
    }

-- ---- numbers other than 0

pub positive_read : (n : ℕ) (text rest : List ℕ) → IsPositive n text → digit_run rest ≡ 0 → positive (text ++ rest) ≡ Some (n, length text)
unfolding positive
positive_read n text rest h none =
    rw (number_read n text rest h.number none, some_test n h.positive) refl

pub positive_spelled : (text : List ℕ) (n count : ℕ) → positive text ≡ Some (n, count) → Front (IsPositive n) text count
unfolding positive
positive_spelled text n count e =
    let (found, read, more) = bound (number text) _ _ e in
    let p = if_none (found.0 == 0) (Some found) (n, count) more in
    let same : number text ≡ Some (n, count) = cc in
    let some : 0 < n = test_some n (subst (λ f. (f.0 == 0) ≡ false) (some_same found (n, count) p.1) p.0) in
    changed text count (λ one h. record { positive = some; number = h }) (number_spelled_so text n count same)
  where
    some_same : (a b : ℕ × ℕ) → Some a ≡ Some b → a ≡ b
    some_same a b h = cc

-- ---- each number can be spelled

digits_long : (count n : ℕ) → length (digits_of count n) ≡ count
unfolding digits_of
digits_long zero n = refl
digits_long (suc k) n = ap suc (digits_long k n)

pub each_spelled : (n : ℕ) → n < 100000 → IsNumber n (digits_of 5 n)
each_spelled n below =
    let long = digits_long 5 n in
    record {
      some = subst (λ k. 0 < k) (sym long) (omega arith);
      few = subst (λ k. k ≤ 5) (sym long) (omega arith);
      below = subst (λ k. n < 10 ^ k) (sym long) below;
      said = ap (λ k. digits_of k n) (sym long);
    }

pub each_number : (n : ℕ) → 0 < n → n < 100000 → IsPositive n (digits_of 5 n)
each_number n some below = record { positive = some; number = each_spelled n below }
