-- for the law `a_number_is_read`: a number that is spelled is read
use Rattle.std.proofs.Common.{◌≡◌, ℕ, zero, suc, ◌+◌, ◌*◌, ◌/◌, ◌%◌, ◌^◌, ◌<◌, ◌≤◌, ◌==◌, nat_lt, true, false, List, ◌∷◌, ◌++◌, length, take, Some, unwrap_or, refl, sym, ◌∙◌, ap, arith}
use Rattle.std.proofs.Math.Nat.{one-le-pow, mod-lt, mod-one, mod-eq_of_lt, pow-succ'}
use Rattle.std.proofs.Math.Arith.{mod-mul}
use Rattle.std.proofs.lemmas.Bool.Decides.{nat_tests}
use Rattle.bcd.proofs.Tables.{at_each}
use Rattle.bcd.specs.Table.{glyph_of}
use Rattle.bcd.specs.declared.Zone.TheVariants.{Bare}
use Rattle.addresses.specs.Digits.{code_of, digit_under}
use Rattle.addresses.proofs.DigitLemmas.{digit_of-digit_under}
use Rattle.autocoder_statements.specs.Characters.{run, is_of, number_of, digit_value}
use Rattle.autocoder_statements.specs.Expressions.{number}
use Rattle.autocoder_statements.specs.Laws.{digits_of}
use Rattle.autocoder_statements.specs.declared.characters.Class.TheVariants.{Digit}

digit_is : (d : ℕ) → d < 10 → is_of Digit (digit_under Bare d) ≡ true
unfolding is_of digit_under code_of glyph_of
digit_is d h = at_each (λ k. is_of Digit (digit_under Bare k)) 10 refl d h

below_ten : (n k : ℕ) → n / 10 ^ k % 10 < 10
below_ten n k = mod-lt (n / 10 ^ k) {m = 10} (omega arith)

run_digits : (count n : ℕ) (rest : List ℕ) → run Digit rest ≡ 0 → run Digit (digits_of count n ++ rest) ≡ count
unfolding digits_of run
run_digits zero n rest h = h
run_digits (suc k) n rest h = rw (digit_is (n / 10 ^ k % 10) (below_ten n k)) (omega (arith, run_digits k n rest h))

take_digits : (count n : ℕ) (rest : List ℕ) → take count (digits_of count n ++ rest) ≡ digits_of count n
unfolding digits_of
take_digits zero n rest = refl
take_digits (suc k) n rest = ap (λ digits. digit_under Bare (n / 10 ^ k % 10) ∷ digits) (take_digits k n rest)

length_digits : (count n : ℕ) → length (digits_of count n) ≡ count
unfolding digits_of
length_digits zero n = refl
length_digits (suc k) n = ap suc (length_digits k n)

pub ten_pos : (k : ℕ) → 0 < 10 ^ k
ten_pos k = let h : 1 ≤ 10 ^ k = one-le-pow k 10 (omega arith) in omega arith

number_digits : (count n : ℕ) → number_of (digits_of count n) ≡ n % 10 ^ count
unfolding digits_of number_of
number_digits zero n = sym (mod-one n)
number_digits (suc k) n =
    let value : digit_value (digit_under Bare (n / 10 ^ k % 10)) ≡ n / 10 ^ k % 10 = ap (λ found. unwrap_or found 0) (digit_of-digit_under Bare (n / 10 ^ k % 10) (below_ten n k)) in
    ap (λ d. d * 10 ^ length (digits_of k n) + number_of (digits_of k n)) value
    ∙ ap (λ l. n / 10 ^ k % 10 * 10 ^ l + number_of (digits_of k n)) (length_digits k n)
    ∙ ap (λ m. n / 10 ^ k % 10 * 10 ^ k + m) (number_digits k n)
    ∙ sym (ap (λ m. n % m) (pow-succ' 10 k) ∙ mod-mul n (omega arith) (ten_pos k))

some_digits : (count : ℕ) → 0 < count → (count == 0) ≡ false
some_digits count h = grind (arith, nat_tests)

few_digits : (count : ℕ) → count ≤ 5 → nat_lt 5 count ≡ false
few_digits count h = grind (arith, nat_tests)

pub number_spelled : (count n : ℕ) (rest : List ℕ) → 0 < count → count ≤ 5 → n < 10 ^ count → run Digit rest ≡ 0 →
    number (digits_of count n ++ rest) ≡ Some (n, count)
unfolding number
number_spelled count n rest some few below h =
    rw (run_digits count n rest h, some_digits count some, few_digits count few, take_digits count n rest, number_digits count n, mod-eq_of_lt below) refl
