-- numbers as digits
use Rattle.std.proofs.Common.{◌≡◌, ◌≢◌, ℕ, zero, suc, ◌+◌, ◌*◌, ◌-◌, ◌/◌, ◌%◌, ◌^◌, ◌<◌, ◌≤◌, ◌==◌, true, ◌&&◌, Option, Some, None, unwrap_or, List, [], ◌∷◌, ◌++◌, length, refl, ap, ◌∙◌, arith, leb, mul_assoc, length-append}
use Rattle.bcd.proofs.Tables.{at_each}
use Rattle.std.proofs.lemmas.Bool.{leb-true, ltb-true}
use Rattle.std.proofs.lemmas.List.Sums.{fold-append}
use Rattle.std.proofs.Math.Nat.{pow-suc}
use Rattle.std.specs.List.{fold}
use Rattle.card_tools.specs.Checking.{number_of, number_on}
use Rattle.card_tools.specs.Numbering.{columns_for, digit_character, digits_of, fits, is_digit}

-- the last digit stands behind the others
pub digits_on : (count number : ℕ) → count ≢ 0
    → digits_of count number ≡ digits_of (count - 1) (number / 10) ++ digit_character (number % 10) ∷ []
unfolding digits_of
digits_on zero number some = absurd (some refl)
digits_on (suc count) number some =
    let less : suc count - 1 ≡ count = omega arith in
    rw less refl

pub length-digits : (count number : ℕ) → length (digits_of count number) ≡ count
unfolding digits_of
length-digits zero number = refl
length-digits (suc count) number =
    omega (arith, length-append (digits_of count (number / 10)) (digit_character (number % 10) ∷ []), length-digits count (number / 10))

-- an ident and a number fill the eight columns
pub length-columns : (ident : List ℕ) (number : ℕ) → length ident ≤ 5 → length (columns_for ident number) ≡ 8
length-columns ident number short =
    omega (arith, length-append ident (digits_of (8 - length ident) number), length-digits (8 - length ident) number)

-- a number that fits is below a hundred million
power_at_most : (count : ℕ) → count < 9 → 10 ^ count ≤ 100000000
power_at_most count below = leb-true (10 ^ count) 100000000 (at_each (λ k. leb (10 ^ k) 100000000) 9 refl count below)

power_less : (count : ℕ) → count < 9 → 10 ^ count < 100000001
power_less count below = omega (arith, power_at_most count below)

pub fits_small : (ident : List ℕ) (number : ℕ) → fits ident number ≡ true → number < 100000000
fits_small ident number test =
    let within : number < 10 ^ (8 - length ident) = ltb-true number (10 ^ (8 - length ident)) test in
    omega (arith, within, power_at_most (8 - length ident) (omega arith))

-- so many digits are a number below that power of ten
pub within_eight : (count value : ℕ) → count < 8 → value < 10 ^ count → value < 100000000
within_eight count value below within = omega (arith, within, power_at_most count (omega (arith, below)))

-- a digit more
digit_read : (digit : ℕ) → digit < 10 → (is_digit (digit_character digit) && digit_character digit % 10 == digit) ≡ true
digit_read digit below = at_each (λ k. is_digit (digit_character k) && digit_character k % 10 == k) 10 refl digit below

digit_on : (number : Option ℕ) (digit : ℕ) → digit < 10 → number_on number (digit_character digit) ≡ Some (10 * unwrap_or number 0 + digit)
digit_on number digit below =
    let is : is_digit (digit_character digit) ≡ true = grind (arith, digit_read digit below) in
    let same : digit_character digit % 10 ≡ digit = grind (arith, digit_read digit below) in
    rw (is, same) refl

-- the number with which a number's digits end
digits_value : (count number : ℕ) (before : Option ℕ) → number < 10 ^ count
    → unwrap_or (fold number_on before (digits_of count number)) 0 ≡ unwrap_or before 0 * 10 ^ count + number
unfolding digits_of
digits_value zero number before within = omega arith
digits_value (suc count) number before within =
    let power = pow-suc 10 count in
    let front = digits_value count (number / 10) before (omega (arith, power)) in
    let last = digit_on (fold number_on before (digits_of count (number / 10))) (number % 10) (omega arith) in
    rw (fold-append number_on before (digits_of count (number / 10)) (digit_character (number % 10) ∷ []), last)
    (omega (arith, front, ap (λ ten. unwrap_or before 0 * ten) power, mul_assoc (unwrap_or before 0) (10 ^ count) 10))

digits_some : (count number : ℕ) (before : Option ℕ) → number < 10 ^ suc count
    → fold number_on before (digits_of (suc count) number) ≡ Some (unwrap_or before 0 * 10 ^ suc count + number)
unfolding digits_of
digits_some count number before within =
    let power = pow-suc 10 count in
    let front = digits_value count (number / 10) before (omega (arith, power)) in
    let last = digit_on (fold number_on before (digits_of count (number / 10))) (number % 10) (omega arith) in
    rw (fold-append number_on before (digits_of count (number / 10)) (digit_character (number % 10) ∷ []), last)
    (ap (λ value. Some value) (omega (arith, front, ap (λ ten. unwrap_or before 0 * ten) power, mul_assoc (unwrap_or before 0) (10 ^ count) 10)))

-- the number with which an ident ends, with as many zeros as there are columns behind it
pub base_of : List ℕ → ℕ
base_of ident = unwrap_or (fold number_on None ident) 0 * 10 ^ (8 - length ident)

-- the number with which numbered columns end
pub number_read : (ident : List ℕ) (number : ℕ) → length ident ≤ 5 → fits ident number ≡ true
    → number_of (columns_for ident number) ≡ Some (base_of ident + number)
unfolding base_of
number_read ident number short test =
    let within : number < 10 ^ (8 - length ident) = ltb-true number (10 ^ (8 - length ident)) test in
    let count : 8 - length ident ≡ suc (7 - length ident) = omega arith in
    let power : number < 10 ^ suc (7 - length ident) = rw count at within in
    fold-append number_on None ident (digits_of (8 - length ident) number)
    ∙ rw count (digits_some (7 - length ident) number (fold number_on None ident) power)
