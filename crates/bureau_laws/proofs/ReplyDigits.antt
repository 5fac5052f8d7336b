-- what holds of each digit holds of each byte of a number that is written
use Rattle.std.proofs.Common.{◌≡◌, ℕ, zero, suc, ◌<◌, ◌/◌, ◌%◌, ◌==◌, List, [], ◌∷◌, Bool, true, false, cond, ◌&&◌, decimal, refl, arith}
use Rattle.std.specs.Fmt.{digits, digits_onto, digit_glyph}
use Rattle.std.specs.List.{list_all}
use Rattle.std.specs.Str.{IsUtf8}
use Rattle.bcd.proofs.Tables.{at_each}
use Rattle.json.proofs.Printed.Utf8.{are_ascii, IsUtf8-are_ascii}
use Rattle.std.specs.Prelude.{nat_lt}

pub and_is : (a b : Bool) → a ≡ true → b ≡ true → (a && b) ≡ true
and_is true b x y = y
and_is false b x y = cc

either_passes : (p : ℕ → Bool) (b : Bool) (xs ys : List ℕ) → list_all p xs ≡ true → list_all p ys ≡ true → list_all p (cond b xs ys) ≡ true
either_passes p true xs ys x y = x
either_passes p false xs ys x y = y

digits_pass : (p : ℕ → Bool) → ((d : ℕ) → d < 10 → p (digit_glyph false d) ≡ true) → (k n : ℕ) (acc : List ℕ)
    → list_all p acc ≡ true → list_all p (digits_onto k 10 false n acc) ≡ true
digits_pass p each zero n acc pass = pass
digits_pass p each (suc k) n acc pass =
    let d : ℕ = digit_glyph false (n % 10) in
    let more : list_all p (d ∷ acc) ≡ true = and_is (p d) (list_all p acc) (each (n % 10) (omega arith)) pass in
    either_passes p (n / 10 == 0) (d ∷ acc) _ more (digits_pass p each k (n / 10) (d ∷ acc) more)

pub decimal_passes : (p : ℕ → Bool) → ((d : ℕ) → d < 10 → p (digit_glyph false d) ≡ true) → (n : ℕ) → list_all p (decimal n) ≡ true
unfolding digits
decimal_passes p each n = digits_pass p each 64 n [] refl

ascii_from_all : (xs : List ℕ) → list_all (λ x. nat_lt x 128) xs ≡ true → are_ascii xs ≡ true
ascii_from_all [] e = refl
ascii_from_all (x ∷ xs) e = let two = both (nat_lt x 128) (list_all (λ x. nat_lt x 128) xs) e in and_is (nat_lt x 128) (are_ascii xs) two.0 (ascii_from_all xs two.1)
  where
    both : (a b : Bool) → (a && b) ≡ true → (a ≡ true) × (b ≡ true)
    both true b h = (refl, h)
    both false b h = absurd (cc)

-- a number that is written is a text
pub decimal_is_text : (n : ℕ) → IsUtf8 (decimal n)
decimal_is_text n =
    IsUtf8-are_ascii (decimal n) (ascii_from_all (decimal n) (decimal_passes (λ x. nat_lt x 128) (at_each (λ k. nat_lt (digit_glyph false k) 128) 10 refl) n))
