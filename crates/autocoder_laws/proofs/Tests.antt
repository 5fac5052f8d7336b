-- for all laws: what tests say
use Rattle.std.proofs.Common.{◌≡◌, ℕ, ◌<◌, ◌==◌, Bool, true, false, not, refl, sym, arith}
use Rattle.std.proofs.lemmas.Bool.Decides.{nat_tests}

pub negated : (a : Bool) → not a ≡ true → a ≡ false
negated true h = sym h
negated false h = refl

pub not_not : (a : Bool) → not a ≡ false → a ≡ true
not_not true h = refl
not_not false h = sym h

pub some_test : (n : ℕ) → 0 < n → (n == 0) ≡ false
some_test n h = grind (arith, nat_tests)

pub test_some : (n : ℕ) → (n == 0) ≡ false → 0 < n
test_some n h = grind (arith, nat_tests)
