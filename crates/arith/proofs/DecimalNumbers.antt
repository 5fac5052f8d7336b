-- the operands of arithmetic
use Rattle.std.proofs.Common.{◌≡◌, ℕ, zero, suc, ◌+◌, ◌-◌, ◌<◌, ◌≤◌, ◌&&◌, Bool, true, false, refl, ◌∙◌, ap, arith, length, is_some}
use Rattle.bcd.specs.Table.{digit_of}
use Rattle.core_store.specs.Storage.{Storage, code_at, codes_ending}
use Rattle.core_store.proofs.Fields.{codes_ending_more, codes_ending-none}
use Rattle.arith.specs.Decimal.{is_number}

-- ---- numbers

pub number_none : (s : Storage) (p : ℕ) → is_number (codes_ending s p 0) ≡ true
unfolding is_number
number_none s p = ap is_number (codes_ending-none s p)

pub number_more : (s : Storage) (p i : ℕ) → p < length s → i ≤ p → is_number (codes_ending s p (i + 1)) ≡ (is_some (digit_of (code_at s (p - i))) && is_number (codes_ending s p i))
unfolding is_number
number_more s p i h le = ap is_number (codes_ending_more s p i h le)

-- a code without a value makes all longer ones no number
pub not_number : (s : Storage) (p i more : ℕ) → p < length s → i + 1 + more ≤ p + 1 → is_some (digit_of (code_at s (p - i))) ≡ false → is_number (codes_ending s p (i + 1 + more)) ≡ false
not_number s p i zero h le bad =
    let none : i + 1 + 0 ≡ i + 1 = omega arith in
    ap (λ n. is_number (codes_ending s p n)) none ∙ number_more s p i h (omega arith) ∙ ap (λ b. b && is_number (codes_ending s p i)) bad
not_number s p i (suc more) h le bad =
    let last : i + 1 + suc more ≡ i + 1 + more + 1 = omega arith in
    ap (λ n. is_number (codes_ending s p n)) last ∙ number_more s p (i + 1 + more) h (omega arith)
    ∙ ap (λ b. is_some (digit_of (code_at s (p - (i + 1 + more)))) && b) (not_number s p i more h (omega arith) bad)
    ∙ and_false (is_some (digit_of (code_at s (p - (i + 1 + more))))) where
      and_false : (b : Bool) → (b && false) ≡ false
      and_false true = refl
      and_false false = refl

pub both_hold : (a b : Bool) → a ≡ true → b ≡ true → (a && b) ≡ true
both_hold a b ha hb = rw (ha, hb) refl
