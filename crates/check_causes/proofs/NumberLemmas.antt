-- characters that are a number have no position without a digit
use Rattle.std.proofs.Common.{◌≡◌, ℕ, zero, suc, ◌+◌, ◌-◌, ◌<◌, ◌≤◌, ◌&&◌, not, Bool, true, false, Option, Some, refl, sym, ap, ◌∙◌, arith, length, is_some, leb, add-one, if◌then◌else◌}
use Rattle.std.proofs.lemmas.Bool.{le-leb, lt-leb}
use Rattle.std.proofs.Math.Decide.{dec_lt}
use Rattle.bcd.specs.Table.{digit_of}
use Rattle.core_store.specs.Storage.{Storage, code_at, codes_ending}
use Rattle.arith.specs.Decimal.{is_number}
use Rattle.arith.proofs.DecimalNumbers.{number_none, number_more}
use Rattle.check_causes.specs.Fields.{first_without_digit}

step : (d n : Bool) (found : Option ℕ) (p : ℕ) → n ≡ not (is_some found) → (d && n) ≡ not (is_some (if d then found else Some p))
step true n found p h = h
step false n found p h = refl

pub number_is : (s : Storage) (p count : ℕ) → p < length s → count ≤ p + 1 → is_number (codes_ending s p count) ≡ not (is_some (first_without_digit s p count))
unfolding first_without_digit
number_is s p zero h le = number_none s p
number_is s p (suc count) h le =
    ap (λ n. is_number (codes_ending s p n)) (sym (add-one count)) ∙ number_more s p count h (omega arith)
    ∙ step (is_some (digit_of (code_at s (p - count)))) _ (first_without_digit s p count) (p - count) (number_is s p count h (omega arith))

-- a third character fits where two positions are below
pub two_or_three : (p : ℕ) → leb 2 p ≡ leb 3 (p + 1)
two_or_three p = elim (dec_lt 1 p) [
  | yes high ↦ le-leb 2 p (omega arith) ∙ sym (le-leb 3 (p + 1) (omega arith))
  | no low ↦ lt-leb 2 p (omega arith) ∙ sym (lt-leb 3 (p + 1) (omega arith))
]
