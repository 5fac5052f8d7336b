-- what is spelled is read again
use Rattle.std.proofs.Common.{◌≡◌, ℕ, zero, suc, ◌-◌, ◌/◌, ◌%◌, ◌^◌, ◌<◌, ◌==◌, true, refl, ◌∙◌, ap, arith, length, get_or, if◌then◌else◌, is_some}
use Rattle.std.proofs.Math.Nat.{mod-lt}
use Rattle.std.proofs.Math.Dec.{eqb-suc-zero}
use Rattle.bcd.specs.Table.{zone_of}
use Rattle.bcd.specs.declared.Zone.{Zone}
use Rattle.bcd.specs.declared.Zone.TheVariants.{Bare}
use Rattle.addresses.specs.Digits.{digit_under}
use Rattle.addresses.proofs.DigitLemmas.{digit_of-digit_under, zone_of-digit_under}
use Rattle.arith.specs.Decimal.{is_number, spelled, IsSpelled}
use Rattle.arith.proofs.SumDigits.{length-spelled, value-spelled}
use Rattle.arith.proofs.DecimalNumbers.{both_hold}

is_digit : (t P : ℕ) → t / P % 10 < 10
is_digit t P = mod-lt (t / P) {m = 10} (omega arith)

number-spelled : (t k : ℕ) (zone : Zone) → is_number (spelled t k zone) ≡ true
unfolding spelled is_number
number-spelled t zero zone = refl
number-spelled t (suc k) zone =
    both_hold _ _ (ap is_some (digit_of-digit_under (if k == 0 then zone else Bare) (t / 10 ^ k % 10) (is_digit t (10 ^ k)))) (number-spelled t k zone)

zone_last : (t k : ℕ) (zone : Zone) → zone_of (get_or (spelled t (suc k) zone) k 0) ≡ zone
unfolding spelled
zone_last t zero zone = zone_of-digit_under zone (t / 10 ^ 0 % 10) (is_digit t (10 ^ 0))
zone_last t (suc k) zone = zone_last t k zone

zone_before : (t k i : ℕ) (zone : Zone) → i < k → zone_of (get_or (spelled t (suc k) zone) i 0) ≡ Bare
unfolding spelled
zone_before t zero i zone lt = absurd (omega arith)
zone_before t (suc k) zero zone lt =
    ap (λ b. zone_of (digit_under (if b then zone else Bare) (t / 10 ^ suc k % 10))) (eqb-suc-zero k) ∙ zone_of-digit_under Bare (t / 10 ^ suc k % 10) (is_digit t (10 ^ suc k))
zone_before t (suc k) (suc i) zone lt = zone_before t k i zone (omega arith)

pub spelled_read : (t k : ℕ) (zone : Zone) → IsSpelled t k zone (spelled t k zone)
spelled_read t zero zone =
    record { long = length-spelled t 0 zone; number = number-spelled t 0 zone; value = value-spelled t 0 zone; sign = λ some. absurd (omega arith); bare = λ i lt. absurd (omega arith) }
spelled_read t (suc k) zone =
    let last : length (spelled t (suc k) zone) - 1 ≡ k = omega (arith, length-spelled t (suc k) zone) in
    record {
      long = length-spelled t (suc k) zone;
      number = number-spelled t (suc k) zone;
      value = value-spelled t (suc k) zone;
      sign = λ some. ap (λ n. zone_of (get_or (spelled t (suc k) zone) n 0)) last ∙ zone_last t k zone;
      bare = λ i lt. zone_before t k i zone (omega arith);
    }
