-- characters without a digit, one more to the left
use Rattle.std.proofs.Common.{◌≡◌, ℕ, suc, ◌+◌, ◌-◌, Some, None, refl, ap, ◌∙◌, is_some, add-one, if◌then◌else◌}
use Rattle.bcd.specs.Table.{digit_of}
use Rattle.core_store.specs.Storage.{Storage, code_at}
use Rattle.check_causes.specs.Fields.{first_without_digit}

pub none_first : (s : Storage) (p : ℕ) → first_without_digit s p 0 ≡ None
unfolding first_without_digit
none_first s p = refl

next_one : (s : Storage) (p count : ℕ) → first_without_digit s p (suc count) ≡ (if is_some (digit_of (code_at s (p - count))) then first_without_digit s p count else Some (p - count))
unfolding first_without_digit
next_one s p count = refl

pub next_first : (s : Storage) (p count : ℕ) → first_without_digit s p (count + 1) ≡ (if is_some (digit_of (code_at s (p - count))) then first_without_digit s p count else Some (p - count))
next_first s p count = ap (first_without_digit s p) (add-one count) ∙ next_one s p count
