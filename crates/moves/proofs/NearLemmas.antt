-- fields without a mark to clear
use Rattle.std.proofs.Common.{◌≡◌, ℕ, zero, suc, ◌+◌, ◌-◌, ◌<◌, ◌≤◌, false, Option, Some, None, refl, sym, ◌∙◌, ap, arith, set}
use Rattle.std.specs.Option.{option_map}
use Rattle.std.proofs.lemmas.List.{set-get_or}
use Rattle.core_store.specs.Storage.{Storage, is_marked, code_at, greatest_mark, GreatestMark, field_length, with_mark}
use Rattle.core_store.specs.Operands.{near_length, sought_near}
use Rattle.core_store.proofs.Marks.{greatest_is_greatest}
use Rattle.core_store.proofs.NearMarks.{near_is_field}
use Rattle.moves.specs.Suppressed.{unmarked}

with_mark_same : (s : Storage) (p : ℕ) → is_marked s p ≡ false → with_mark s p false ≡ s
with_mark_same s p none = ap (λ m. set s p (code_at s p, m)) (sym none) ∙ set-get_or s p (0, false)

unmarked_same : (s : Storage) (first count : ℕ) → ((k : ℕ) → first ≤ k → k < first + count → is_marked s k ≡ false) → unmarked s first count ≡ s
unfolding unmarked
unmarked_same s first zero none = refl
unmarked_same s first (suc count) none =
    ap (λ t. with_mark t first false) (unmarked_same s (first + 1) count (λ k from before. none k (omega arith) (omega arith)))
    ∙ with_mark_same s first (none first (omega arith) (omega arith))

none_near : (s : Storage) (p count : ℕ) (found : Option ℕ) → count ≤ 16 → count ≤ p + 1 → GreatestMark s p found → count < sought_near (option_map (λ q. p + 1 - q) found) →
    (k : ℕ) → p + 1 - count ≤ k → k < p + 1 - count + count → is_marked s k ≡ false
none_near s p count None most le none far k from before = none k (omega arith)
none_near s p count (Some q) most le h far k from before = h.none_between k (omega arith) (omega arith)

pub none_to_clear : (s : Storage) (b count near : ℕ) → count ≤ 16 → count ≤ b + 1 → near ≡ near_length s b → count < near → s ≡ unmarked s (b + 1 - count) count
unfolding near_length field_length
none_to_clear s b count near most le is far =
    sym (unmarked_same s (b + 1 - count) count (none_near s b count (greatest_mark s b) most le (greatest_is_greatest s b) (omega arith)))

pub near_field : (s : Storage) (a near : ℕ) → near ≡ near_length s a → near ≤ 16 → field_length s a ≡ Some near
near_field s a near is le = sym (near_is_field s a near is le)
