-- the operations as wholes
use Rattle.std.proofs.Common.{◌≡◌, ℕ, ◌+◌, ◌-◌, Bool, true, List, sym, ◌∙◌, ap, not, ◌||◌, if◌then◌else◌, Ok}
use mathlib.Core.Bool.{beq}
use Rattle.bcd.specs.Table.{zone_of}
use Rattle.bcd.specs.declared.Zone.{Zone}
use Rattle.core_store.specs.Storage.{Storage, code_at, codes_ending, put_codes}
use Rattle.core_store.specs.declared.registers.Registers.{Registers}
use Rattle.arith.specs.Decimal.{value, is_number, sign_zone, spelled}
use Rattle.core_store.specs.Operands.{lowered, is_minus_zone}
use Rattle.arith.specs.Operands.{counts_apart, AreCounts}
use Rattle.arith.specs.declared.operands.Counts.{Counts}
use Rattle.arith.specs.Sums.{added, zero_added, sum_codes, sum_overflows, sign_taken}
use Rattle.arith.specs.Joining.{joined_total}
use Rattle.arith.specs.declared.joining.Joined.TheVariants.{Copy}
use Rattle.arith.proofs.SumSigns.{turned, a_minus}

module _ (reversed : Bool) (s : Storage) (r : Registers) (counts : Counts) (found : Ok counts ≡ counts_apart s r.a r.b) (known : AreCounts s r.a r.b counts.a counts.b)
    (a_number : true ≡ is_number (codes_ending s r.a counts.a)) where
  abbrev A : List ℕ
  A = codes_ending s r.a counts.a

  abbrev B : List ℕ
  B = codes_ending s r.b counts.b

  module _ (minus_a : Bool) (sign : minus_a ≡ is_minus_zone (zone_of (code_at s r.a))) where
    taken : not (beq minus_a reversed) ≡ sign_taken reversed A
    taken =
        ap (λ m. not (beq m reversed)) sign
        ∙ turned (is_minus_zone (zone_of (code_at s r.a))) reversed
        ∙ ap (λ m. if reversed then not m else m) (sym (a_minus s r.a counts.a r.b counts.b known reversed))

    module _ (new : Storage) (after : Registers) (lower : after ≡ record r { a = lowered r.a counts.a; b = lowered r.b counts.b }) where
      pub added_is : (overflows : Bool) → true ≡ is_number B → new ≡ put_codes s (r.b + 1 - counts.b) (sum_codes (not (beq minus_a reversed)) A B) →
          overflows ≡ sum_overflows (not (beq minus_a reversed)) A B → added reversed s r ≡ Ok (new, record after { overflow = after.overflow || overflows })
      unfolding added
      added_is overflows b_number written carried =
          rw (← found, ← a_number, ← b_number)
          (ap (λ minus. Ok (put_codes s (r.b + 1 - counts.b) (sum_codes minus A B), record r { a = lowered r.a counts.a; b = lowered r.b counts.b; overflow = r.overflow || sum_overflows minus A B })) (sym taken)
          ∙ ap (λ (t : Storage). Ok (t, record r { a = lowered r.a counts.a; b = lowered r.b counts.b; overflow = r.overflow || sum_overflows (not (beq minus_a reversed)) A B })) (sym written)
          ∙ ap (λ o. Ok (new, record r { a = lowered r.a counts.a; b = lowered r.b counts.b; overflow = r.overflow || o })) (sym carried)
          ∙ ap (λ (x : Registers). Ok (new, record x { overflow = x.overflow || overflows })) (sym lower))

      pub zero_added_is : (zone : Zone) → zone ≡ sign_zone (not (beq minus_a reversed)) →
          new ≡ put_codes s (r.b + 1 - counts.b) (spelled (joined_total Copy s r.a counts.a r.b counts.b) counts.b zone) → zero_added reversed s r ≡ Ok (new, after)
      unfolding zero_added joined_total
      zero_added_is zone sign_is written =
          rw (← found, ← a_number)
          (ap (λ minus. Ok (put_codes s (r.b + 1 - counts.b) (spelled (value A) counts.b (sign_zone minus)), record r { a = lowered r.a counts.a; b = lowered r.b counts.b })) (sym taken)
          ∙ ap (λ z. Ok (put_codes s (r.b + 1 - counts.b) (spelled (value A) counts.b z), record r { a = lowered r.a counts.a; b = lowered r.b counts.b })) (sym sign_is)
          ∙ ap (λ (t : Storage). Ok (t, record r { a = lowered r.a counts.a; b = lowered r.b counts.b })) (sym written)
          ∙ ap (λ (x : Registers). Ok (new, x)) (sym lower))
