-- the operations Add, Subtract, Zero and Add, and Zero and Subtract
use Rattle.std.specs.Prelude.{ℕ, ◌+◌, ◌-◌, ◌^◌, nat_le, List, length, Bool, true, false, not, ◌&&◌, ◌||◌, if◌then◌else◌, Result, Ok}
use Rattle.bcd.specs.Table.{zone_of}
use Rattle.core_store.specs.Storage.{Storage, put_codes, codes_ending}
use Rattle.core_store.specs.Checked.{require, and_then}
use Rattle.core_store.specs.declared.registers.Registers.{Registers}
use Rattle.core_store.specs.declared.checks.Check.{Check}
use Rattle.core_store.specs.declared.checks.Check.TheVariants.{Data}
use Rattle.arith.specs.Decimal.{value, is_number, units, is_minus, sign_zone, spelled}
use Rattle.core_store.specs.Operands.{lowered}
use Rattle.arith.specs.Operands.{counts_apart}

-- whether two signs are the same
abbrev pub is_same : Bool → Bool → Bool
is_same true b = b
is_same false b = not b

-- the sign of the A field, reversed for a subtraction
abbrev pub sign_taken : Bool → List ℕ → Bool
sign_taken reversed a = if reversed then not (is_minus a) else is_minus a

-- the characters of the new B field: a sum of like signs keeps the old field's zone, a difference
-- has the sign of the greater number, of B if they are equal
unfoldable pub sum_codes : Bool → List ℕ → List ℕ → List ℕ
sum_codes minus a b =
    if is_same minus (is_minus b) then spelled (value a + value b) (length b) (zone_of (units b))
    else (if nat_le (value a) (value b)
    then spelled (value b - value a) (length b) (sign_zone (is_minus b))
    else spelled (value a - value b) (length b) (sign_zone minus))

-- whether the sum overflows: the signs are the same, and it has more digits than the B field
unfoldable pub sum_overflows : Bool → List ℕ → List ℕ → Bool
sum_overflows minus a b = is_same minus (is_minus b) && nat_le (10 ^ length b) (value a + value b)

-- storage and registers after the A field is added to the B field, or subtracted, or the check
unfoldable pub added : Bool → Storage → Registers → Result (Storage × Registers) Check
added reversed s r =
    and_then (counts_apart s r.a r.b) (λ counts.
    let a = codes_ending s r.a counts.a in
    let b = codes_ending s r.b counts.b in
    require (is_number a && is_number b) Data
    (Ok (
      put_codes s (r.b + 1 - counts.b) (sum_codes (sign_taken reversed a) a b),
      record r {
        a = lowered r.a counts.a;
        b = lowered r.b counts.b;
        overflow = r.overflow || sum_overflows (sign_taken reversed a) a b;
      },
    )))

-- storage and registers after Zero and Add or Zero and Subtract, or the check: the B field is the A
-- field's number, and what B held is not read
unfoldable pub zero_added : Bool → Storage → Registers → Result (Storage × Registers) Check
zero_added reversed s r =
    and_then (counts_apart s r.a r.b) (λ counts.
    let a = codes_ending s r.a counts.a in
    require (is_number a) Data
    (Ok (
      put_codes s (r.b + 1 - counts.b)
          (spelled (value a) counts.b (sign_zone (sign_taken reversed a))),
      record r { a = lowered r.a counts.a; b = lowered r.b counts.b },
    )))
