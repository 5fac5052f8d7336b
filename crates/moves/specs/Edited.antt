-- the operation Move Characters and Edit
use Rattle.std.specs.Prelude.{ℕ, suc, ◌≡◌, ◌<◌, ◌≤◌, ◌+◌, ◌-◌, nat_lt, nat_le, not, ◌&&◌, ◌==◌, min, max, reverse, drop, slice_index, List, [], ◌∷◌, length, Bool, false, if◌then◌else◌, Result, Ok, codes}
use Rattle.bcd.specs.Table.{zone_of}
use Rattle.core_store.specs.Storage.{Storage, field_length, codes_ending, put_codes, with_mark}
use Rattle.core_store.specs.Operands.{are_inside, cut_length, is_minus_zone, lowered_by}
use Rattle.core_store.specs.Checked.{require, find_or}
use Rattle.core_store.specs.declared.registers.Registers.{Registers}
use Rattle.core_store.specs.declared.checks.Check.{Check}
use Rattle.core_store.specs.declared.checks.Check.TheVariants.{Address, Overlap}
use Rattle.moves.specs.declared.blanking.Stop.TheVariants.{Digit}
use Rattle.moves.specs.Characters.{is_any, blank, bare_units, from_right}
use Rattle.moves.specs.Blanked.{ends, leading, blanked}

-- whether a character of the control field is a digit place: a blank or a `0`
unfoldable pub is_place : ℕ → Bool
is_place code = is_any (codes "0 ") code

-- how many digit places a control field has
unfoldable pub places : List ℕ → ℕ
places [] = 0
places (code ∷ codes) = if is_place code then suc (places codes) else places codes

-- for each character of a control field, how many digit places are to its right
unfoldable pub places_right : List ℕ → List ℕ
places_right [] = []
places_right (code ∷ control) = places control ∷ places_right control

-- the edited character for one of the control field, by the amount's sign and length, the number of
-- digit places to its right, and the digit for its place
unfoldable pub filled_code : Bool → ℕ → ℕ → ℕ → ℕ → ℕ
filled_code minus count right digit code =
    if is_place code then digit
    else (if is_any (codes "&") code then blank
    else (if is_any (codes "CR-") code && right == 0 && not minus then blank
    else (if is_any (codes ",") code && nat_le count right then blank
    else code)))

-- the control field with the amount in its digit places, counted from the right
unfoldable pub filled : List ℕ → List ℕ → Bool → List ℕ
filled [] amount minus = []
filled (code ∷ control) amount minus =
    filled_code minus (length amount) (places control) (from_right amount (places control)) code
    ∷ filled control amount minus

-- how many characters a control field has up to and including its rightmost `0`, none if it has no
-- `0`
unfoldable pub through_zero : List ℕ → ℕ
through_zero control = length control - leading (is_any (codes "0")) (reverse control)

-- the control field with the amount, and with a blank for each `0` and comma up to the control
-- field's rightmost `0`, but not after a digit 1 to 9
unfoldable pub edited : List ℕ → List ℕ → Bool → List ℕ
edited control amount minus =
    blanked (min (through_zero control) (leading (ends Digit) (filled control amount minus)))
    (filled control amount minus)

-- whether an amount is minus: the zone of its units character is B alone
abbrev pub is_minus : List ℕ → Bool
is_minus amount = is_minus_zone (zone_of (from_right amount 0))

-- whether the a_count positions up to a and the b_count positions up to b have one in common
abbrev pub is_sharing : ℕ → ℕ → ℕ → ℕ → Bool
is_sharing a a_count b b_count = nat_lt a (b + a_count) && nat_lt b (a + b_count)

-- storage and registers after the amount at A is edited by the control field at B, whose mark is
-- cleared; as many characters are read as there are digit places, at least one, or up to a mark
unfoldable pub field_edited : Storage → Registers → Result (Storage × Registers) Check
field_edited s r =
    require (are_inside s r.a r.b) Address
    (find_or (field_length s r.b) Address (λ b_count.
    find_or (cut_length s r.a (max 1 (places (codes_ending s r.b b_count)))) Address (λ a_count.
    require (not (is_sharing r.a a_count r.b b_count)) Overlap
    (let control = codes_ending s r.b b_count in
    let amount = codes_ending s r.a a_count in
    Ok (
      with_mark
          (put_codes s (r.b + 1 - b_count) (edited control (bare_units amount) (is_minus amount)))
          (r.b + 1 - b_count) false,
      lowered_by r a_count b_count,
    )))))

-- how many digit places are to the right of this place of a control field
abbrev pub places_after : List ℕ → ℕ → ℕ
places_after control place = places (drop (place + 1) control)

-- at a digit place is the character of the amount that has as many characters to its right as the
-- place has digit places, or a blank if there is none
pub record IsShown (control amount : List ℕ) (minus : Bool) (place : ℕ) : Type 0 where
  pub shown : places_after control place < length amount →
      slice_index (filled control amount minus) place
      ≡ slice_index amount (length amount - 1 - places_after control place)
  pub empty : length amount ≤ places_after control place →
      slice_index (filled control amount minus) place ≡ blank
