-- the addresses of an instruction that works at fields
use Rattle.std.proofs.Common.{◌≡◌, ℕ, ◌+◌, ◌-◌, ◌<◌, ◌≤◌, Bool, true, false, List, length, Option, Some, None, Result, Ok, Err, refl, sym, ap, ◌∙◌, is_some, get_or}
use Rattle.std.proofs.lemmas.Bool.{le-ltb, lt-ltb}
use Rattle.bcd.specs.Table.{glyph_of}
use Rattle.bcd.proofs.Tables.{at_each}
use Rattle.core_store.specs.Storage.{Storage, codes_from}
use Rattle.core_store.proofs.Fields.{length-codes_from}
use Rattle.core_store.specs.declared.registers.Registers.{Registers}
use Rattle.machine.specs.declared.named.Modifier.{Modifier}
use Rattle.machine.specs.Effect.{Works}
use Rattle.machine.specs.Instructions.{is_last, addresses_by, operation_by}
use Rattle.machine.specs.Operations.{modifier_at, operations, row_of}
use Rattle.machine.proofs.FormTables.{bit, same, same_is}
use Rattle.check_causes.specs.declared.causes.Cause.{Cause}
use Rattle.check_causes.specs.declared.causes.Cause.TheVariants.{NoInstruction}
use Rattle.check_causes.specs.declared.worked.TheConstants.{ON_FIELDS}
use Rattle.check_causes.specs.Tested.{finds}
use Rattle.check_causes.specs.Reading.{decoded_told, operands_told, word_told}
use Rattle.check_causes.specs.Worked.{fields_by, fields_in, fields_worked, if_read, is_on_fields}

-- the code's set of characters beside the table of operations, by computation
pub on_fields_at : (first : ℕ) → first < 64 → bit ON_FIELDS first ≡ is_on_fields (operation_by first)
unfolding operation_by row_of operations glyph_of
on_fields_at first low = same_is _ _ (at_each (λ n. same (bit ON_FIELDS n) (is_on_fields (operation_by n))) 64 refl first low)

module _ (s : Storage) (count : ℕ) (r : Registers) (codes : List ℕ) (first last : ℕ) (f : first ≡ get_or codes 0 0) (l : last ≡ get_or codes (count - 1) 0) where
  by : Option Modifier → Result (ℕ × ℕ) Cause
  by found = finds found (NoInstruction (glyph_of first)) (λ modifier. operands_told s (addresses_by first count) r codes)

  is_by : decoded_told s count r codes ≡ by (modifier_at first count last)
  unfolding decoded_told by
  is_by = rw (f, l) refl

  none_found : (found : Option Modifier) → is_some found ≡ false → None ≡ if_read (by found)
  unfolding by
  none_found (Some modifier) h = absurd (cc)
  none_found None h = refl

  some_found : (found : Option Modifier) → is_some found ≡ true → by found ≡ operands_told s (addresses_by first count) r codes
  unfolding by
  some_found (Some modifier) h = refl
  some_found None h = absurd (cc)

  -- an instruction that is none has no addresses
  pub not_read : is_last first count last ≡ false → None ≡ if_read (decoded_told s count r codes)
  unfolding is_last
  not_read h = none_found (modifier_at first count last) h ∙ ap if_read (sym is_by)

  -- the addresses of one are its operands
  pub is_read : (n : ℕ) (found : Result (ℕ × ℕ) Cause) → is_last first count last ≡ true → n ≡ addresses_by first count
      → found ≡ operands_told s n r codes → if_read found ≡ if_read (decoded_told s count r codes)
  unfolding is_last
  is_read n found h e same =
      ap if_read (same ∙ ap (λ k. operands_told s k r codes) e ∙ sym (some_found (modifier_at first count last) h) ∙ sym is_by)

-- what is worked at by the instruction at register I is by its characters
pub worked : (w : Works) (count : ℕ) (found : Option (ℕ × ℕ)) → w.registers.i < length w.storage → w.registers.i + count ≤ length w.storage
    → word_told w.storage w.registers.i ≡ Ok (codes_from w.storage w.registers.i count)
    → found ≡ fields_by w count (codes_from w.storage w.registers.i count) → found ≡ fields_worked w
unfolding fields_worked
worked w count found inside within word same =
    same ∙ ap (λ n. fields_by w n (codes_from w.storage w.registers.i count)) (sym (length-codes_from w.storage w.registers.i count within))
    ∙ ap (fields_in w) (sym word)
    ∙ rw (lt-ltb w.registers.i (length w.storage) inside) refl

-- nothing is worked at where no instruction can be read
pub not_worked : (w : Works) (cause : Cause) → w.registers.i < length w.storage → word_told w.storage w.registers.i ≡ Err cause → None ≡ fields_worked w
unfolding fields_worked
not_worked w cause inside none =
    ap (fields_in w) (sym none) ∙ rw (lt-ltb w.registers.i (length w.storage) inside) refl

pub not_inside : (w : Works) → length w.storage ≤ w.registers.i → None ≡ fields_worked w
unfolding fields_worked
not_inside w past = rw (le-ltb w.registers.i (length w.storage) past) refl
