-- why an instruction is stopped, by what is found of its characters
use Rattle.std.proofs.Common.{◌≡◌, ℕ, ◌+◌, ◌-◌, ◌<◌, ◌≤◌, true, false, List, length, Option, Some, None, Result, Ok, Err, refl, sym, ap, ◌∙◌, is_some, get_or}
use Rattle.std.proofs.lemmas.Bool.{lt-ltb}
use Rattle.bcd.specs.Table.{glyph_of}
use Rattle.core_store.specs.Storage.{codes_from}
use Rattle.core_store.proofs.Fields.{length-codes_from}
use Rattle.machine.specs.Effect.{Works}
use Rattle.machine.specs.declared.named.Modifier.{Modifier}
use Rattle.machine.specs.Instructions.{is_last, addresses_by, operation_by, modifier_by}
use Rattle.machine.specs.Operations.{modifier_at}
use Rattle.check_causes.specs.declared.causes.Cause.{Cause}
use Rattle.check_causes.specs.declared.causes.Cause.TheVariants.{NoInstruction}
use Rattle.check_causes.specs.Tested.{Tested, given, finds}
use Rattle.check_causes.specs.Reading.{word_told, decoded_told, operands_told}
use Rattle.check_causes.specs.Causes.{attempt_told, instruction_told, operation_told}

module _ (w : Works) (count : ℕ) (codes : List ℕ) (first last : ℕ) (f : first ≡ get_or codes 0 0) (l : last ≡ get_or codes (count - 1) 0) where
  by : Option Modifier → Tested
  by found = given (finds found (NoInstruction (glyph_of (get_or codes 0 0))) (λ modifier. operands_told w.storage (addresses_by (get_or codes 0 0) count) w.registers codes)) (λ operands.
      operation_told (operation_by (get_or codes 0 0)) (modifier_by (get_or codes 0 0) count (get_or codes (count - 1) 0)) w.storage w.units operands.0 operands.1)

  is_by : instruction_told w count codes ≡ by (modifier_at first count last)
  unfolding instruction_told decoded_told by
  is_by = rw (f, l) refl

  none_found : (found : Option Modifier) → is_some found ≡ false → by found ≡ Err (NoInstruction (glyph_of (get_or codes 0 0)))
  unfolding by
  none_found (Some modifier) h = absurd (cc)
  none_found None h = refl

  some_found : (found : Option Modifier) → is_some found ≡ true → by found ≡ given (operands_told w.storage (addresses_by (get_or codes 0 0) count) w.registers codes) (λ operands.
      operation_told (operation_by (get_or codes 0 0)) (modifier_by (get_or codes 0 0) count (get_or codes (count - 1) 0)) w.storage w.units operands.0 operands.1)
  unfolding by
  some_found (Some modifier) h = refl
  some_found None h = absurd (cc)

  pub not_taken : (sign : ℕ) → sign ≡ glyph_of first → is_last first count last ≡ false → Err (NoInstruction sign) ≡ instruction_told w count codes
  unfolding is_last
  not_taken sign e h = ap (λ n. Err (NoInstruction n)) (e ∙ ap glyph_of f) ∙ sym (is_by ∙ none_found (modifier_at first count last) h)

  pub taken_by : is_last first count last ≡ true → instruction_told w count codes ≡ given (operands_told w.storage (addresses_by first count) w.registers codes) (λ operands.
      operation_told (operation_by first) (modifier_by first count last) w.storage w.units operands.0 operands.1)
  unfolding is_last
  taken_by h = is_by ∙ some_found (modifier_at first count last) h ∙ rw (f, l) refl

  pub without_operands : (n : ℕ) (cause : Cause) → is_last first count last ≡ true → n ≡ addresses_by first count → operands_told w.storage n w.registers codes ≡ Err cause → Err cause ≡ instruction_told w count codes
  without_operands n cause h e stopped =
      sym (taken_by h ∙ ap (λ found. given found (λ operands. operation_told (operation_by first) (modifier_by first count last) w.storage w.units operands.0 operands.1)) (ap (λ k. operands_told w.storage k w.registers codes) (sym e) ∙ stopped))

  pub with_operands : (n a b : ℕ) (result : Tested) → is_last first count last ≡ true → n ≡ addresses_by first count → operands_told w.storage n w.registers codes ≡ Ok (a, b)
      → result ≡ operation_told (operation_by first) (modifier_by first count last) w.storage w.units a b → result ≡ instruction_told w count codes
  with_operands n a b result h e found same =
      same ∙ sym (taken_by h ∙ ap (λ found. given found (λ operands. operation_told (operation_by first) (modifier_by first count last) w.storage w.units operands.0 operands.1)) (ap (λ k. operands_told w.storage k w.registers codes) (sym e) ∙ found))

-- the instruction at register I is stopped as its characters are
pub attempted : (w : Works) (count : ℕ) (result : Tested) → w.registers.i < length w.storage → w.registers.i + count ≤ length w.storage
    → word_told w.storage w.registers.i ≡ Ok (codes_from w.storage w.registers.i count)
    → result ≡ instruction_told w count (codes_from w.storage w.registers.i count) → result ≡ attempt_told w
unfolding attempt_told
attempted w count result inside within word same =
    same ∙ ap (λ n. instruction_told w n (codes_from w.storage w.registers.i count)) (sym (length-codes_from w.storage w.registers.i count within))
    ∙ ap (λ found. given found (λ codes. instruction_told w (length codes) codes)) (sym word)
    ∙ rw (lt-ltb w.registers.i (length w.storage) inside) refl

-- no instruction can be read at register I
pub not_attempted : (w : Works) (cause : Cause) → w.registers.i < length w.storage → word_told w.storage w.registers.i ≡ Err cause → Err cause ≡ attempt_told w
unfolding attempt_told
not_attempted w cause inside none =
    ap (λ (found : Result (List ℕ) Cause). given found (λ codes. instruction_told w (length codes) codes)) (sym none)
    ∙ rw (lt-ltb w.registers.i (length w.storage) inside) refl
