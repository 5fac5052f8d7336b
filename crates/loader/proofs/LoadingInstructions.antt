-- how the instructions of loading cards are read
use Rattle.std.proofs.Common.{◌≡◌, ℕ, ◌+◌, ◌-◌, ◌<◌, ◌≤◌, true, false, ◌++◌, Some, Ok, refl, arith, if◌then◌else◌, length, codes, min, slice_index, lt-ltb, le-leb}
use Rattle.bcd.specs.Table.{glyph_of}
use Rattle.bcd.specs.declared.Zone.TheVariants.{Bare}
use Rattle.core_store.specs.Storage.{Storage, code_at, is_marked, least_mark}
use Rattle.core_store.specs.declared.registers.Registers.{Registers}
use Rattle.addresses.specs.Digits.{code_of, digit_under}
use Rattle.addresses.specs.Addresses.{encoded, written}
use Rattle.addresses.specs.Effective.{operand, with_index}
use Rattle.addresses.proofs.DigitLemmas.{written_read}
use Rattle.machine.specs.declared.named.Operation.{Operation}
use Rattle.machine.specs.declared.named.Operation.TheVariants.{OnFields, ClearStorage, Operate, NoOperation}
use Rattle.machine.specs.declared.operations.FieldOperation.TheVariants.{Load, SetMark, ClearMark}
use Rattle.machine.specs.declared.named.Modifier.TheVariants.{Plain}
use Rattle.machine.specs.declared.named.Decoded.{Decoded}
use Rattle.machine.specs.Glyphs.{is_glyph}
use Rattle.machine.specs.Operations.{operations, row_of, devices}
use Rattle.machine.specs.Word.{word_length, ending_in, decoded_of, operands_of}
use Rattle.loader.specs.Cards.{text, instruction, unused, reading}

-- an instruction ends at the next mark
pub word_is : (s : Storage) (i count : ℕ) → is_marked s i ≡ true → least_mark s (i + 1) 8 ≡ Some (i + count) → count ≤ 7 → i + count ≤ length s → Some count ≡ word_length s i
unfolding word_length
word_is s i count marked next short inside =
    let left : i + count - i ≡ count = omega arith in
    let least : min count 7 ≡ count = omega arith in
    rw (marked, next)
    (elim (is_glyph (code_at s i) (codes ",")) as (λ b.
    Some count ≡ (if b then ending_in s i (min (i + count - i) 7) else Some (i + count - i))) [
      | true ↦ rw (left, least, le-leb (i + count) (length s) inside) refl
      | false ↦ rw left refl
    ])

-- an address that cards hold is the position that it spells
pub operand_is : (s : Storage) (x : ℕ) → x < length s → x < 16000 →
    operand s (slice_index (encoded x) 0) (slice_index (encoded x) 1) (slice_index (encoded x) 2) ≡ Ok x
unfolding operand with_index
operand_is s x inside small = rw (written_read x small Bare, lt-ltb x (length s) inside) refl

abbrev pub plain : Operation → ℕ → ℕ → ℕ → Decoded
plain operation count a b = record { operation = operation; length = count; a = a; b = b; modifier = Plain }

-- instructions with two addresses
module _ (s : Storage) (r : Registers) (x y : ℕ) (x_in : x < length s) (y_in : y < length s) (x_small : x < 16000) (y_small : y < 16000) where
  pub set_is_read : Ok (plain (OnFields SetMark) 7 x y) ≡ decoded_of s 7 r (instruction (codes ",") x y)
  unfolding decoded_of row_of operations operands_of written code_of glyph_of
  set_is_read = rw (operand_is s x x_in x_small, operand_is s y y_in y_small) refl

  pub clear_is_read : Ok (plain (OnFields ClearMark) 7 x y) ≡ decoded_of s 7 r (instruction (codes ")") x y)
  unfolding decoded_of row_of operations operands_of written code_of glyph_of
  clear_is_read = rw (operand_is s x x_in x_small, operand_is s y y_in y_small) refl

  pub load_is_read : Ok (plain (OnFields Load) 7 x y) ≡ decoded_of s 7 r (instruction (codes "L") x y)
  unfolding decoded_of row_of operations operands_of written code_of glyph_of
  load_is_read = rw (operand_is s x x_in x_small, operand_is s y y_in y_small) refl

  pub start_is_read : Ok (plain ClearStorage 7 x y) ≡ decoded_of s 7 r (instruction (codes "/") x y)
  unfolding decoded_of row_of operations operands_of written code_of glyph_of
  start_is_read = rw (operand_is s x x_in x_small, operand_is s y y_in y_small) refl

-- instructions with one address or none
module _ (s : Storage) (r : Registers) (x : ℕ) (x_in : x < length s) (x_small : x < 16000) where
  pub set_one_is_read : Ok (plain (OnFields SetMark) 4 x x) ≡ decoded_of s 4 r (text (codes ",") ++ encoded x)
  unfolding decoded_of row_of operations operands_of written code_of glyph_of
  set_one_is_read = rw (operand_is s x x_in x_small) refl

  pub card_is_read : Ok (plain (Operate (devices 1)) 4 x x) ≡ decoded_of s 4 r (text (codes "1") ++ encoded x)
  unfolding decoded_of row_of operations operands_of written code_of glyph_of
  card_is_read = rw (operand_is s x x_in x_small) refl

pub unused_is_read : (s : Storage) (r : Registers) → Ok (plain NoOperation 7 r.a r.b) ≡ decoded_of s 7 r unused
unfolding decoded_of row_of operations operands_of written code_of glyph_of
unused_is_read s r = refl

pub reading_is : reading ≡ text (codes "1") ++ encoded 40
unfolding written code_of digit_under
reading_is = refl
