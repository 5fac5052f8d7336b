-- for `instructions_are_decoded`: characters under a mark, with a mark after them, are decoded
use Rattle.std.proofs.Common.{◌≡◌, ℕ, suc, ◌+◌, ◌-◌, ◌<◌, ◌≤◌, Bool, true, false, List, [], ◌∷◌, Some, Ok, refl, sym, ◌∙◌, ap, arith, inl, inr, length, if◌then◌else◌}
use Rattle.std.specs.Prelude.{codes, slice_index}
use Rattle.std.proofs.Math.Decide.{dec_lt}
use Rattle.std.proofs.lemmas.List.Elements.{All-head, All-tail}
use Rattle.core_store.specs.Storage.{Storage, IsLeastMark, cell_at, code_at, codes_from, is_marked}
use Rattle.core_store.specs.Checked.{and_then}
use Rattle.core_store.specs.declared.registers.Registers.{Registers}
use Rattle.core_store.proofs.Fields.{codes_from_none, codes_from_next}
use Rattle.core_store.proofs.Marks.{past_end}
use Rattle.machine.specs.Glyphs.{is_glyph}
use Rattle.machine.specs.Operations.{meant}
use Rattle.machine.specs.Word.{EndsAt, IsInstruction, word, decoded, decoded_of, operands_of}
use Rattle.machine.specs.declared.named.Modifier.{Modifier}
use Rattle.machine.proofs.DecodeLaw.{ends_length}
use Rattle.machine.proofs.FormTables.{IsFormed, form_is}
use Rattle.autocoder_layout.specs.Cells.{row, field}
use Rattle.autocoder_layout.specs.declared.cells.Cell.{Cell}
use Rattle.autocoder_laws.specs.Meanings.{Meaning}
use Rattle.autocoder_laws.specs.Instructions.{Holds, IsReadAs, decoded_as}

-- how many characters an instruction has at most, by its first one
abbrev pub longest : ℕ → ℕ
longest code = if is_glyph code (codes ",") then 7 else 8

abbrev has_cell : Storage → Cell → Type 0
has_cell s c = cell_at s c.position ≡ (c.code, c.marked)

-- ---- what is after the first character

row_codes : (s : Storage) (p : ℕ) (codes : List ℕ) → Holds s (row p codes) → p + length codes ≤ length s → codes_from s p (length codes) ≡ codes
unfolding row
row_codes s p [] h within = codes_from_none s p
row_codes s p (code ∷ codes) h within =
    let here : cell_at s p ≡ (code, false) = All-head (has_cell s) _ _ h in
    let rest : codes_from s (p + 1) (length codes) ≡ codes = row_codes s (p + 1) codes (All-tail (has_cell s) _ _ h) (omega arith) in
    codes_from_next s p (length codes) (omega arith) ∙ ap (λ c. c.0 ∷ codes_from s (p + 1) (length codes)) here ∙ ap (λ xs. code ∷ xs) rest

row_unmarked : (s : Storage) (p : ℕ) (codes : List ℕ) → Holds s (row p codes) → (k : ℕ) → p ≤ k → k < p + length codes → is_marked s k ≡ false
unfolding row
row_unmarked s p [] h k low high = absurd (omega arith)
row_unmarked s p (code ∷ codes) h k low high =
    elim (dec_lt p k) [
      | yes after ↦ row_unmarked s (p + 1) codes (All-tail (has_cell s) _ _ h) k (omega arith) (omega arith)
      | no here ↦
          let same : k ≡ p = omega arith in
          let found : cell_at s p ≡ (code, false) = All-head (has_cell s) _ _ h in
          rw same (ap (λ c. c.1) found)
    ]

-- ---- the whole of it

marked_within : (s : Storage) (p : ℕ) → is_marked s p ≡ true → p < length s
marked_within s p m =
    elim (dec_lt p (length s)) [
      | yes within ↦ within
      | no beyond ↦ let none : is_marked s p ≡ false = past_end s p (omega arith) in absurd (let e : true ≡ false = sym m ∙ none in cc)
    ]

module _ (s : Storage) (i code : ℕ) (codes : List ℕ) (h : Holds s (row (i + 1) codes)) (end : is_marked s (i + suc (length codes)) ≡ true) where
  least : length codes ≤ 7 → IsLeastMark s (i + 1) 8 (i + suc (length codes))
  least few = record {
    marked = end;
    not_below = omega arith;
    among = omega arith;
    none_before = λ k low high. row_unmarked s (i + 1) codes h k low (omega arith);
  }

  ends : (comma : Bool) → suc (length codes) ≤ (if comma then 7 else 8) → EndsAt comma s i (suc (length codes))
  ends false few = least (omega arith)
  ends true few =
      elim (dec_lt (suc (length codes)) 7) [
        | yes less ↦ inl (less, least (omega arith))
        | no seven ↦ inr (omega arith, λ p after before. row_unmarked s (i + 1) codes h p (omega arith) (omega arith))
      ]

word_is : (s : Storage) (i code : ℕ) (codes : List ℕ) → suc (length codes) ≤ longest code → Holds s (field true i (code ∷ codes)) →
    is_marked s (i + suc (length codes)) ≡ true → word s i ≡ Some (code ∷ codes)
unfolding word field
word_is s i code codes few h end =
    let first : cell_at s i ≡ (code, true) = All-head (has_cell s) _ _ h in
    let rest : Holds s (row (i + 1) codes) = All-tail (has_cell s) _ _ h in
    let within : i + suc (length codes) < length s = marked_within s _ end in
    let letter : code_at s i ≡ code = ap (λ c. c.0) first in
    let instruction : IsInstruction s i (suc (length codes)) = record {
      begins = ap (λ c. c.1) first;
      ends = rw letter (ends s i code codes rest end _ few);
      inside = omega arith;
    } in
    let after : codes_from s (i + 1) (length codes) ≡ codes = row_codes s (i + 1) codes rest (omega arith) in
    let all : codes_from s i (suc (length codes)) ≡ code ∷ codes =
    codes_from_next s i (length codes) (omega arith) ∙ ap (λ c. c ∷ codes_from s (i + 1) (length codes)) letter ∙ ap (λ xs. code ∷ xs) after in
    rw (ends_length s i (suc (length codes)) instruction) (ap Some all)

decoded_is : (s : Storage) (r : Registers) (codes : List ℕ) (m : Meaning) (modifier : Modifier) (f : IsFormed (slice_index codes 0) (length codes)) → f.row.operation ≡ m.operation →
    meant f.form.last (slice_index codes (length codes - 1)) ≡ Some modifier →
    decoded s r codes ≡ and_then (operands_of s f.form.addresses r codes) (λ at. Ok (decoded_as m modifier (length codes) at))
unfolding decoded_of
decoded_is s r codes m modifier f same means = rw (f.named, f.formed, means, same) refl

pub reads : (m : Meaning) (codes : List ℕ) (modifier : Modifier) → 1 ≤ length codes → length codes ≤ longest (slice_index codes 0) →
    (f : IsFormed (slice_index codes 0) (length codes)) → f.row.operation ≡ m.operation →
    meant f.form.last (slice_index codes (length codes - 1)) ≡ Some modifier → m.says (slice_index codes (length codes - 1)) ≡ Some modifier →
    (s : Storage) (i : ℕ) → Holds s (field true i codes) → is_marked s (i + length codes) ≡ true → IsReadAs m codes s i
reads m [] modifier some few f same means says s i h end = absurd (omega arith)
reads m (code ∷ codes) modifier some few f same means says s i h end = record {
  form = f.form;
  listed = form_is _ _ f;
  modifier = modifier;
  says = says;
  word = word_is s i code codes few h end;
  decoded = λ r. decoded_is s r (code ∷ codes) m modifier f same means;
}
