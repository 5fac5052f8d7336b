-- the units of an operation by its character, and the length of an instruction
use Rattle.std.proofs.Common.{◌≡◌, ℕ, ◌+◌, ◌-◌, ◌<◌, ◌≤◌, ◌==◌, inl, inr, Bool, true, false, refl, ap, ◌∙◌, arith}
use Rattle.std.specs.Prelude.{Some, codes}
use Rattle.std.proofs.lemmas.Bool.{eqb-true}
use Rattle.bcd.specs.Table.{glyph_of}
use Rattle.bcd.proofs.Tables.{at_each}
use Rattle.core_store.specs.Storage.{Storage, code_at}
use Rattle.machine.specs.Glyphs.{is_glyph}
use Rattle.machine.specs.Instructions.{operation_by}
use Rattle.machine.specs.Operations.{operations, row_of}
use Rattle.machine.specs.Word.{EndsAt, word_length}
use Rattle.machine.proofs.DecodeLaw.{length_ends}
use Rattle.films.specs.Worked.{sum_of}

-- by computation, of each character
pub sum_low : (first : ℕ) → first < 8 → first ≡ sum_of (operation_by first)
unfolding operation_by row_of operations glyph_of
sum_low first low = eqb-true first (sum_of (operation_by first)) (at_each (λ n. n == sum_of (operation_by n)) 8 refl first low)

pub sum_high : (first : ℕ) → 8 ≤ first → first < 64 → 0 ≡ sum_of (operation_by first)
unfolding operation_by row_of operations glyph_of
sum_high first high low =
    let whole : first - 8 + 8 ≡ first = omega (arith, high) in
    eqb-true 0 (sum_of (operation_by (first - 8 + 8))) (at_each (λ n. 0 == sum_of (operation_by (n + 8))) 56 refl (first - 8) (omega (arith, high, low)))
    ∙ ap (λ n. sum_of (operation_by n)) whole

-- an instruction has a character

ends_some : (b : Bool) (s : Storage) (i count : ℕ) → EndsAt b s i count → 1 ≤ count
ends_some false s i count ends = omega (arith, ends.not_below)
ends_some true s i count (inl ends) = omega (arith, ends.1.not_below)
ends_some true s i count (inr ends) = omega (arith, ends.0)

pub has_some : (s : Storage) (i count : ℕ) → word_length s i ≡ Some count → 1 ≤ count
has_some s i count found = ends_some (is_glyph (code_at s i) (codes ",")) s i count (length_ends s i count found).ends
