-- for `code_of` of `operations`: the character of a glyph
use Rattle.std.proofs.Common.{◌≡◌, ◌≢◌, ℕ, ◌<◌, ◌==◌, Option, Some, None, refl, sym, ◌∙◌, ap, eqb, unwrap_or}
use Rattle.std.specs.List.{position}
use Rattle.std.proofs.lemmas.List.Quantifiers.{position-Some}
use Rattle.std.proofs.lemmas.Bool.{eqb-true}
use Rattle.bcd.proofs.Tables.{at_each}
use Rattle.bcd.specs.Table.{glyphs, glyph_of}
use Rattle.autocoder_statements.specs.Mnemonics.{code_of}

found_at : (code : ℕ) → code < 64 → code ≡ code_of (glyph_of code)
unfolding code_of glyph_of
found_at code h = sym (eqb-true _ _ (at_each (λ k. eqb (code_of (glyph_of k)) k) 64 refl code h))

pub code_found : (glyph code : ℕ) → code < 64 → glyph_of code ≡ glyph → code ≡ code_of glyph
code_found glyph code h e = found_at code h ∙ ap code_of e

none_at : (glyph : ℕ) → ((n : ℕ) → n < 64 → glyph_of n ≢ glyph) → (found : Option ℕ) → position (λ g. g == glyph) glyphs ≡ found → 0 ≡ unwrap_or found 0
unfolding glyph_of
none_at glyph none None e = refl
none_at glyph none (Some i) e =
    let at = position-Some (λ g. g == glyph) glyphs i 0 e in
    absurd (none i at.0 (eqb-true _ _ at.1))

pub code_missing : (glyph : ℕ) → ((n : ℕ) → n < 64 → glyph_of n ≢ glyph) → 0 ≡ code_of glyph
unfolding code_of
code_missing glyph none = none_at glyph none (position (λ g. g == glyph) glyphs) refl
