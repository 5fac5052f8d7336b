-- no sign ends a word or a line
use Rattle.std.proofs.Common.{◌≡◌, ℕ, ◌-◌, ◌<◌, ◌==◌, ◌&&◌, not, Bool, true, false, List, [], ◌∷◌, length, map, take, refl, ap, ◌∙◌, arith}
use Rattle.std.specs.List.{suffix_len}
use Rattle.std.proofs.Math.Decide.{dec_lt}
use Rattle.std.proofs.lemmas.List.{take-map}
use Rattle.bcd.proofs.Tables.{at_each}
use Rattle.bcd.specs.Table.{glyph_of}
use Rattle.pictures.proofs.PiecesRead.{has_none}
use Rattle.units.specs.Listing.{blank, shown}
use Rattle.films.specs.Signs.{glyph_on, sign_of, signs_on}
use Rattle.films.specs.declared.signs.Surface.{Surface}
use Rattle.films.specs.declared.signs.Surface.TheVariants.{OnCard, OnPaper}
use Rattle.films.proofs.ItemsRead.{IsClean}
use Rattle.films.proofs.SignTables.{no_glyph, none_shown}

-- whether a sign is neither a blank nor a line feed
is_word : ℕ → Bool
is_word sign = not (sign == 32) && not (sign == 10)

words_each : (n : ℕ) → n < 64 → is_word (sign_of (glyph_of n)) && is_word (sign_of (shown n)) ≡ true
unfolding is_word sign_of shown glyph_of
words_each = at_each (λ k. is_word (sign_of (glyph_of k)) && is_word (sign_of (shown k))) 64 refl

none_is_word : is_word (sign_of 0) ≡ true
unfolding is_word sign_of
none_is_word = refl

two : (a b : Bool) → (a && b) ≡ true → (a ≡ true) × (b ≡ true)
two true b h = (refl, h)
two false b h = absurd (cc)

sign_is_word : (surface : Surface) (n : ℕ) → is_word (sign_of (glyph_on surface n)) ≡ true
sign_is_word OnPaper n =
    elim (dec_lt n 64) [
      | yes low ↦ (two (is_word (sign_of (glyph_of n))) (is_word (sign_of (shown n))) (words_each n low)).1
      | no high ↦ ap (λ g. is_word (sign_of g)) (none_shown n (omega arith)) ∙ none_is_word
    ]
sign_is_word OnCard n =
    elim (dec_lt n 64) [
      | yes low ↦ (two (is_word (sign_of (glyph_of n))) (is_word (sign_of (shown n))) (words_each n low)).0
      | no high ↦ ap (λ g. is_word (sign_of g)) (no_glyph n (omega arith)) ∙ none_is_word
    ]

all_words : (surface : Surface) (codes : List ℕ) → IsClean (map sign_of (map (glyph_on surface) codes))
unfolding is_word
all_words surface [] = (refl, refl)
all_words surface (code ∷ codes) =
    let sign = sign_of (glyph_on surface code) in
    let here = two (not (sign == 32)) (not (sign == 10)) (sign_is_word surface code) in
    let rest = all_words surface codes in (
      ap (λ b. b && has_none 32 (map sign_of (map (glyph_on surface) codes))) here.0 ∙ rest.0,
      ap (λ b. b && has_none 10 (map sign_of (map (glyph_on surface) codes))) here.1 ∙ rest.1,
    )

-- the signs on a surface have no blank and no line feed
pub signs_clean : (surface : Surface) (codes : List ℕ) → IsClean (signs_on surface codes)
unfolding signs_on
signs_clean surface codes =
    let text = map (glyph_on surface) codes in
    let kept = length text - suffix_len (λ g. g == blank) text in
    let same : map sign_of (take kept text) ≡ map sign_of (map (glyph_on surface) (take kept codes)) = ap (map sign_of) (take-map (glyph_on surface) kept codes) in
    let all = all_words surface (take kept codes) in
    (ap (has_none 32) same ∙ all.0, ap (has_none 10) same ∙ all.1)
