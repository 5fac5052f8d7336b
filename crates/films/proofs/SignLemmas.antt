-- blanks at the end of what is shown
use Rattle.std.proofs.Common.{◌≡◌, ◌≢◌, ℕ, ◌+◌, ◌-◌, ◌<◌, ◌≤◌, List, [], ◌∷◌, length, map, take, get_or, eqb, refl, sym, ap, ◌∙◌, arith}
use Rattle.std.proofs.Math.Decide.{dec_lt}
use Rattle.std.proofs.lemmas.List.{get_or-map, get_or_read, length-map, take-map}
use Rattle.std.proofs.lemmas.List.Sums.{suffix_len_is}
use Rattle.std.proofs.lemmas.Bool.{eq-eqb, ne_eqb}
use Rattle.units.specs.Listing.{blank, without_trailing_blanks}
use Rattle.films.specs.Signs.{glyph_on, sign_of, signs_on}
use Rattle.films.specs.declared.signs.Surface.{Surface}
use Rattle.films.proofs.SignTables.{blank_signed, sign_blank}

-- what characters show without the blanks at the end, by where these begin
pub cut_is : (f : ℕ → ℕ) (codes : List ℕ) (n : ℕ) → n ≤ length codes → ((k : ℕ) → n ≤ k → k < length codes → f (get_or codes k 0) ≡ blank) →
    (0 < n → f (get_or codes (n - 1) 0) ≢ blank) → without_trailing_blanks (map f codes) ≡ map f (take n codes)
cut_is f codes n within rest last =
    let text = map f codes in
    let long : length text ≡ length codes = length-map codes f in
    let at : (k : ℕ) → k < length codes → get_or text k 0 ≡ f (get_or codes k 0) = λ k h. get_or-map f codes k 0 0 h in
    let cut = suffix_len_is (λ g. eqb g blank) text n 0 (omega arith)
    (λ k from below. eq-eqb (get_or text k 0) blank (at k (omega arith) ∙ rest k from (omega arith)))
    (λ some. ne_eqb (get_or text (n - 1) 0) blank (λ e. last some (sym (at (n - 1) (omega arith)) ∙ e))) in
    let left : length text - (length text - n) ≡ n = omega arith in
    ap (λ k. take (length text - k) text) cut ∙ ap (λ k. take k text) left ∙ take-map f n codes

-- one blank more at the end, and the end of the blanks
pub blank_more : (s : Surface) (codes : List ℕ) (n code sign : ℕ) → 0 < n → n ≤ length codes → code ≡ get_or codes (n - 1) code → sign ≡ sign_of (glyph_on s code) → sign ≡ 126
    → ((k : ℕ) → n ≤ k → k < length codes → glyph_on s (get_or codes k 0) ≡ blank) → (k : ℕ) → n - 1 ≤ k → k < length codes → glyph_on s (get_or codes k 0) ≡ blank
blank_more s codes n code sign some within read signed is rest k from below =
    elim (dec_lt k n) [
      | yes low ↦
          let same : k ≡ n - 1 = omega arith in
          ap (λ j. glyph_on s (get_or codes j 0)) same
          ∙ ap (glyph_on s) (sym (get_or_read codes (n - 1) code (omega arith) read 0))
          ∙ sign_blank s code (sym signed ∙ is)
      | no high ↦ rest k (omega arith) below
    ]

pub cut_here : (s : Surface) (codes : List ℕ) (n code sign : ℕ) → 0 < n → n ≤ length codes → code ≡ get_or codes (n - 1) code → sign ≡ sign_of (glyph_on s code) → sign ≢ 126
    → ((k : ℕ) → n ≤ k → k < length codes → glyph_on s (get_or codes k 0) ≡ blank)
    → without_trailing_blanks (map (glyph_on s) codes) ≡ map (glyph_on s) (take (n - 1 + 1) codes)
cut_here s codes n code sign some within read signed not rest =
    let here : n ≡ n - 1 + 1 = omega arith in
    cut_is (glyph_on s) codes n within rest
    (λ more is. not (signed ∙ blank_signed s code (ap (glyph_on s) (get_or_read codes (n - 1) code (omega arith) read 0) ∙ is)))
    ∙ ap (λ k. map (glyph_on s) (take k codes)) here

-- the signs of the characters that are left
pub signs_left : (s : Surface) (codes : List ℕ) (n : ℕ) → without_trailing_blanks (map (glyph_on s) codes) ≡ map (glyph_on s) (take n codes)
    → signs_on s codes ≡ map (λ code. sign_of (glyph_on s code)) (take n codes)
unfolding signs_on
signs_left s codes n left = ap (map sign_of) left ∙ map-map (take n codes)
  where
    map-map : (xs : List ℕ) → map sign_of (map (glyph_on s) xs) ≡ map (λ code. sign_of (glyph_on s code)) xs
    map-map [] = refl
    map-map (x ∷ xs) = ap (λ ys. sign_of (glyph_on s x) ∷ ys) (map-map xs)
