-- blanks at the end of a print area, block by block
use Rattle.std.proofs.Common.{◌≡◌, ◌↔◌, ℕ, ◌+◌, ◌<◌, ◌≤◌, List, length, get_or, bit_or, refl, sym, ◌∙◌, ap, arith, inl, inr}
use Rattle.std.proofs.lemmas.Bool.{cases_lt}
use Rattle.std.proofs.lemmas.Nat.{le_or_l, le_or_r}
use Rattle.bcd.specs.Table.{glyph_of}
use Rattle.units.specs.Listing.{shown, blank}

-- the blank, number 0, is shown as a blank
shown_blank : shown 0 ≡ blank
unfolding shown glyph_of
shown_blank = refl

-- these characters are blanks
abbrev pub AreBlank : List ℕ → ℕ → ℕ → Type 0
AreBlank codes first end = (k : ℕ) → first ≤ k → k < end → get_or codes k 0 ≡ 0

none_set : (a b : ℕ) → bit_or a b ≡ 0 → (a ≡ 0) × (b ≡ 0)
none_set a b is = (omega (arith, le_or_l a b), omega (arith, le_or_r a b))

pub block_more : (codes : List ℕ) (first i numbers code : ℕ) → first ≤ i → code ≡ get_or codes i 0 → (numbers ≡ 0) ↔ AreBlank codes first i →
    (bit_or numbers code ≡ 0) ↔ AreBlank codes first (i + 1)
block_more codes first i numbers code from at so_far = (
  λ none k above below. elim (cases_lt k i) [
    | inl before ↦ so_far.0 (none_set numbers code none).0 k above before
    | inr last ↦ let here : k ≡ i = omega arith in ap (λ n. get_or codes n 0) here ∙ sym at ∙ (none_set numbers code none).1
  ],
  λ blanks.
      let before : numbers ≡ 0 = so_far.1 (λ k above below. blanks k above (omega arith)) in
      let here : code ≡ 0 = at ∙ blanks i from (omega arith) in
      rw (before, here) refl,
)

-- a block of blanks before characters that are shown as blanks
pub blanks_more : (codes : List ℕ) (end next : ℕ) → next + 16 ≡ end → AreBlank codes next (next + 16) →
    ((k : ℕ) → end ≤ k → k < length codes → shown (get_or codes k 0) ≡ blank) → (k : ℕ) → next ≤ k → k < length codes → shown (get_or codes k 0) ≡ blank
blanks_more codes end next is blanks behind k above within = elim (cases_lt k end) [
  | inl before ↦ ap shown (blanks k above (omega arith)) ∙ shown_blank
  | inr from ↦ behind k from within
]
