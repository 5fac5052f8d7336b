-- the columns of a card up to the last one that is not blank
use Rattle.std.proofs.Common.{◌≡◌, ◌≢◌, ℕ, ◌-◌, true, false, List, [], ◌∷◌, ◌++◌, length, replicate, refl, ap, arith}
use Rattle.std.proofs.lemmas.List.Elements.{All-head, All-tail, All-cons, All-nil}
use Rattle.std.specs.List.{All}
use Rattle.card_forms.specs.Signs.{are_blank, filled}

-- one blank more behind blanks
blanks_behind : (codes : List ℕ) → are_blank (codes ++ 0 ∷ []) ≡ are_blank codes
blanks_behind [] = refl
blanks_behind (code ∷ codes) = rw (blanks_behind codes) refl

-- a blank at the end is cut
pub blank_cut : (codes : List ℕ) → filled (codes ++ 0 ∷ []) ≡ filled codes
unfolding filled
blank_cut [] = refl
blank_cut (code ∷ codes) = rw (blanks_behind (code ∷ codes)) (rw (blank_cut codes) refl)

-- not all are blank where the last one is not
no_blanks : (codes : List ℕ) (last : ℕ) → last ≢ 0 → are_blank (codes ++ last ∷ []) ≡ false
no_blanks [] last other = grind (arith, other)
no_blanks (code ∷ codes) last other = rw (no_blanks codes last other) (grind arith)

-- nothing is cut where the last column is not blank
pub none_blank : (codes : List ℕ) (last : ℕ) → last ≢ 0 → filled (codes ++ last ∷ []) ≡ codes ++ last ∷ []
unfolding filled
none_blank [] last other = rw (no_blanks [] last other) refl
none_blank (code ∷ codes) last other =
    rw (no_blanks (code ∷ codes) last other) (rw (none_blank codes last other) refl)

-- blanks are a list of blanks
all_blank : (codes : List ℕ) → are_blank codes ≡ true → replicate (length codes) 0 ≡ codes
all_blank [] blank = refl
all_blank (code ∷ codes) blank =
    let first : 0 ≡ code = grind (arith, blank) in
    let others : are_blank codes ≡ true = grind (arith, blank) in
    rw (all_blank codes others) (ap (λ number. number ∷ codes) first)

-- what is cut is blanks
pub filled_back : (codes : List ℕ) → filled codes ++ replicate (length codes - length (filled codes)) 0 ≡ codes
unfolding filled
filled_back [] = refl
filled_back (code ∷ codes) =
    (elim (are_blank (code ∷ codes)) as (λ b. are_blank (code ∷ codes) ≡ b → filled (code ∷ codes) ++ replicate (length (code ∷ codes) - length (filled (code ∷ codes))) 0 ≡ code ∷ codes) [
      | true ↦ λ blank.
          let all : length (code ∷ codes) - 0 ≡ length (code ∷ codes) = omega arith in
          rw (blank, all) (all_blank (code ∷ codes) blank)
      | false ↦ λ other.
          let less : length (code ∷ codes) - length (code ∷ filled codes) ≡ length codes - length (filled codes) = omega arith in
          rw (other, less) (ap (λ rest. code ∷ rest) (filled_back codes))
    ]) refl

-- the columns that are filled are characters
pub filled_characters : (P : ℕ → Type 0) (codes : List ℕ) → All P codes → All P (filled codes)
unfolding filled
filled_characters P [] each = each
filled_characters P (code ∷ codes) each =
    (elim (are_blank (code ∷ codes)) as (λ b. are_blank (code ∷ codes) ≡ b → All P (filled (code ∷ codes))) [
      | true ↦ λ blank. rw blank (All-nil P)
      | false ↦ λ other. rw other (All-cons P code (filled codes) (All-head P code codes each) (filled_characters P codes (All-tail P code codes each)))
    ]) refl
