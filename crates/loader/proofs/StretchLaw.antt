-- an image is split into longest stretches in one way
use Rattle.std.proofs.Common.{◌≡◌, ◌≢◌, ℕ, zero, suc, ◌+◌, ◌<◌, ◌≤◌, ◌==◌, ◌&&◌, Bool, true, false, nat_le, cond, List, [], ◌∷◌, ◌++◌, length, take, drop, get_or, refl, sym, ◌∙◌, ap, subst, arith, append_assoc, length-append}
use Rattle.std.specs.List.{flat_map}
use Rattle.std.proofs.lemmas.Bool.{le-leb}
use Rattle.std.proofs.lemmas.List.{append-nil}
use Rattle.std.proofs.lemmas.List.Sums.{sum_by-append}
use Rattle.autocoder_layout.specs.declared.cells.Cell.{Cell}
use Rattle.loader.specs.declared.stretches.TheConstants.{MOST_CHARACTERS}
use Rattle.loader.specs.Stretches.{is_contiguous, marks_of, mark_limit, is_lawful, IsSplit, stretches_from, stretches_of}
use Rattle.loader.proofs.PieceBounds.{both, lawful_contiguous, lawful_length, lawful_marks}
use Rattle.loader.proofs.StretchLemmas.{marks_counted, one_lawful, from_lawful, from_unlawful}

-- ---- what a card can carry, it can carry a part of

lawful_when : (cells : List Cell) → is_contiguous cells ≡ true → length cells ≤ MOST_CHARACTERS → length (marks_of (drop 1 cells)) ≤ mark_limit cells → is_lawful cells ≡ true
unfolding is_lawful
lawful_when cells h l m =
    ap (λ b. b && (nat_le (length cells) MOST_CHARACTERS && nat_le (length (marks_of (drop 1 cells))) (mark_limit cells))) h
    ∙ ap (λ b. true && (b && nat_le (length (marks_of (drop 1 cells))) (mark_limit cells))) (le-leb _ _ l)
    ∙ ap (λ b. true && (true && b)) (le-leb _ _ m)

contiguous_part : (cells more : List Cell) → is_contiguous (cells ++ more) ≡ true → is_contiguous cells ≡ true
unfolding is_contiguous
contiguous_part [] more h = refl
contiguous_part (c ∷ []) more h = refl
contiguous_part (c ∷ d ∷ cells) more h =
    let parts = both (d.position == c.position + 1) (is_contiguous (d ∷ (cells ++ more))) h in
    ap (λ b. b && is_contiguous (d ∷ cells)) parts.0 ∙ contiguous_part (d ∷ cells) more parts.1

marks_fewer : (cells more : List Cell) → length (marks_of cells) ≤ length (marks_of (cells ++ more))
marks_fewer cells more =
    omega (arith, marks_counted cells, marks_counted (cells ++ more), sum_by-append (λ (c : Cell). cond c.marked 1 0) cells more)

lawful_part : (s : Cell) (ss more : List Cell) → is_lawful (s ∷ (ss ++ more)) ≡ true → is_lawful (s ∷ ss) ≡ true
lawful_part s ss more h =
    lawful_when (s ∷ ss) (contiguous_part (s ∷ ss) more (lawful_contiguous (s ∷ (ss ++ more)) h))
    (omega (arith, lawful_length (s ∷ (ss ++ more)) h, length-append ss more))
    (omega (arith, lawful_marks (s ∷ (ss ++ more)) h, marks_fewer ss more))

-- ---- the split is one into longest stretches

abbrev joined : List (List Cell) → List Cell
joined stretches = flat_map (λ stretch. stretch) stretches

abbrev at : List (List Cell) → ℕ → List Cell
at stretches k = get_or stretches k []

none_split : IsSplit [] []
none_split = record {
  all = refl;
  some = λ k h. absurd (omega arith);
  lawful = λ k h. absurd (omega arith);
  longest = λ k h. absurd (omega arith);
}

some_more : (stretch : List Cell) (stretches : List (List Cell)) → stretch ≢ [] → ((k : ℕ) → k < length stretches → at stretches k ≢ []) → (k : ℕ) → k < length (stretch ∷ stretches) → at (stretch ∷ stretches) k ≢ []
some_more stretch stretches first behind zero h = first
some_more stretch stretches first behind (suc k) h = behind k (omega arith)

lawful_more : (stretch : List Cell) (stretches : List (List Cell)) → is_lawful stretch ≡ true → ((k : ℕ) → k < length stretches → is_lawful (at stretches k) ≡ true) →
    (k : ℕ) → k < length (stretch ∷ stretches) → is_lawful (at (stretch ∷ stretches) k) ≡ true
lawful_more stretch stretches first behind zero h = first
lawful_more stretch stretches first behind (suc k) h = behind k (omega arith)

next_at : (stretch : List Cell) (stretches : List (List Cell)) (k : ℕ) → at (stretch ∷ stretches) (suc k + 1) ≡ at stretches (k + 1)
next_at stretch stretches k =
    let e : suc k + 1 ≡ suc (k + 1) = omega arith in
    ap (at (stretch ∷ stretches)) e

longest_more : (stretch : List Cell) (stretches : List (List Cell)) → (0 < length stretches → is_lawful (stretch ++ take 1 (at stretches 0)) ≡ false) →
    ((k : ℕ) → k + 1 < length stretches → is_lawful (at stretches k ++ take 1 (at stretches (k + 1))) ≡ false) →
    (k : ℕ) → k + 1 < length (stretch ∷ stretches) → is_lawful (at (stretch ∷ stretches) k ++ take 1 (at (stretch ∷ stretches) (k + 1))) ≡ false
longest_more stretch stretches first behind zero h = first (omega arith)
longest_more stretch stretches first behind (suc k) h =
    ap (λ t. is_lawful (at stretches k ++ take 1 t)) (next_at stretch stretches k) ∙ behind k (omega arith)

split_more : (image stretch : List Cell) (stretches : List (List Cell)) → IsSplit image stretches → stretch ≢ [] → is_lawful stretch ≡ true →
    (0 < length stretches → is_lawful (stretch ++ take 1 (at stretches 0)) ≡ false) → IsSplit (stretch ++ image) (stretch ∷ stretches)
split_more image stretch stretches split some lawful longest = record {
  all = ap (λ t. stretch ++ t) split.all;
  some = some_more stretch stretches some split.some;
  lawful = lawful_more stretch stretches lawful split.lawful;
  longest = longest_more stretch stretches longest split.longest;
}

begins_with : (s : Cell) (ss cells : List Cell) → take 1 (at (stretches_from (s ∷ ss) cells) 0) ≡ s ∷ []
unfolding stretches_from
begins_with s ss [] = refl
begins_with s ss (c ∷ cells) =
    elim (is_lawful ((s ∷ ss) ++ c ∷ [])) as (λ b. take 1 (at (cond b (stretches_from ((s ∷ ss) ++ c ∷ []) cells) ((s ∷ ss) ∷ stretches_from (c ∷ []) cells)) 0) ≡ s ∷ [])
    [ true ↦ begins_with s (ss ++ c ∷ []) cells | false ↦ refl ]

not_empty : (s : Cell) (ss : List Cell) → (s ∷ ss) ≢ []
not_empty s ss e = cc

begins_of : (c : Cell) (cells : List Cell) → take 1 (at (stretches_of (c ∷ cells)) 0) ≡ c ∷ []
unfolding stretches_of
begins_of c cells = begins_with c [] cells

split_of : (c : Cell) (cells : List Cell) → IsSplit (c ∷ cells) (stretches_from (c ∷ []) cells) → IsSplit (c ∷ cells) (stretches_of (c ∷ cells))
unfolding stretches_of
split_of c cells h = h

from_step : (s : Cell) (ss : List Cell) (c : Cell) (cells : List Cell) (b : Bool) → is_lawful (s ∷ ss) ≡ true → is_lawful ((s ∷ ss) ++ c ∷ []) ≡ b →
    (is_lawful ((s ∷ ss) ++ c ∷ []) ≡ true → IsSplit (((s ∷ ss) ++ c ∷ []) ++ cells) (stretches_from ((s ∷ ss) ++ c ∷ []) cells)) →
    IsSplit (c ∷ cells) (stretches_from (c ∷ []) cells) → IsSplit ((s ∷ ss) ++ c ∷ cells) (stretches_from (s ∷ ss) (c ∷ cells))
from_step s ss c cells true lawful e longer shorter =
    let P : List Cell → Type 0 = λ image. IsSplit image (stretches_from (s ∷ ss) (c ∷ cells)) in
    let Q : List (List Cell) → Type 0 = λ stretches. IsSplit (((s ∷ ss) ++ c ∷ []) ++ cells) stretches in
    subst P (append_assoc (s ∷ ss) (c ∷ []) cells) (subst Q (sym (from_lawful (s ∷ ss) cells c e)) (longer e))
from_step s ss c cells false lawful e longer shorter =
    let Q : List (List Cell) → Type 0 = λ stretches. IsSplit ((s ∷ ss) ++ c ∷ cells) stretches in
    subst Q (sym (from_unlawful (s ∷ ss) cells c e))
    (split_more (c ∷ cells) (s ∷ ss) (stretches_of (c ∷ cells)) (split_of c cells shorter) (not_empty s ss) lawful
    (λ h. ap (λ t. is_lawful ((s ∷ ss) ++ t)) (begins_of c cells) ∙ e))

from_split : (s : Cell) (ss cells : List Cell) → is_lawful (s ∷ ss) ≡ true → IsSplit ((s ∷ ss) ++ cells) (stretches_from (s ∷ ss) cells)
unfolding stretches_from
from_split s ss [] h = split_more [] (s ∷ ss) [] none_split (not_empty s ss) h (λ k. absurd (omega arith))
from_split s ss (c ∷ cells) h =
    from_step s ss c cells (is_lawful ((s ∷ ss) ++ c ∷ [])) h refl (λ e. from_split s (ss ++ c ∷ []) cells e) (from_split c [] cells (one_lawful c))

pub is_split : (image : List Cell) → IsSplit image (stretches_of image)
unfolding stretches_of
is_split [] = none_split
is_split (c ∷ cells) = from_split c [] cells (one_lawful c)

-- ---- there is no other

gathered : (s : Cell) (ss more rest : List Cell) → is_lawful (s ∷ (ss ++ more)) ≡ true → stretches_from (s ∷ ss) (more ++ rest) ≡ stretches_from (s ∷ (ss ++ more)) rest
gathered s ss [] rest h = ap (λ t. stretches_from (s ∷ t) rest) (sym (append-nil ss))
gathered s ss (m ∷ more) rest h =
    let seam : (ss ++ m ∷ []) ++ more ≡ ss ++ m ∷ more = append_assoc ss (m ∷ []) more in
    let lawful : is_lawful (s ∷ ((ss ++ m ∷ []) ++ more)) ≡ true = ap (λ t. is_lawful (s ∷ t)) seam ∙ h in
    from_lawful (s ∷ ss) (more ++ rest) m (lawful_part s (ss ++ m ∷ []) more lawful)
    ∙ gathered s (ss ++ m ∷ []) more rest lawful
    ∙ ap (λ t. stretches_from (s ∷ t) rest) seam

starts : (s : Cell) (ss rest : List Cell) → is_lawful (s ∷ ss) ≡ true → stretches_of (s ∷ (ss ++ rest)) ≡ stretches_from (s ∷ ss) rest
unfolding stretches_of
starts s ss rest h = gathered s [] ss rest h

ends_with_one : (s : Cell) (ss : List Cell) → is_lawful (s ∷ ss) ≡ true → stretches_of ((s ∷ ss) ++ []) ≡ (s ∷ ss) ∷ []
unfolding stretches_from
ends_with_one s ss h = starts s ss [] h

goes_on : (s : Cell) (ss : List Cell) (c : Cell) (cells : List Cell) → is_lawful (s ∷ ss) ≡ true → is_lawful ((s ∷ ss) ++ c ∷ []) ≡ false →
    stretches_of ((s ∷ ss) ++ c ∷ cells) ≡ (s ∷ ss) ∷ stretches_of (c ∷ cells)
goes_on s ss c cells h e = starts s ss (c ∷ cells) h ∙ from_unlawful (s ∷ ss) cells c e

behind_split : (image stretch : List Cell) (stretches : List (List Cell)) → IsSplit image (stretch ∷ stretches) → IsSplit (joined stretches) stretches
behind_split image stretch stretches split = record {
  all = refl;
  some = λ k h. split.some (suc k) (omega arith);
  lawful = λ k h. split.lawful (suc k) (omega arith);
  longest = λ k h. ap (λ t. is_lawful (at stretches k ++ take 1 t)) (sym (next_at stretch stretches k)) ∙ split.longest (suc k) (omega arith);
}

pub no_other_split : (stretches : List (List Cell)) (image : List Cell) → IsSplit image stretches → stretches ≡ stretches_of image
unfolding stretches_of
no_other_split [] image split = ap stretches_of split.all
no_other_split ([] ∷ stretches) image split = absurd (split.some 0 (omega arith) refl)
no_other_split ((s ∷ ss) ∷ []) image split = sym (ends_with_one s ss (split.lawful 0 (omega arith))) ∙ ap stretches_of split.all
no_other_split ((s ∷ ss) ∷ [] ∷ stretches) image split = absurd (split.some 1 (omega arith) refl)
no_other_split ((s ∷ ss) ∷ (c ∷ cs) ∷ stretches) image split =
    ap (λ t. (s ∷ ss) ∷ t) (no_other_split ((c ∷ cs) ∷ stretches) (joined ((c ∷ cs) ∷ stretches)) (behind_split image (s ∷ ss) ((c ∷ cs) ∷ stretches) split))
    ∙ sym (goes_on s ss c (cs ++ joined stretches) (split.lawful 0 (omega arith)) (split.longest 0 (omega arith)))
    ∙ ap stretches_of split.all
