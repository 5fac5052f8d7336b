-- the marks of the columns in which two cards differ
use Rattle.std.proofs.Common.{◌≡◌, ℕ, zero, suc, ◌+◌, ◌<◌, ◌≤◌, ◌==◌, true, false, if◌then◌else◌, List, [], ◌∷◌, ◌++◌, length, take, get_or, set, refl, ap, sym, ◌∙◌, arith}
use Rattle.std.proofs.lemmas.List.{take_all, take_more_set}
use Rattle.card_forms.specs.Signs.{are_blank, filled}
use Rattle.card_forms.specs.declared.images.CardImage.{CardImage}
use Rattle.card_tools.specs.Comparing.{both_shown, differing_of, marks_of, shown_of}

-- one column more
marks_suc : (i : ℕ) (one two : List ℕ) → i < length one → i < length two
    → marks_of (take (suc i) one) (take (suc i) two)
    ≡ marks_of (take i one) (take i two) ++ (if get_or one i 0 == get_or two i 0 then 0 else 16) ∷ []
unfolding marks_of
marks_suc i [] two within behind = absurd (omega arith)
marks_suc i (x ∷ one) [] within behind = absurd (omega arith)
marks_suc zero (x ∷ one) (y ∷ two) within behind = refl
marks_suc (suc i) (x ∷ one) (y ∷ two) within behind =
    ap (λ marks. (if x == y then 0 else 16) ∷ marks) (marks_suc i one two (omega arith) (omega arith))

pub marks_more : (i : ℕ) (one two : List ℕ) → i < length one → i < length two
    → marks_of (take (i + 1) one) (take (i + 1) two)
    ≡ marks_of (take i one) (take i two) ++ (if get_or one i 0 == get_or two i 0 then 0 else 16) ∷ []
marks_more i one two within behind =
    let next : i + 1 ≡ suc i = omega arith in
    rw next (marks_suc i one two within behind)

-- the marks of one column more
pub marks_step : (i : ℕ) (codes one two : List ℕ) (mark : ℕ) → i < length codes → i < length one → i < length two
    → mark ≡ (if get_or one i 0 == get_or two i 0 then 0 else 16)
    → take i codes ≡ marks_of (take i one) (take i two)
    → take (i + 1) (set codes i mark) ≡ marks_of (take (i + 1) one) (take (i + 1) two)
marks_step i codes one two mark here within behind is_mark before =
    take_more_set codes i mark here
    ∙ rw (marks_more i one two within behind, is_mark) (ap (λ front. front ++ (if get_or one i 0 == get_or two i 0 then 0 else 16) ∷ []) before)

-- the marks of all columns
pub marks_whole : (i : ℕ) (codes one two : List ℕ) → length codes ≤ i → length one ≤ i → length two ≤ i
    → take i codes ≡ marks_of (take i one) (take i two) → codes ≡ marks_of one two
marks_whole i codes one two here within behind before =
    sym (take_all i codes here) ∙ before ∙ rw (take_all i one within, take_all i two behind) refl

-- nothing is filled where all is blank, and only there
pub filled_none : (codes : List ℕ) → (length (filled codes) == 0) ≡ are_blank codes
unfolding filled
filled_none [] = refl
filled_none (code ∷ codes) =
    (elim (are_blank (code ∷ codes)) as (λ b. are_blank (code ∷ codes) ≡ b → (length (filled (code ∷ codes)) == 0) ≡ are_blank (code ∷ codes)) [
      | true ↦ λ blank. rw blank refl
      | false ↦ λ other. rw other (grind arith)
    ]) refl

-- what is shown of two cards, by whether a column of theirs is marked
pub same_shown : (number : ℕ) (one two : CardImage) → are_blank (marks_of one.0 two.0) ≡ true → shown_of number one two ≡ []
same_shown number one two same = rw same refl

pub same_count : (one two : CardImage) → are_blank (marks_of one.0 two.0) ≡ true → differing_of one two ≡ 0
same_count one two same = rw same refl

pub other_shown : (number : ℕ) (one two : CardImage) → are_blank (marks_of one.0 two.0) ≡ false → shown_of number one two ≡ both_shown number one two
other_shown number one two other = rw other refl

pub other_count : (one two : CardImage) → are_blank (marks_of one.0 two.0) ≡ false → differing_of one two ≡ 1
other_count one two other = rw other refl

-- at most one card of two differs
count_few : (one two : CardImage) → differing_of one two ≤ 1
count_few one two = elim (are_blank (marks_of one.0 two.0)) as (λ b. (if b then 0 else 1) ≤ 1) [ true ↦ omega arith | false ↦ omega arith ]

pub count_more : (one two : CardImage) (count i more : ℕ) → more ≡ differing_of one two → count ≤ i → count + more ≤ i + 1
count_more one two count i more is few = omega (arith, is, few, count_few one two)
