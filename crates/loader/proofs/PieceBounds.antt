-- what a card can carry
use Rattle.std.proofs.Common.{◌≡◌, ℕ, ◌+◌, ◌*◌, ◌-◌, ◌≤◌, ◌&&◌, Bool, true, false, if◌then◌else◌, nat_le, List, [], ◌∷◌, ◌++◌, length, drop, replicate, refl, sym, ◌∙◌, ap, arith, append_assoc, length-append}
use Rattle.std.specs.List.{concat}
use Rattle.std.proofs.lemmas.Bool.{leb-true}
use Rattle.std.proofs.lemmas.List.Folds.{concat-append}
use Rattle.autocoder_layout.specs.declared.cells.Cell.{Cell}
use Rattle.loader.specs.declared.stretches.TheConstants.{MOST_CHARACTERS, MOST_MARKS, MOST_MARKS_UNMARKED}
use Rattle.loader.specs.Stretches.{is_contiguous, marks_of, mark_limit, is_lawful}
use Rattle.loader.specs.Cards.{clearing, marking, three, unused}

pub both : (a b : Bool) → (a && b) ≡ true → (a ≡ true) × (b ≡ true)
both true true h = (refl, refl)
both true false h = absurd (cc)
both false b h = absurd (cc)

within_limits : (cells : List Cell) → is_lawful cells ≡ true → (nat_le (length cells) MOST_CHARACTERS && nat_le (length (marks_of (drop 1 cells))) (mark_limit cells)) ≡ true
unfolding is_lawful
within_limits cells h = (both (is_contiguous cells) (nat_le (length cells) MOST_CHARACTERS && nat_le (length (marks_of (drop 1 cells))) (mark_limit cells)) h).1

pub lawful_contiguous : (cells : List Cell) → is_lawful cells ≡ true → is_contiguous cells ≡ true
unfolding is_lawful
lawful_contiguous cells h = (both (is_contiguous cells) (nat_le (length cells) MOST_CHARACTERS && nat_le (length (marks_of (drop 1 cells))) (mark_limit cells)) h).0

pub lawful_length : (cells : List Cell) → is_lawful cells ≡ true → length cells ≤ MOST_CHARACTERS
lawful_length cells h =
    leb-true _ _ (both (nat_le (length cells) MOST_CHARACTERS) (nat_le (length (marks_of (drop 1 cells))) (mark_limit cells)) (within_limits cells h)).0

pub lawful_marks : (cells : List Cell) → is_lawful cells ≡ true → length (marks_of (drop 1 cells)) ≤ mark_limit cells
lawful_marks cells h =
    leb-true _ _ (both (nat_le (length cells) MOST_CHARACTERS) (nat_le (length (marks_of (drop 1 cells))) (mark_limit cells)) (within_limits cells h)).1

-- ---- no more than three places

marking_length : (marks : List ℕ) → length (marking marks) * 2 ≤ length marks + 1
unfolding marking
marking_length [] = omega arith
marking_length (p ∷ []) = omega arith
marking_length (p ∷ q ∷ marks) = omega (arith, marking_length marks)

places_within : (marked : Bool) (place : List ℕ) (marks places : ℕ) → marks ≤ (if marked then MOST_MARKS else MOST_MARKS_UNMARKED) → places * 2 ≤ marks + 1 →
    length {A = List ℕ} (if marked then [] else place ∷ []) + places ≤ 3
places_within true place marks places h l = omega arith
places_within false place marks places h l = omega arith

pub lawful_places : (stretch : List Cell) → is_lawful stretch ≡ true → length (clearing stretch) + length (marking (marks_of (drop 1 stretch))) ≤ 3
unfolding marks_of marking
lawful_places [] h = omega arith
lawful_places (c ∷ cells) h =
    places_within c.marked _ (length (marks_of cells)) (length (marking (marks_of cells))) (lawful_marks (c ∷ cells) h) (marking_length (marks_of cells))

-- ---- three places, filled

pub places_filled : (old cleared marked new : List ℕ) (clears marks : List (List ℕ)) (c m : ℕ) → cleared ≡ old ++ concat clears → marked ≡ cleared ++ concat marks →
    new ≡ marked ++ concat (replicate (3 - (c + m)) unused) → c ≡ length clears → m ≡ length marks → new ≡ old ++ three (clears ++ marks)
places_filled old cleared marked new clears marks c m e f g n k =
    let rest : List (List ℕ) = replicate (3 - (c + m)) unused in
    let count : 3 - (c + m) ≡ 3 - length (clears ++ marks) = omega (arith, n, k, length-append clears marks) in
    g
    ∙ ap (λ t. t ++ concat rest) (f ∙ ap (λ t. t ++ concat marks) e)
    ∙ ap (λ t. t ++ concat rest) (append_assoc old (concat clears) (concat marks))
    ∙ ap (λ t. (old ++ t) ++ concat rest) (sym (concat-append clears marks))
    ∙ append_assoc old (concat (clears ++ marks)) (concat rest)
    ∙ ap (λ t. old ++ t) (sym (concat-append (clears ++ marks) rest))
    ∙ ap (λ r. old ++ concat ((clears ++ marks) ++ replicate r unused)) count
