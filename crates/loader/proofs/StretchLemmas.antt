-- stretches, one position after the other
use Rattle.std.proofs.Common.{◌≡◌, ℕ, ◌+◌, ◌-◌, ◌<◌, ◌≤◌, ◌==◌, ◌&&◌, Bool, true, false, if◌then◌else◌, nat_le, List, [], ◌∷◌, ◌++◌, length, take, drop, get_or, refl, sym, ◌∙◌, ap, arith}
use Rattle.std.specs.List.{filter, count_by}
use Rattle.std.proofs.lemmas.List.{at_drop_more, length-drop, length-map, drop_all, take_all}
use Rattle.std.proofs.lemmas.List.Sums.{length-filter}
use Rattle.autocoder_layout.specs.declared.cells.Cell.{Cell}
use Rattle.loader.specs.declared.stretches.TheConstants.{MOST_MARKS, MOST_MARKS_UNMARKED}
use Rattle.loader.specs.Stretches.{is_contiguous, marks_of, is_lawful, stretches_from, stretches_of}
use Rattle.loader.proofs.StretchLists.{take_next}

abbrev pub no_cell : Cell
no_cell = record { position = 0; code = 0; marked = false }

pub marks_counted : (cells : List Cell) → length (marks_of cells) ≡ count_by (λ c. c.marked) cells
unfolding marks_of
marks_counted cells = length-map (filter (λ c. c.marked) cells) (λ c. c.position) ∙ length-filter (λ c. c.marked) cells

-- ---- contiguous positions

next_step : (cells : List Cell) (i : ℕ) (after before : Cell) (next : Bool) → 1 ≤ i → i < length cells → after ≡ get_or cells i after → before ≡ get_or cells (i - 1) before →
    next ≡ (after.position == before.position + 1) → is_contiguous (drop (i - 1) cells) ≡ (next && is_contiguous (drop i cells))
unfolding is_contiguous
next_step cells i after before next s h a b n =
    let here : i - 1 < length cells = omega arith in
    let back : i - 1 + 1 ≡ i = omega arith in
    at_drop_more is_contiguous cells (i - 1) before here
    ∙ ap (λ x. is_contiguous (x ∷ drop (i - 1 + 1) cells)) (sym b)
    ∙ ap (λ k. is_contiguous (before ∷ drop k cells)) back
    ∙ at_drop_more (λ t. is_contiguous (before ∷ t)) cells i after h
    ∙ ap (λ x. is_contiguous (before ∷ x ∷ drop (i + 1) cells)) (sym a)
    ∙ ap (λ v. v && is_contiguous (after ∷ drop (i + 1) cells)) (sym n)
    ∙ ap (λ x. next && is_contiguous (x ∷ drop (i + 1) cells)) a
    ∙ sym (at_drop_more (λ t. next && is_contiguous t) cells i after h)

pub next_fails : (cells : List Cell) (i : ℕ) (after before : Cell) (next : Bool) → 1 ≤ i → i < length cells → after ≡ get_or cells i after → before ≡ get_or cells (i - 1) before →
    next ≡ (after.position == before.position + 1) → next ≡ false → false ≡ is_contiguous (drop (i - 1) cells)
next_fails cells i after before next s h a b n fails = sym (next_step cells i after before next s h a b n ∙ ap (λ v. v && is_contiguous (drop i cells)) fails)

pub next_holds : (cells : List Cell) (i : ℕ) (after before : Cell) (next : Bool) → 1 ≤ i → i < length cells → after ≡ get_or cells i after → before ≡ get_or cells (i - 1) before →
    next ≡ (after.position == before.position + 1) → next ≡ true → is_contiguous (drop (i + 1 - 1) cells) ≡ is_contiguous (drop (i - 1) cells)
next_holds cells i after before next s h a b n holds =
    let e : i + 1 - 1 ≡ i = omega arith in
    ap (λ k. is_contiguous (drop k cells)) e
    ∙ sym (next_step cells i after before next s h a b n ∙ ap (λ v. v && is_contiguous (drop i cells)) holds)

contiguous_short : (cells : List Cell) → length cells ≤ 1 → is_contiguous cells ≡ true
unfolding is_contiguous
contiguous_short [] h = refl
contiguous_short (c ∷ []) h = refl
contiguous_short (c ∷ d ∷ cells) h = absurd (omega arith)

pub contiguous_past : (cells : List Cell) (i : ℕ) → length cells ≤ i → true ≡ is_contiguous (drop (i - 1) cells)
contiguous_past cells i h = sym (contiguous_short (drop (i - 1) cells) (omega (arith, length-drop (i - 1) cells)))

-- ---- the longest stretch

none_within : (marked : Bool) → nat_le 0 (if marked then MOST_MARKS else MOST_MARKS_UNMARKED) ≡ true
none_within true = refl
none_within false = refl

pub one_lawful : (c : Cell) → is_lawful (c ∷ []) ≡ true
unfolding is_lawful is_contiguous marks_of
one_lawful c = none_within c.marked

pub first_lawful : (cells : List Cell) → 0 < length cells → is_lawful (take 1 cells) ≡ true
first_lawful [] h = absurd (omega arith)
first_lawful (c ∷ cells) h = one_lawful c

pub first_split : (cells : List Cell) → 0 < length cells → stretches_from (take 1 cells) (drop 1 cells) ≡ stretches_of cells
unfolding stretches_of
first_split [] h = absurd (omega arith)
first_split (c ∷ cells) h = refl

pub from_lawful : (stretch rest : List Cell) (c : Cell) → is_lawful (stretch ++ c ∷ []) ≡ true →
    stretches_from stretch (c ∷ rest) ≡ stretches_from (stretch ++ c ∷ []) rest
unfolding stretches_from
from_lawful stretch rest c h = ap (λ b. if b then stretches_from (stretch ++ c ∷ []) rest else stretch ∷ stretches_from (c ∷ []) rest) h

pub from_unlawful : (stretch rest : List Cell) (c : Cell) → is_lawful (stretch ++ c ∷ []) ≡ false →
    stretches_from stretch (c ∷ rest) ≡ stretch ∷ stretches_of (c ∷ rest)
unfolding stretches_from stretches_of
from_unlawful stretch rest c h = ap (λ b. if b then stretches_from (stretch ++ c ∷ []) rest else stretch ∷ stretches_from (c ∷ []) rest) h

pub longer : (cells : List Cell) (n : ℕ) → n < length cells → is_lawful (take (n + 1) cells) ≡ true →
    stretches_from (take (n + 1) cells) (drop (n + 1) cells) ≡ stretches_from (take n cells) (drop n cells)
longer cells n h lawful =
    ap (λ t. stretches_from t (drop (n + 1) cells)) (take_next cells n no_cell h)
    ∙ sym (from_lawful (take n cells) (drop (n + 1) cells) (get_or cells n no_cell) (ap is_lawful (sym (take_next cells n no_cell h)) ∙ lawful))
    ∙ sym (at_drop_more (stretches_from (take n cells)) cells n no_cell h)

pub cut : (cells : List Cell) (n : ℕ) → n < length cells → is_lawful (take (n + 1) cells) ≡ false →
    stretches_from (take n cells) (drop n cells) ≡ take n cells ∷ stretches_of (drop n cells)
cut cells n h unlawful =
    at_drop_more (stretches_from (take n cells)) cells n no_cell h
    ∙ from_unlawful (take n cells) (drop (n + 1) cells) (get_or cells n no_cell) (ap is_lawful (sym (take_next cells n no_cell h)) ∙ unlawful)
    ∙ sym (at_drop_more (λ t. take n cells ∷ stretches_of t) cells n no_cell h)

all_at : (stretch : List Cell) → stretches_from stretch [] ≡ stretch ∷ stretches_of []
unfolding stretches_from stretches_of
all_at stretch = refl

pub whole : (cells : List Cell) (n : ℕ) → length cells ≤ n → stretches_from (take n cells) (drop n cells) ≡ take (length cells) cells ∷ stretches_of (drop (length cells) cells)
whole cells n h =
    let all : length cells ≤ length cells = omega arith in
    ap (stretches_from (take n cells)) (drop_all n cells h)
    ∙ all_at (take n cells)
    ∙ ap (λ t. t ∷ stretches_of []) (take_all n cells h ∙ sym (take_all (length cells) cells all))
    ∙ ap (λ t. take (length cells) cells ∷ stretches_of t) (sym (drop_all (length cells) cells all))
