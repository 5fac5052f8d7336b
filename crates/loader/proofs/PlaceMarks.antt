-- the marks of some positions, one after the other
use Rattle.std.proofs.Common.{◌≡◌, ℕ, zero, suc, ◌+◌, ◌<◌, ◌≤◌, Bool, true, false, cond, nat_lt, List, [], ◌∷◌, length, map, drop, get_or, Some, None, refl, sym, ◌∙◌, ap, arith}
use Rattle.std.specs.Prelude.{codes}
use Rattle.std.specs.List.{filter, position, position_or_len}
use Rattle.std.proofs.lemmas.List.Quantifiers.{position-Some}
use Rattle.std.proofs.lemmas.List.Sums.{fails_before_first}
use Rattle.std.proofs.lemmas.Bool.Decides.{nat_tests}
use Rattle.autocoder_layout.specs.declared.cells.Cell.{Cell}
use Rattle.loader.specs.Stretches.{marks_of}
use Rattle.loader.specs.Cards.{instruction, marking}
use Rattle.loader.proofs.StretchLemmas.{no_cell}

marked_first : (c : Cell) (cells : List Cell) → c.marked ≡ true → marks_of (c ∷ cells) ≡ c.position ∷ marks_of cells
unfolding marks_of
marked_first c cells h = ap (λ b. map (λ c. c.position) (cond b (c ∷ filter (λ c. c.marked) cells) (filter (λ c. c.marked) cells))) h

unmarked_first : (c : Cell) (cells : List Cell) → c.marked ≡ false → marks_of (c ∷ cells) ≡ marks_of cells
unfolding marks_of
unmarked_first c cells h = ap (λ b. map (λ c. c.position) (cond b (c ∷ filter (λ c. c.marked) cells) (filter (λ c. c.marked) cells))) h

marks_at : (cells : List Cell) (i : ℕ) (d : Cell) → i < length cells → (get_or cells i d).marked ≡ true → ((k : ℕ) → k < i → (get_or cells k d).marked ≡ false) →
    marks_of cells ≡ (get_or cells i d).position ∷ marks_of (drop (suc i) cells)
marks_at [] i d h m none = absurd (omega arith)
marks_at (c ∷ cells) zero d h m none = marked_first c cells m
marks_at (c ∷ cells) (suc i) d h m none =
    unmarked_first c cells (none 0 (omega arith))
    ∙ marks_at cells i d (omega arith) m (λ k below. none (suc k) (omega arith))

-- the first mark, and those behind it
pub mark_found : (cells behind : List Cell) (i : ℕ) (d : Cell) → Some i ≡ position (λ c. c.marked) cells → behind ≡ drop (i + 1) cells →
    marks_of cells ≡ (get_or cells i d).position ∷ marks_of behind
mark_found cells behind i d e b =
    let at = position-Some (λ c. c.marked) cells i d (sym e) in
    let next : suc i ≡ i + 1 = omega arith in
    marks_at cells i d at.0 at.1 at.2
    ∙ ap (λ k. (get_or cells i d).position ∷ marks_of (drop k cells)) next
    ∙ ap (λ t. (get_or cells i d).position ∷ marks_of t) (sym b)

no_marks : (cells : List Cell) (d : Cell) → ((k : ℕ) → k < length cells → (get_or cells k d).marked ≡ false) → marks_of cells ≡ []
unfolding marks_of
no_marks [] d none = refl
no_marks (c ∷ cells) d none =
    unmarked_first c cells (none 0 (omega arith))
    ∙ no_marks cells d (λ k below. none (suc k) (omega arith))

not_within : (within : Bool) (i : ℕ) → cond within (Some i) None ≡ None → within ≡ false
not_within true i e = absurd (cc)
not_within false i e = refl

pub mark_missing : (cells : List Cell) → None ≡ position (λ c. c.marked) cells → marks_of cells ≡ []
mark_missing cells e =
    let first = position_or_len (λ (c : Cell). c.marked) cells in
    let past : nat_lt first (length cells) ≡ false = not_within (nat_lt first (length cells)) first (sym e) in
    let all : length cells ≤ first = grind (arith, nat_tests) in
    no_marks cells no_cell (λ k below. fails_before_first (λ (c : Cell). c.marked) cells k no_cell (omega arith))

-- ---- two marks in each place

pub pair_of_two : (marks behind rest : List ℕ) (p q : ℕ) → marks ≡ p ∷ behind → behind ≡ q ∷ rest → marking marks ≡ instruction (codes ",") p q ∷ marking rest
unfolding marking
pair_of_two marks behind rest p q e f = ap marking (e ∙ ap (λ t. p ∷ t) f)

pub pair_of_one : (marks behind : List ℕ) (p : ℕ) → marks ≡ p ∷ behind → behind ≡ [] → marking marks ≡ instruction (codes ",") p p ∷ marking behind
unfolding marking
pair_of_one marks behind p e f = ap marking (e ∙ ap (λ t. p ∷ t) f) ∙ ap (λ t. instruction (codes ",") p p ∷ marking t) (sym f)
