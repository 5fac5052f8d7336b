-- how the places of a card lay a stretch down
use Rattle.std.proofs.Common.{◌≡◌, ◌≢◌, ℕ, ◌+◌, ◌<◌, ◌≤◌, Bool, true, false, List, [], ◌∷◌, refl, sym, ◌∙◌, ap, arith, length, set, map, filter, get_or-set_same, get_or-set_other, set-set, eqb-true, nat_eq, cond}
use Rattle.std.proofs.lemmas.List.{set_comm}
use Rattle.core_store.specs.Storage.{Storage, code_at, with_mark, put_cells}
use Rattle.core_store.proofs.Fields.{length-put_cells}
use Rattle.autocoder_layout.specs.declared.cells.Cell.{Cell}
use Rattle.loader.specs.Stretches.{is_contiguous, marks_of}
use Rattle.loader.specs.Loading.{filled_with}
use Rattle.loader.proofs.PieceBounds.{both}

-- ---- contiguous positions

-- each stands behind the one before it, the first at p
abbrev pub Runs : ℕ → List Cell → Type 0
Runs p [] = Unit {0}
Runs p (c ∷ cells) = (c.position ≡ p) × Runs (p + 1) cells

pub runs : (c : Cell) (cells : List Cell) → is_contiguous (c ∷ cells) ≡ true → Runs c.position (c ∷ cells)
unfolding is_contiguous
runs c [] contiguous = (refl, tt)
runs c (d ∷ cells) contiguous =
    let parts = both (nat_eq d.position (c.position + 1)) (is_contiguous (d ∷ cells)) contiguous in
    let next : d.position ≡ c.position + 1 = eqb-true d.position (c.position + 1) parts.0 in
    (refl, rw (← next) (runs d cells parts.1))

-- ---- cells and marks

abbrev pub bare : Cell → ℕ × Bool
bare c = (c.code, false)

abbrev pub full : Cell → ℕ × Bool
full c = (c.code, c.marked)

-- marks set one after the other
abbrev pub marked_all : Storage → List ℕ → Storage
marked_all s [] = s
marked_all s (p ∷ marks) = marked_all (with_mark s p true) marks

abbrev pub AllAbove : ℕ → List ℕ → Type 0
AllAbove p [] = Unit {0}
AllAbove p (q ∷ marks) = (p < q) × AllAbove p marks

mark_set_other : (s : Storage) (p q : ℕ) (x : ℕ × Bool) (v : Bool) → p ≢ q → with_mark (set s p x) q v ≡ set (with_mark s q v) p x
mark_set_other s p q x v ne =
    ap (λ (c : ℕ × Bool). set (set s p x) q (c.0, v)) (get_or-set_other s p q x (0, false) (λ e. ne (sym e)))
    ∙ set_comm s p q x (code_at s q, v) ne

pub mark_set_same : (s : Storage) (p : ℕ) (x : ℕ × Bool) (v : Bool) → p < length s → with_mark (set s p x) p v ≡ set s p (x.0, v)
mark_set_same s p x v inside =
    ap (λ (c : ℕ × Bool). set (set s p x) p (c.0, v)) (get_or-set_same s p x (0, false) inside) ∙ set-set s p x (x.0, v)

pub marked_set : (s : Storage) (p : ℕ) (x : ℕ × Bool) (marks : List ℕ) → AllAbove p marks → marked_all (set s p x) marks ≡ set (marked_all s marks) p x
marked_set s p x [] above = refl
marked_set s p x (q ∷ marks) above =
    let ne : p ≢ q = omega (arith, above.0) in
    ap (λ t. marked_all t marks) (mark_set_other s p q x true ne) ∙ marked_set (with_mark s q true) p x marks above.1

pub marks_above : (p : ℕ) (cells : List Cell) (first : ℕ) → p < first → Runs first cells → AllAbove p (marks_of cells)
unfolding marks_of
marks_above p [] first lt runs = tt
marks_above p (c ∷ cells) first lt runs =
    let rest : AllAbove p (marks_of cells) = marks_above p cells (first + 1) (omega arith) runs.1 in
    elim c.marked as (λ b. AllAbove p (map (λ d. d.position) (cond b (c ∷ filter (λ d. d.marked) cells) (filter (λ d. d.marked) cells)))) [
      | true ↦ (omega (arith, runs.0), rest)
      | false ↦ rest
    ]

-- characters laid down, and then their marks
pub marks_laid : (s : Storage) (cells : List Cell) (p : ℕ) → Runs p cells → p + length cells ≤ length s →
    marked_all (put_cells s p (map bare cells)) (marks_of cells) ≡ put_cells s p (map full cells)
unfolding put_cells marks_of
marks_laid s [] p runs inside = refl
marks_laid s (c ∷ cells) p runs inside =
    let below : Storage = put_cells s (p + 1) (map bare cells) in
    let rest : marked_all below (marks_of cells) ≡ put_cells s (p + 1) (map full cells) = marks_laid s cells (p + 1) runs.1 (omega arith) in
    let above : AllAbove p (marks_of cells) = marks_above p cells (p + 1) (omega arith) runs.1 in
    let small : p < length below = omega (arith, length-put_cells s (p + 1) (map bare cells)) in
    elim c.marked as (λ b. marked_all (set below p (c.code, false)) (map (λ d. d.position) (cond b (c ∷ filter (λ d. d.marked) cells) (filter (λ d. d.marked) cells)))
    ≡ set (put_cells s (p + 1) (map full cells)) p (c.code, b)) [
      | true ↦
          ap (λ q. marked_all (with_mark (set below p (c.code, false)) q true) (marks_of cells)) runs.0
          ∙ ap (λ t. marked_all t (marks_of cells)) (mark_set_same below p (c.code, false) true small)
          ∙ marked_set below p (c.code, true) (marks_of cells) above
          ∙ ap (λ t. set t p (c.code, true)) rest
      | false ↦ marked_set below p (c.code, false) (marks_of cells) above ∙ ap (λ t. set t p (c.code, false)) rest
    ]

put_cells_set : (s : Storage) (p : ℕ) (x : ℕ × Bool) (first : ℕ) (cells : Storage) → p < first → put_cells (set s p x) first cells ≡ set (put_cells s first cells) p x
unfolding put_cells
put_cells_set s p x first [] lt = refl
put_cells_set s p x first (cell ∷ cells) lt =
    let ne : p ≢ first = omega arith in
    ap (λ t. set t first cell) (put_cells_set s p x (first + 1) cells (omega arith)) ∙ set_comm (put_cells s (first + 1) cells) p first x cell ne

-- contiguous positions filled one after the other
pub filled_is_put : (s : Storage) (cells : List Cell) (p : ℕ) → Runs p cells → filled_with s cells ≡ put_cells s p (map full cells)
unfolding filled_with put_cells
filled_is_put s [] p runs = refl
filled_is_put s (c ∷ cells) p runs =
    ap (λ q. filled_with (set s q (c.code, c.marked)) cells) runs.0
    ∙ filled_is_put (set s p (full c)) cells (p + 1) runs.1
    ∙ put_cells_set s p (full c) (p + 1) (map full cells) (omega arith)
