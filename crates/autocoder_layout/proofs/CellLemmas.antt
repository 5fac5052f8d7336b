-- for the `push` functions of `cells`: one more position that is filled
use Rattle.std.proofs.Common.{◌≡◌, ℕ, zero, suc, arith, replicate, ◌-◌, ◌+◌, ◌<◌, ◌≤◌, Bool, true, false, List, [], ◌∷◌, ◌++◌, length, drop, get_or, sym, ◌∙◌, ap, append_assoc}
use Rattle.std.proofs.lemmas.List.{at_drop_more, at_drop_all, append-nil}
use Rattle.autocoder_layout.specs.Cells.{cell, row, field, literal_cells}
use Rattle.autocoder_layout.specs.Literals.{Characters}
use Rattle.autocoder_layout.specs.declared.cells.Cell.{Cell}

pub row_step : (old new : List Cell) (place : ℕ) (codes : List ℕ) (i code d : ℕ) → i < length codes → code ≡ get_or codes i d → new ≡ old ++ cell place code false ∷ [] →
    new ++ row (place + 1) (drop (i + 1) codes) ≡ old ++ row place (drop i codes)
unfolding row
row_step old new place codes i code d h c n =
    ap (λ t. t ++ row (place + 1) (drop (i + 1) codes)) (n ∙ ap (λ x. old ++ cell place x false ∷ []) c)
    ∙ append_assoc old (cell place (get_or codes i d) false ∷ []) (row (place + 1) (drop (i + 1) codes))
    ∙ ap (λ t. old ++ t) (sym (at_drop_more (row place) codes i d h))

pub row_past : (old : List Cell) (place : ℕ) (codes : List ℕ) (i : ℕ) → length codes ≤ i → old ≡ old ++ row place (drop i codes)
unfolding row
row_past old place codes i h = sym (append-nil old) ∙ ap (λ t. old ++ t) (sym (at_drop_all (row place) codes i h))

pub blank_field : (marked : Bool) (place count : ℕ) (old pushed new : List Cell) → 0 < count → pushed ≡ old ++ cell place 0 marked ∷ [] → new ≡ pushed ++ row (place + 1) (replicate (count - 1) 0) →
    new ≡ old ++ field marked place (replicate count 0)
unfolding field
blank_field marked place zero old pushed new h p n = absurd (omega arith)
blank_field marked place (suc count) old pushed new h p n =
    let e : suc count - 1 ≡ count = omega arith in
    n
    ∙ ap (λ t. t ++ row (place + 1) (replicate (suc count - 1) 0)) p
    ∙ append_assoc old (cell place 0 marked ∷ []) (row (place + 1) (replicate (suc count - 1) 0))
    ∙ ap (λ k. old ++ cell place 0 marked ∷ row (place + 1) (replicate k 0)) e

replicate-next : (count k : ℕ) → k < count → replicate {A = ℕ} (count - k) 0 ≡ 0 ∷ replicate (count - (k + 1)) 0
replicate-next count k h =
    let e : count - k ≡ suc (count - (k + 1)) = omega arith in
    ap (λ n. replicate {A = ℕ} n 0) e

pub blank_row_step : (old new : List Cell) (place count k : ℕ) → k < count → new ≡ old ++ cell (place + k) 0 false ∷ [] →
    new ++ row (place + (k + 1)) (replicate (count - (k + 1)) 0) ≡ old ++ row (place + k) (replicate (count - k) 0)
unfolding row
blank_row_step old new place count k h n =
    let e : place + (k + 1) ≡ place + k + 1 = omega arith in
    ap (λ t. t ++ row (place + (k + 1)) (replicate (count - (k + 1)) 0)) n
    ∙ append_assoc old (cell (place + k) 0 false ∷ []) (row (place + (k + 1)) (replicate (count - (k + 1)) 0))
    ∙ ap (λ p. old ++ cell (place + k) 0 false ∷ row p (replicate (count - (k + 1)) 0)) e
    ∙ ap (λ t. old ++ row (place + k) t) (sym (replicate-next count k h))

pub blank_row_past : (old : List Cell) (place count k : ℕ) → count ≤ k → old ≡ old ++ row place (replicate (count - k) 0)
unfolding row
blank_row_past old place count k h =
    let e : count - k ≡ 0 = omega arith in
    sym (append-nil old) ∙ ap (λ n. old ++ row place (replicate n 0)) (sym e)

pub literal_cells_step : (old new : List Cell) (here : ℕ) (literals : List Characters) (i : ℕ) (literal d : Characters) (codes : List ℕ) → i < length literals → literal ≡ get_or literals i d → codes ≡ literal →
    new ≡ old ++ field true here codes →
    new ++ literal_cells (here + length codes) (drop (i + 1) literals) ≡ old ++ literal_cells here (drop i literals)
unfolding literal_cells
literal_cells_step old new here literals i literal d codes h l c n =
    let same : codes ≡ get_or literals i d = c ∙ l in
    ap (λ t. t ++ literal_cells (here + length codes) (drop (i + 1) literals)) n
    ∙ append_assoc old (field true here codes) (literal_cells (here + length codes) (drop (i + 1) literals))
    ∙ ap (λ x. old ++ (field true here x ++ literal_cells (here + length x) (drop (i + 1) literals))) same
    ∙ ap (λ t. old ++ t) (sym (at_drop_more (λ ls. literal_cells here ls) literals i d h))

pub literal_cells_past : (old : List Cell) (here : ℕ) (literals : List Characters) (i : ℕ) → length literals ≤ i → old ≡ old ++ literal_cells here (drop i literals)
unfolding literal_cells
literal_cells_past old here literals i h = sym (append-nil old) ∙ ap (λ t. old ++ t) (sym (at_drop_all (λ ls. literal_cells here ls) literals i h))
