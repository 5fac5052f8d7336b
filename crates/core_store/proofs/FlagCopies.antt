-- characters and cells copied one by one from the right
use Rattle.std.proofs.Common.{Bool, false, set, replicate, ◌≡◌, ℕ, suc, ◌+◌, ◌-◌, ◌<◌, ◌≤◌, refl, sym, ◌∙◌, ap, arith, length, get_or}
use Rattle.std.proofs.Math.Decide.{dec_lt}
use Rattle.core_store.specs.Storage.{Storage, code_at, put, put_codes, put_cells, codes_ending, cells_ending, blank_cell}
use Rattle.core_store.specs.Operands.{is_overlapping}
use Rattle.core_store.proofs.OperandCuts.{not_overlapping}
use Rattle.core_store.proofs.Fields.{cell-put_codes_below, cell-put_codes_above, cell-put_cells_below, cell-put_cells_above, codes_ending-none, codes_ending_more, length-codes_ending, cells_ending-none, cells_ending_more, length-cells_ending}

-- so many of the characters were copied
abbrev pub CodesMoved : Storage → ℕ → ℕ → ℕ → Storage → Type 0
CodesMoved s a b i now = now ≡ put_codes s (b + 1 - i) (codes_ending s a i)

-- so many of the cells were copied
abbrev pub CellsMoved : Storage → ℕ → ℕ → ℕ → Storage → Type 0
CellsMoved s a b i now = now ≡ put_cells s (b + 1 - i) (cells_ending s a i)

pub move_none : (s : Storage) (a b : ℕ) → CodesMoved s a b 0 s
unfolding put_codes
move_none s a b = rw (codes_ending-none s a) refl

pub load_none : (s : Storage) (a b : ℕ) → CellsMoved s a b 0 s
unfolding put_cells
load_none s a b = rw (cells_ending-none s a) refl

module _ (s : Storage) (a b i count : ℕ) (a_in : a < length s) (b_in : b < length s) (a_from : count ≤ a + 1) (b_from : count ≤ b + 1) (i_in : i < count)
    (apart : is_overlapping a b count ≡ false) where
  far : b < a → count ≤ a - b
  far after = omega (arith, not_overlapping a b count apart)

  old_code : code_at (put_codes s (b + 1 - i) (codes_ending s a i)) (a - i) ≡ code_at s (a - i)
  old_code =
      let long : length (codes_ending s a i) ≡ i = length-codes_ending s a i a_in (omega arith) in
      elim (dec_lt b a) [
        | yes after ↦ ap (λ c. c.0) (cell-put_codes_above s (b + 1 - i) (codes_ending s a i) (a - i) (omega (arith, far after)))
        | no before ↦ ap (λ c. c.0) (cell-put_codes_below s (b + 1 - i) (codes_ending s a i) (a - i) (omega arith))
      ]

  old_cell : get_or (put_cells s (b + 1 - i) (cells_ending s a i)) (a - i) (0, false) ≡ get_or s (a - i) (0, false)
  old_cell =
      let long : length (cells_ending s a i) ≡ i = length-cells_ending s a i a_in (omega arith) in
      elim (dec_lt b a) [
        | yes after ↦ cell-put_cells_above s (b + 1 - i) (cells_ending s a i) (a - i) (omega (arith, far after))
        | no before ↦ cell-put_cells_below s (b + 1 - i) (cells_ending s a i) (a - i) (omega arith)
      ]

  pub move_step : (now : Storage) → CodesMoved s a b i now → (code : ℕ) → code ≡ code_at now (a - i) → (new : Storage) → new ≡ put now (b - i) code → CodesMoved s a b (i + 1) new
  unfolding put_codes
  move_step now is code code_is new new_is =
      let first : b + 1 - (i + 1) ≡ b - i = omega arith in
      let next : b + 1 - i ≡ b - i + 1 = omega arith in
      new_is
      ∙ ap (put now (b - i)) (code_is ∙ ap (λ t. code_at t (a - i)) is ∙ old_code)
      ∙ ap (λ t. put t (b - i) (code_at s (a - i))) (is ∙ ap (λ n. put_codes s n (codes_ending s a i)) next)
      ∙ ap (put_codes s (b - i)) (sym (codes_ending_more s a i a_in (omega arith)))
      ∙ ap (λ n. put_codes s n (codes_ending s a (i + 1))) (sym first)

  pub load_step : (now : Storage) → CellsMoved s a b i now → (cell : ℕ × Bool) → cell ≡ get_or now (a - i) (0, false) → (new : Storage) → new ≡ set now (b - i) cell → CellsMoved s a b (i + 1) new
  unfolding put_cells
  load_step now is cell cell_is new new_is =
      let first : b + 1 - (i + 1) ≡ b - i = omega arith in
      let next : b + 1 - i ≡ b - i + 1 = omega arith in
      new_is
      ∙ ap (set now (b - i)) (cell_is ∙ ap (λ t. get_or t (a - i) (0, false)) is ∙ old_cell)
      ∙ ap (λ t. set t (b - i) (get_or s (a - i) (0, false))) (is ∙ ap (λ n. put_cells s n (cells_ending s a i)) next)
      ∙ ap (put_cells s (b - i)) (sym (cells_ending_more s a i a_in (omega arith)))
      ∙ ap (λ n. put_cells s n (cells_ending s a (i + 1))) (sym first)

-- the positions from p on are cleared
abbrev pub Cleared : Storage → ℕ → ℕ → Storage → Type 0
Cleared s last p now = now ≡ put_cells s p (replicate (last + 1 - p) blank_cell)

pub clear_none : (s : Storage) (last : ℕ) → Cleared s last (last + 1) s
unfolding put_cells
clear_none s last = let none : last + 1 - (last + 1) ≡ 0 = omega arith in rw none refl

pub clear_step : (s : Storage) (last next : ℕ) (now : Storage) → 1 ≤ next → next ≤ last + 1 → Cleared s last next now → Cleared s last (next - 1) (set now (next - 1) blank_cell)
unfolding put_cells
clear_step s last next now some le is =
    let more : last + 1 - (next - 1) ≡ suc (last + 1 - next) = omega arith in
    let here : next ≡ next - 1 + 1 = omega arith in
    ap (λ t. set t (next - 1) blank_cell) (is ∙ ap (λ n. put_cells s n (replicate (last + 1 - next) blank_cell)) here)
    ∙ ap (λ n. put_cells s (next - 1) (replicate n blank_cell)) (sym more)
