-- for `Layout::cells_of`: a constant with fewer blanks, which decides of the card as the whole does
use Rattle.std.proofs.Common.{◌≡◌, ℕ, suc, arith, min, replicate, ◌-◌, ◌+◌, ◌<◌, ◌≤◌, Bool, true, false, ◌||◌, List, [], ◌∷◌, ◌++◌, length, refl, sym, ◌∙◌, ap, subst, inl, inr, nat_le}
use Rattle.std.specs.List.{All}
use Rattle.std.proofs.Math.Decide.{dec_lt}
use Rattle.std.proofs.lemmas.Bool.{le-leb}
use Rattle.std.proofs.lemmas.List.{append-nil, length-replicate, replicate-append-replicate}
use Rattle.std.proofs.lemmas.List.Elements.{All-nil, All-cons}
use Rattle.autocoder_statements.specs.declared.constants.Constant.{Constant}
use Rattle.autocoder_statements.specs.declared.constants.Constant.TheVariants.{Characters, Blanks}
use Rattle.autocoder_layout.specs.Cells.{cell, row, field, constant_codes, cut_constant}
use Rattle.autocoder_layout.specs.Judging.{fills_outside, IsCut}
use Rattle.autocoder_layout.specs.declared.cells.Cell.{Cell}

pub uncut : (size : ℕ) (cells built : List Cell) → built ≡ cells → IsCut size cells built
uncut size cells built e = record { rest = []; all = sym e ∙ sym (append-nil built); beyond = All-nil (λ c. size ≤ c.position); enough = inl refl }

row-append : (place : ℕ) (xs ys : List ℕ) → row place (xs ++ ys) ≡ row place xs ++ row (place + length xs) ys
unfolding row
row-append place [] ys = let e : place ≡ place + 0 = omega arith in ap (λ p. row p ys) e
row-append place (x ∷ xs) ys =
    let e : place + 1 + length xs ≡ place + length (x ∷ xs) = omega arith in
    ap (λ t. cell place x false ∷ t) (row-append (place + 1) xs ys ∙ ap (λ p. row (place + 1) xs ++ row p ys) e)

field-append : (marked : Bool) (place x : ℕ) (xs ys : List ℕ) → field marked place ((x ∷ xs) ++ ys) ≡ field marked place (x ∷ xs) ++ row (place + 1 + length xs) ys
unfolding field
field-append marked place x xs ys = ap (λ t. cell place x marked ∷ t) (row-append (place + 1) xs ys)

row_beyond : (size place : ℕ) (codes : List ℕ) → size ≤ place → All (λ c. size ≤ c.position) (row place codes)
unfolding row
row_beyond size place [] h = All-nil (λ c. size ≤ c.position)
row_beyond size place (code ∷ codes) h = All-cons (λ c. size ≤ c.position) (cell place code false) (row (place + 1) codes) h (row_beyond size (place + 1) codes (omega arith))

or_true : (b : Bool) → (b || true) ≡ true
or_true true = refl
or_true false = refl

row_outside : (size place : ℕ) (x : ℕ) (xs : List ℕ) → size ≤ place + length xs → fills_outside size (row place (x ∷ xs)) ≡ true
unfolding row
row_outside size place x [] h = ap (λ b. b || false) (le-leb size place (omega arith))
row_outside size place x (y ∷ ys) h = ap (λ b. nat_le size place || b) (row_outside size (place + 1) y ys (omega arith)) ∙ or_true (nat_le size place)

-- a field that is longer than the storage goes on past its end
field_outside : (size place : ℕ) (marked : Bool) (x : ℕ) (xs : List ℕ) → size ≤ place + length xs → fills_outside size (field marked place (x ∷ xs)) ≡ true
unfolding field row
field_outside size place marked x [] h = ap (λ b. b || false) (le-leb size place (omega arith))
field_outside size place marked x (y ∷ ys) h = ap (λ b. nat_le size place || b) (row_outside size (place + 1) y ys (omega arith)) ∙ or_true (nat_le size place)

blanks_cut : (size place k : ℕ) (marked : Bool) (xs : List ℕ) → length xs ≡ size → IsCut size (field marked place ((0 ∷ xs) ++ replicate k 0)) (field marked place (0 ∷ xs))
blanks_cut size place k marked xs e = record {
  rest = row (place + 1 + length xs) (replicate k 0);
  all = field-append marked place 0 xs (replicate k 0);
  beyond = row_beyond size (place + 1 + length xs) (replicate k 0) (omega arith);
  enough = inr (field_outside size place marked 0 xs (omega arith));
}

more_blanks : (size count : ℕ) → size + 1 < count → replicate {A = ℕ} count 0 ≡ (0 ∷ replicate size 0) ++ replicate (count - (size + 1)) 0
more_blanks size count more =
    let all : suc size + (count - (size + 1)) ≡ count = omega arith in
    ap (λ n. replicate {A = ℕ} n 0) (sym all) ∙ sym (replicate-append-replicate (suc size) (count - (size + 1)) 0)

pub constant_cut : (size place : ℕ) (marked : Bool) (constant : Constant) (built : List Cell) → built ≡ field marked place (constant_codes (cut_constant size constant)) → IsCut size (field marked place (constant_codes constant)) built
constant_cut size place marked (Characters text) built e = uncut size (field marked place text) built e
constant_cut size place marked (Blanks count) built e =
    elim (dec_lt (size + 1) count) [
      | yes more ↦
          let least : min count (size + 1) ≡ suc size = omega arith in
          subst (λ b. IsCut size (field marked place (replicate count 0)) b) (sym (e ∙ ap (λ n. field marked place (replicate n 0)) least))
          (subst (λ codes. IsCut size (field marked place codes) (field marked place (0 ∷ replicate size 0))) (sym (more_blanks size count more))
          (blanks_cut size place (count - (size + 1)) marked (replicate size 0) (length-replicate size 0)))
      | no few ↦
          let least : min count (size + 1) ≡ count = omega arith in
          uncut size (field marked place (replicate count 0)) built (e ∙ ap (λ n. field marked place (replicate n 0)) least)
    ]
