-- some of sixteen lanes, and others in place of them
use Rattle.std.proofs.Common.{◌≡◌, ◌++◌, ℕ, zero, suc, ◌+◌, ◌-◌, ◌<◌, ◌≤◌, Bool, true, false, cond, eqb, leb, if◌then◌else◌, List, [], ◌∷◌, refl, sym, ◌∙◌, ap, arith, length, get_or, take, drop, map, replicate}
use Rattle.std.specs.Simd.Lanes.{sel_l, zip2, chunk}
use Rattle.std.proofs.Math.Decide.{dec_lt}
use Rattle.std.proofs.lemmas.Bool.{eqb-true}
use Rattle.std.proofs.lemmas.List.{ext_get_or, length-append, length-take-le, length-drop, get_or-take, get_or-drop, get_or_append_left, get_or-append-add}
use Rattle.std.proofs.lemmas.Simd.{get_or-replicate, length-zip2, get_or-zip2, length-sel_l, get_or-sel_l, get_or-chunk, length-chunk}
use Rattle.bcd.proofs.Tables.{at_each}

pub sel_map : (p : ℕ → Bool) (y : ℕ) (xs : List ℕ) (n : ℕ) → length xs ≡ n → sel_l (map p xs) (replicate n y) xs ≡ map (λ x. if p x then y else x) xs
sel_map p y [] n e = refl
sel_map p y (x ∷ xs) zero e = absurd (omega arith)
sel_map p y (x ∷ xs) (suc n) e = ap (λ l. (if p x then y else x) ∷ l) (sel_map p y xs n (omega arith))

abbrev pub edge : List ℕ
edge = replicate 16 0 ++ replicate 16 255

edge_low : (i : ℕ) → i < 16 → leb 128 (get_or edge i 0) ≡ false
edge_low i lt = ap (leb 128) (eqb-true _ 0 (at_each (λ k. eqb (get_or edge k 0) 0) 16 refl i lt))

edge_high : (i : ℕ) → i < 16 → leb 128 (get_or edge (16 + i) 0) ≡ true
edge_high i lt = ap (leb 128) (eqb-true _ 255 (at_each (λ k. eqb (get_or edge (16 + k) 0) 255) 16 refl i lt))

-- the lanes that the edge table selects
module _ (count : ℕ) (lanes others : List ℕ) (most : count ≤ 16) (long : length lanes ≡ 16) (long' : length others ≡ 16) where
  abbrev loaded : List ℕ
  loaded = chunk 0 16 (take (32 - count) (drop count edge))

  abbrev ms : List Bool
  ms = zip2 leb (replicate 16 128) (chunk 0 16 (take (32 - count) (drop count edge)))

  abbrev joined : List ℕ
  joined = take (16 - count) others ++ drop (16 - count) lanes

  size : length loaded ≡ 16
  size = length-chunk 0 16 (take (32 - count) (drop count edge)) (omega (arith, length-take-le (32 - count) (drop count edge) (omega (arith, length-drop count edge))))

  front : length (take (16 - count) others) ≡ 16 - count
  front = length-take-le (16 - count) others (omega arith)

  size_ms : length ms ≡ 16
  size_ms = length-zip2 leb (replicate 16 128) loaded (sym size)

  mask_at : (j : ℕ) → j < 16 → get_or ms j false ≡ leb 128 (get_or edge (count + j) 0)
  mask_at j lt =
      let start : 0 + j ≡ j = omega arith in
      get_or-zip2 leb (replicate 16 128) loaded j 128 0 false lt (omega (arith, size))
      ∙ ap (λ x. leb x (get_or loaded j 0)) (get_or-replicate 16 j 128 128 lt)
      ∙ ap (leb 128) (get_or-chunk 0 16 (take (32 - count) (drop count edge)) j 0 lt ∙ ap (λ n. get_or (take (32 - count) (drop count edge)) n 0) start ∙ get_or-take (32 - count) (drop count edge) j 0 (omega arith) ∙ get_or-drop count edge j 0)

  before : (j : ℕ) → j < 16 - count → get_or ms j false ≡ false
  before j lt = mask_at j (omega arith) ∙ edge_low (count + j) (omega arith)

  after : (j : ℕ) → j < 16 → 16 - count ≤ j → get_or ms j false ≡ true
  after j lt le =
      let place : count + j ≡ 16 + (count + j - 16) = omega arith in
      mask_at j lt ∙ ap (λ n. leb 128 (get_or edge n 0)) place ∙ edge_high (count + j - 16) (omega arith)

  picked : (j : ℕ) → j < 16 → get_or (sel_l ms lanes others) j 0 ≡ get_or joined j 0
  picked j lt =
      get_or-sel_l ms lanes others j 0 (omega (arith, size_ms)) (omega arith) (omega arith)
      ∙ elim (dec_lt j (16 - count)) [
        | yes early ↦
            ap (λ b. cond b (get_or lanes j 0) (get_or others j 0)) (before j early)
            ∙ sym (get_or_append_left (take (16 - count) others) (drop (16 - count) lanes) 0 j (omega (arith, front)) ∙ get_or-take (16 - count) others j 0 early)
        | no late ↦
            let place : j ≡ length (take (16 - count) others) + (j - (16 - count)) = omega (arith, front) in
            let back : 16 - count + (j - (16 - count)) ≡ j = omega arith in
            ap (λ b. cond b (get_or lanes j 0) (get_or others j 0)) (after j lt (omega arith))
            ∙ sym (ap (λ n. get_or joined n 0) place ∙ get_or-append-add (take (16 - count) others) (drop (16 - count) lanes) (j - (16 - count)) 0
            ∙ get_or-drop (16 - count) lanes (j - (16 - count)) 0 ∙ ap (λ n. get_or lanes n 0) back)
      ]

  pub last_is : sel_l ms lanes others ≡ joined
  last_is =
      let whole : length joined ≡ 16 = length-append (take (16 - count) others) (drop (16 - count) lanes) ∙ sum_of in
      let all : length (sel_l ms lanes others) ≡ 16 = length-sel_l ms lanes others (size_ms ∙ sym long) (size_ms ∙ sym long') ∙ size_ms in
      ext_get_or 0 (sel_l ms lanes others) joined (all ∙ sym whole) (λ j lt. picked j (omega (arith, all))) where
        sum_of : length (take (16 - count) others) + length (drop (16 - count) lanes) ≡ 16
        sum_of = omega (arith, front, length-drop (16 - count) lanes)
