-- a storage whose positions 000 to 080 are known: a card stands in 001 to 080, and marks stand at these stops
use Rattle.std.proofs.Common.{◌≡◌, ◌≢◌, ℕ, zero, suc, ◌+◌, ◌-◌, ◌<◌, ◌≤◌, Bool, true, false, List, [], ◌∷◌, Option, Some, None, refl, sym, ◌∙◌, ap, arith, if◌then◌else◌, length, get_or, take, drop, length-set, length-drop, get_or-set_same, get_or-set_other, get_or-take, get_or-drop, length-take-le, ext_get_or, nat_eq, ◌==◌, ◌||◌, ◌++◌, slice_index, eq-eqb, ne_eqb, eqb-true, ◌⊎◌, inl, inr}
use Rattle.std.specs.List.{list_any}
use Rattle.std.proofs.Math.Decide.{dec_lt}
use Rattle.core_store.specs.Storage.{Storage, code_at, is_marked, with_mark, least_mark, codes_from, put_codes, put_cells}
use Rattle.core_store.proofs.Fields.{code-codes_from, length-codes_from, length-put_codes, length-put_cells, cell-put_codes_below, cell-put_codes_above, code_at-put_codes, is_marked-put_codes, cell-put_cells_below, cell-put_cells_above, cell-put_cells}

-- two positions are one or two
pub apart : (x p : ℕ) → (x ≡ p) ⊎ (x ≢ p)
apart x p =
    elim (dec_lt x p) [
      | yes below ↦ inr (omega arith)
      | no from ↦ elim (dec_lt p x) [
        | yes above ↦ inr (omega arith)
        | no to ↦ inl (omega arith)
      ]
    ]

-- ---- stops

-- a position is one of these
abbrev pub is_stop : List ℕ → ℕ → Bool
is_stop stops p = list_any (λ q. q == p) stops

-- the least of them among so many positions
abbrev pub least_stop : List ℕ → ℕ → ℕ → Option ℕ
least_stop stops p zero = None
least_stop stops p (suc count) = if is_stop stops p then Some p else least_stop stops (p + 1) count

abbrev pub without : ℕ → List ℕ → List ℕ
without p [] = []
without p (q ∷ stops) = if nat_eq q p then without p stops else q ∷ without p stops

-- the stops with a position, as the last one, or without
abbrev pub put_stop : Bool → ℕ → List ℕ → List ℕ
put_stop true p stops = without p stops ++ p ∷ []
put_stop false p stops = without p stops

or_true : (b : Bool) → (b || true) ≡ true
or_true true = refl
or_true false = refl

without_same : (p : ℕ) (stops : List ℕ) → is_stop (without p stops) p ≡ false
without_same p [] = refl
without_same p (q ∷ stops) =
    (elim (nat_eq q p) as (λ b. nat_eq q p ≡ b → is_stop (if b then without p stops else q ∷ without p stops) p ≡ false) [
      | true ↦ λ _. without_same p stops
      | false ↦ λ other. rw other (without_same p stops)
    ]) refl

without_other : (p k : ℕ) (stops : List ℕ) → p ≢ k → is_stop (without p stops) k ≡ is_stop stops k
without_other p k [] ne = refl
without_other p k (q ∷ stops) ne =
    (elim (nat_eq q p) as (λ b. nat_eq q p ≡ b → is_stop (if b then without p stops else q ∷ without p stops) k ≡ is_stop (q ∷ stops) k) [
      | true ↦ λ same.
          let is : q ≡ p = eqb-true q p same in
          let differ : q ≢ k = λ e. ne (sym is ∙ e) in
          rw (ne_eqb q k differ) (without_other p k stops ne)
      | false ↦ λ other. ap (λ b. nat_eq q k || b) (without_other p k stops ne)
    ]) refl

last_same : (p : ℕ) (stops : List ℕ) → is_stop (stops ++ p ∷ []) p ≡ true
last_same p [] = rw (eq-eqb p p refl) refl
last_same p (q ∷ stops) = ap (λ b. nat_eq q p || b) (last_same p stops) ∙ or_true (nat_eq q p)

last_other : (p k : ℕ) (stops : List ℕ) → p ≢ k → is_stop (stops ++ p ∷ []) k ≡ is_stop stops k
last_other p k [] ne = rw (ne_eqb p k ne) refl
last_other p k (q ∷ stops) ne = ap (λ b. nat_eq q k || b) (last_other p k stops ne)

put_stop_same : (v : Bool) (p : ℕ) (stops : List ℕ) → is_stop (put_stop v p stops) p ≡ v
put_stop_same true p stops = last_same p (without p stops)
put_stop_same false p stops = without_same p stops

put_stop_other : (v : Bool) (p k : ℕ) (stops : List ℕ) → p ≢ k → is_stop (put_stop v p stops) k ≡ is_stop stops k
put_stop_other true p k stops ne = last_other p k (without p stops) ne ∙ without_other p k stops ne
put_stop_other false p k stops ne = without_other p k stops ne

-- ---- the storage

-- the card in 001 to 080, marks at the stops among them, and above as in the rest
pub record Holds (s : Storage) (size : ℕ) (stops card : List ℕ) (rest : Storage) : Type 0 where
  pub size_is : length s ≡ size
  pub rest_size : length rest ≡ size
  pub large : 81 ≤ size
  pub card_size : length card ≡ 80
  pub zero_is : get_or s 0 (0, false) ≡ (0, false)
  pub code_is : (p : ℕ) → 1 ≤ p → p ≤ 80 → code_at s p ≡ slice_index card (p - 1)
  pub mark_is : (p : ℕ) → 1 ≤ p → p ≤ 80 → is_marked s p ≡ is_stop stops p
  pub above : (p : ℕ) → 80 < p → get_or s p (0, false) ≡ get_or rest p (0, false)

module _ (s : Storage) (size : ℕ) (stops card : List ℕ) (rest : Storage) (holds : Holds s size stops card rest) where
  pub least_is_stop : (p count : ℕ) → 1 ≤ p → p + count ≤ 81 → least_mark s p count ≡ least_stop stops p count
  unfolding least_mark
  least_is_stop p zero from to = refl
  least_is_stop p (suc count) from to =
      rw (holds.mark_is p from (omega arith), least_is_stop (p + 1) count (omega arith) (omega arith)) refl

  pub codes_are : (p count : ℕ) → 1 ≤ p → p + count ≤ 81 → codes_from s p count ≡ take count (drop (p - 1) card)
  codes_are p count from to =
      let inside : p + count ≤ length s = omega (arith, holds.size_is, holds.large) in
      let left : length (codes_from s p count) ≡ count = length-codes_from s p count inside in
      let behind : length (drop (p - 1) card) ≡ length card - (p - 1) = length-drop (p - 1) card in
      let right : length (take count (drop (p - 1) card)) ≡ count = length-take-le count (drop (p - 1) card) (omega (arith, behind, holds.card_size)) in
      ext_get_or 0 (codes_from s p count) (take count (drop (p - 1) card)) (left ∙ sym right) (λ i lt.
      let within : i < count = omega (arith, left) in
      let same : p + i - 1 ≡ p - 1 + i = omega arith in
      code-codes_from s p count i within inside
      ∙ holds.code_is (p + i) (omega arith) (omega arith)
      ∙ ap (slice_index card) same
      ∙ sym (get_or-take count (drop (p - 1) card) i 0 within ∙ get_or-drop (p - 1) card i 0))

  -- a mark put in 001 to 080
  pub holds_low : (v : Bool) (x : ℕ) → 1 ≤ x → x ≤ 80 → Holds (with_mark s x v) size (put_stop v x stops) card rest
  holds_low v x from to =
      let inside : x < length s = omega (arith, holds.size_is, holds.large) in
      record {
        size_is = length-set s x (code_at s x, v) ∙ holds.size_is;
        rest_size = holds.rest_size;
        large = holds.large;
        card_size = holds.card_size;
        zero_is = get_or-set_other s x 0 (code_at s x, v) (0, false) (omega arith) ∙ holds.zero_is;
        code_is = λ p one eighty.
            elim (apart x p) [
              | inl here ↦ rw (← here) (ap (λ c. c.0) (get_or-set_same s x (code_at s x, v) (0, false) inside) ∙ holds.code_is x from to)
              | inr there ↦ ap (λ c. c.0) (get_or-set_other s x p (code_at s x, v) (0, false) (λ e. there (sym e))) ∙ holds.code_is p one eighty
            ];
        mark_is = λ p one eighty.
            elim (apart x p) [
              | inl here ↦ rw (← here) (ap (λ c. c.1) (get_or-set_same s x (code_at s x, v) (0, false) inside) ∙ sym (put_stop_same v x stops))
              | inr there ↦ ap (λ c. c.1) (get_or-set_other s x p (code_at s x, v) (0, false) (λ e. there (sym e))) ∙ holds.mark_is p one eighty ∙ sym (put_stop_other v x p stops there)
            ];
        above = λ p far. get_or-set_other s x p (code_at s x, v) (0, false) (omega arith) ∙ holds.above p far;
      }

  -- a mark put above
  pub holds_high : (v : Bool) (x : ℕ) → 80 < x → x < size → Holds (with_mark s x v) size stops card (with_mark rest x v)
  holds_high v x far within =
      let inside : x < length s = omega (arith, holds.size_is) in
      let inside_rest : x < length rest = omega (arith, holds.rest_size) in
      record {
        size_is = length-set s x (code_at s x, v) ∙ holds.size_is;
        rest_size = length-set rest x (code_at rest x, v) ∙ holds.rest_size;
        large = holds.large;
        card_size = holds.card_size;
        zero_is = get_or-set_other s x 0 (code_at s x, v) (0, false) (omega arith) ∙ holds.zero_is;
        code_is = λ p one eighty. ap (λ c. c.0) (get_or-set_other s x p (code_at s x, v) (0, false) (omega arith)) ∙ holds.code_is p one eighty;
        mark_is = λ p one eighty. ap (λ c. c.1) (get_or-set_other s x p (code_at s x, v) (0, false) (omega arith)) ∙ holds.mark_is p one eighty;
        above = λ p up.
            elim (apart x p) [
              | inl here ↦ rw (← here) (
                  get_or-set_same s x (code_at s x, v) (0, false) inside
                  ∙ ap (λ (c : ℕ × Bool). (c.0, v)) (holds.above x far)
                  ∙ sym (get_or-set_same rest x (code_at rest x, v) (0, false) inside_rest))
              | inr there ↦
                  get_or-set_other s x p (code_at s x, v) (0, false) (λ e. there (sym e)) ∙ holds.above p up
                  ∙ sym (get_or-set_other rest x p (code_at rest x, v) (0, false) (λ e. there (sym e)))
            ];
      }

  -- cells put above
  pub holds_cells : (first : ℕ) (cells : Storage) → 80 < first → first + length cells ≤ size → Holds (put_cells s first cells) size stops card (put_cells rest first cells)
  holds_cells first cells far within =
      let inside : first + length cells ≤ length s = omega (arith, holds.size_is) in
      let inside_rest : first + length cells ≤ length rest = omega (arith, holds.rest_size) in
      record {
        size_is = length-put_cells s first cells ∙ holds.size_is;
        rest_size = length-put_cells rest first cells ∙ holds.rest_size;
        large = holds.large;
        card_size = holds.card_size;
        zero_is = cell-put_cells_below s first cells 0 (omega arith) ∙ holds.zero_is;
        code_is = λ p one eighty. ap (λ c. c.0) (cell-put_cells_below s first cells p (omega arith)) ∙ holds.code_is p one eighty;
        mark_is = λ p one eighty. ap (λ c. c.1) (cell-put_cells_below s first cells p (omega arith)) ∙ holds.mark_is p one eighty;
        above = λ p up.
            elim (dec_lt p first) [
              | yes below ↦ cell-put_cells_below s first cells p below ∙ holds.above p up ∙ sym (cell-put_cells_below rest first cells p below)
              | no from ↦ elim (dec_lt p (first + length cells)) [
                | yes among ↦
                    let is : first + (p - first) ≡ p = omega arith in
                    let place : p - first < length cells = omega arith in
                    rw (← is) (cell-put_cells s first cells (p - first) place inside ∙ sym (cell-put_cells rest first cells (p - first) place inside_rest))
                | no past ↦
                    let behind : first + length cells ≤ p = omega arith in
                    cell-put_cells_above s first cells p behind ∙ holds.above p up ∙ sym (cell-put_cells_above rest first cells p behind)
              ]
            ];
      }

  -- another card read
  pub holds_card : (next : List ℕ) → length next ≡ 80 → Holds (put_codes s 1 next) size stops next rest
  holds_card next long =
      let inside : 1 + length next ≤ length s = omega (arith, long, holds.size_is, holds.large) in
      record {
        size_is = length-put_codes s 1 next ∙ holds.size_is;
        rest_size = holds.rest_size;
        large = holds.large;
        card_size = long;
        zero_is = cell-put_codes_below s 1 next 0 (omega arith) ∙ holds.zero_is;
        code_is = λ p one eighty.
            let is : 1 + (p - 1) ≡ p = omega arith in
            let place : p - 1 < length next = omega (arith, long) in
            ap (code_at (put_codes s 1 next)) (sym is) ∙ code_at-put_codes s 1 next (p - 1) place inside;
        mark_is = λ p one eighty. is_marked-put_codes s 1 next p ∙ holds.mark_is p one eighty;
        above = λ p up. cell-put_codes_above s 1 next p (omega (arith, long)) ∙ holds.above p up;
      }
