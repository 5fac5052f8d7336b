-- the three places of a card, as orders about marks
use Rattle.std.proofs.Common.{◌≡◌, ℕ, ◌+◌, ◌*◌, ◌<◌, ◌≤◌, Bool, true, false, if◌then◌else◌, List, [], ◌∷◌, ◌++◌, Option, Some, None, refl, sym, ◌∙◌, ap, arith, length, set, map, drop, codes}
use Rattle.std.proofs.lemmas.List.{set_past, map-append}
use Rattle.std.proofs.Math.Decide.{dec_lt}
use Rattle.core_store.specs.Storage.{Storage, code_at, with_mark, put_cells}
use Rattle.core_store.proofs.Fields.{length-put_cells}
use Rattle.autocoder_layout.specs.declared.cells.Cell.{Cell}
use Rattle.loader.specs.Stretches.{marks_of, mark_limit}
use Rattle.loader.specs.Cards.{instruction, unused, clearing, marking, filled_places, three}
use Rattle.loader.specs.Loading.{filled_with}
use Rattle.loader.proofs.PlaceEffects.{Runs, runs, bare, full, marked_all, AllAbove, mark_set_same, marked_set, marks_above, marks_laid, filled_is_put}

-- a mark set or cleared at two positions, or nothing
abbrev pub Order : Type 0
Order = Option (Bool × (ℕ × ℕ))

abbrev pub words_of : Order → List ℕ
words_of None = unused
words_of (Some (true, (x, y))) = instruction (codes ",") x y
words_of (Some (false, (x, y))) = instruction (codes ")") x y

abbrev pub carried : Order → Storage → Storage
carried None s = s
carried (Some (v, (x, y))) s = with_mark (with_mark s x v) y v

abbrev pub carried_all : List Order → Storage → Storage
carried_all [] s = s
carried_all (o ∷ orders) s = carried_all orders (carried o s)

-- the positions of an order lie above the cards and below the size
abbrev pub IsHigh : ℕ → Order → Type 0
IsHigh size None = Unit {0}
IsHigh size (Some (v, (x, y))) = ((80 < x) × (x < size)) × ((80 < y) × (y < size))

abbrev pub AreHigh : ℕ → List Order → Type 0
AreHigh size [] = Unit {0}
AreHigh size (o ∷ orders) = IsHigh size o × AreHigh size orders

abbrev pub clearing_orders : List Cell → List Order
clearing_orders [] = []
clearing_orders (first ∷ rest) = if first.marked then [] else Some (false, (first.position, first.position)) ∷ []

abbrev pub marking_orders : List ℕ → List Order
marking_orders [] = []
marking_orders (p ∷ []) = Some (true, (p, p)) ∷ []
marking_orders (p ∷ q ∷ marks) = Some (true, (p, q)) ∷ marking_orders marks

abbrev pub orders_of : List Cell → List Order
orders_of stretch = clearing_orders stretch ++ marking_orders (marks_of (drop 1 stretch))

-- ---- their words

marking_words : (marks : List ℕ) → map words_of (marking_orders marks) ≡ marking marks
unfolding marking
marking_words [] = refl
marking_words (p ∷ []) = refl
marking_words (p ∷ q ∷ marks) = ap (λ places. instruction (codes ",") p q ∷ places) (marking_words marks)

clearing_words : (stretch : List Cell) → map words_of (clearing_orders stretch) ≡ clearing stretch
clearing_words [] = refl
clearing_words (first ∷ rest) =
    elim first.marked as (λ b. map words_of (if b then [] else Some (false, (first.position, first.position)) ∷ [])
    ≡ (if b then [] else instruction (codes ")") first.position first.position ∷ [])) [
      | true ↦ refl
      | false ↦ refl
    ]

pub order_words : (stretch : List Cell) → map words_of (orders_of stretch) ≡ filled_places stretch
order_words stretch =
    map-append words_of (clearing_orders stretch) (marking_orders (marks_of (drop 1 stretch)))
    ∙ ap (λ places. places ++ map words_of (marking_orders (marks_of (drop 1 stretch)))) (clearing_words stretch)
    ∙ ap (λ places. clearing stretch ++ places) (marking_words (marks_of (drop 1 stretch)))

-- ---- their number

marking_count : (marks : List ℕ) → 2 * length (marking_orders marks) ≤ length marks + 1
marking_count [] = omega arith
marking_count (p ∷ []) = omega arith
marking_count (p ∷ q ∷ marks) = omega (arith, marking_count marks)

pub few_orders : (stretch : List Cell) → length (marks_of (drop 1 stretch)) ≤ mark_limit stretch → length (orders_of stretch) ≤ 3
few_orders [] limit = omega (arith, marking_count (marks_of []), limit)
few_orders (first ∷ rest) limit =
    (elim first.marked as (λ b. length (marks_of rest) ≤ (if b then 6 else 4) →
    length ((if b then [] else Some (false, (first.position, first.position)) ∷ []) ++ marking_orders (marks_of rest)) ≤ 3) [
      | true ↦ λ limit. omega (arith, marking_count (marks_of rest), limit)
      | false ↦ λ limit. omega (arith, marking_count (marks_of rest), limit)
    ]) limit

-- ---- what they do

pub carried_append : (xs ys : List Order) (s : Storage) → carried_all (xs ++ ys) s ≡ carried_all ys (carried_all xs s)
carried_append [] ys s = refl
carried_append (o ∷ xs) ys s = carried_append xs ys (carried o s)

-- a mark put twice
mark_twice : (s : Storage) (p : ℕ) (v : Bool) → with_mark (with_mark s p v) p v ≡ with_mark s p v
mark_twice s p v =
    elim (dec_lt p (length s)) [
      | yes within ↦ mark_set_same s p (code_at s p, v) v within
      | no past ↦
          let out : length s ≤ p = omega arith in
          let same : with_mark s p v ≡ s = set_past s p (code_at s p, v) out in
          ap (λ t. with_mark t p v) same
    ]

marking_done : (marks : List ℕ) (s : Storage) → carried_all (marking_orders marks) s ≡ marked_all s marks
marking_done [] s = refl
marking_done (p ∷ []) s = mark_twice s p true
marking_done (p ∷ q ∷ marks) s = marking_done marks (with_mark (with_mark s p true) q true)

-- the first character laid down with its mark, and cleared again where it has none
clearing_done : (s : Storage) (first : Cell) (rest : List Cell) (p : ℕ) → first.position ≡ p → p < length s →
    carried_all (clearing_orders (first ∷ rest)) (set s p (first.code, true)) ≡ set s p (full first)
clearing_done s first rest p here inside =
    elim first.marked as (λ b. carried_all (if b then [] else Some (false, (first.position, first.position)) ∷ []) (set s p (first.code, true)) ≡ set s p (first.code, b)) [
      | true ↦ refl
      | false ↦
          ap (λ q. with_mark (with_mark (set s p (first.code, true)) q false) q false) here
          ∙ mark_twice (set s p (first.code, true)) p false
          ∙ mark_set_same s p (first.code, true) false inside
    ]

-- what the move and the three places make of a stretch is the stretch
pub orders_lay : (s : Storage) (first : Cell) (rest : List Cell) (p : ℕ) → Runs p (first ∷ rest) → p + length (first ∷ rest) ≤ length s →
    carried_all (orders_of (first ∷ rest)) (put_cells s p ((first.code, true) ∷ map bare rest)) ≡ filled_with s (first ∷ rest)
unfolding put_cells
orders_lay s first rest p runs inside =
    let below : Storage = put_cells s (p + 1) (map bare rest) in
    let small : p < length below = omega (arith, length-put_cells s (p + 1) (map bare rest)) in
    let above : AllAbove p (marks_of rest) = marks_above p rest (p + 1) (omega arith) runs.1 in
    carried_append (clearing_orders (first ∷ rest)) (marking_orders (marks_of rest)) (set below p (first.code, true))
    ∙ ap (carried_all (marking_orders (marks_of rest))) (clearing_done below first rest p runs.0 small)
    ∙ marking_done (marks_of rest) (set below p (full first))
    ∙ marked_set below p (full first) (marks_of rest) above
    ∙ ap (λ t. set t p (full first)) (marks_laid s rest (p + 1) runs.1 (omega arith))
    ∙ sym (filled_is_put s (first ∷ rest) p runs)

-- ---- exactly three

pub record Three (size : ℕ) (orders : List Order) : Type 0 where
  pub first : Order
  pub second : Order
  pub third : Order
  pub highs : (IsHigh size first × IsHigh size second) × IsHigh size third
  pub words : three (map words_of orders) ≡ words_of first ++ (words_of second ++ (words_of third ++ []))
  pub done : (s : Storage) → carried_all orders s ≡ carried third (carried second (carried first s))

pub three_of : (size : ℕ) (orders : List Order) → length orders ≤ 3 → AreHigh size orders → Three size orders
three_of size [] few high = record { first = None; second = None; third = None; highs = ((tt, tt), tt); words = refl; done = λ s. refl }
three_of size (a ∷ []) few high = record { first = a; second = None; third = None; highs = ((high.0, tt), tt); words = refl; done = λ s. refl }
three_of size (a ∷ b ∷ []) few high = record { first = a; second = b; third = None; highs = ((high.0, high.1.0), tt); words = refl; done = λ s. refl }
three_of size (a ∷ b ∷ c ∷ []) few high = record { first = a; second = b; third = c; highs = ((high.0, high.1.0), high.1.1.0); words = refl; done = λ s. refl }
three_of size (a ∷ b ∷ c ∷ d ∷ orders) few high = absurd (omega (arith, few))
