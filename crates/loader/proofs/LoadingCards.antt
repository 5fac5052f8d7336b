-- a load card's five instructions
use Rattle.std.proofs.Common.{◌≡◌, ℕ, zero, suc, ◌+◌, ◌-◌, ◌<◌, ◌≤◌, Bool, true, false, List, [], ◌∷◌, ◌++◌, Some, None, refl, sym, ◌∙◌, ap, ap₂, subst, arith, length, get_or, map, take, drop, slice_get, slice_index, ext_get_or, if◌then◌else◌, ne_eqb, cond, filter}
use Rattle.std.proofs.lemmas.List.{length-map}
use Rattle.cards.specs.declared.decks.Card.{Card}
use Rattle.core_store.specs.Storage.{Storage, is_marked, with_mark, field_length, greatest_mark, cells_ending, put_cells}
use Rattle.core_store.proofs.Marks.{greatest_is}
use Rattle.core_store.proofs.Fields.{length-cells_ending, nth-cells_ending}
use Rattle.units.specs.declared.profiles.Profile.{Profile}
use Rattle.units.specs.declared.switches.Switches.{Switches}
use Rattle.autocoder_layout.specs.declared.cells.Cell.{Cell}
use Rattle.machine.specs.Run.{State, step, after}
use Rattle.loader.specs.Cards.{load_card, last_position}
use Rattle.loader.specs.Stretches.{is_lawful, marks_of}
use Rattle.loader.specs.Loading.{loading_marks, filled_with}
use Rattle.loader.proofs.LoadingFronts.{Holds, is_stop, least_stop, holds_high, holds_cells}
use Rattle.loader.proofs.PlaceEffects.{Runs, runs, bare}
use Rattle.loader.proofs.PieceBounds.{lawful_contiguous, lawful_length, lawful_marks}
use Rattle.loader.proofs.PlaceOrders.{Order, words_of, clearing_orders, marking_orders, carried, IsHigh, AreHigh, orders_of, few_orders, orders_lay, Three, three_of}
use Rattle.loader.proofs.LoadingSteps.{At, ends_at, by_set, by_clear, by_load, by_nothing, by_reading}
use Rattle.loader.proofs.PieceTexts.{says_move, says_first, says_second, says_third, says_reading, says_code}

-- ---- the field in front

-- no mark between 001 and 040
no_stop : (p : ℕ) → 1 < p → p < 40 → is_stop loading_marks p ≡ false
no_stop p from to =
    rw (
      ne_eqb 1 p (omega arith),
      ne_eqb 40 p (omega arith),
      ne_eqb 47 p (omega arith),
      ne_eqb 54 p (omega arith),
      ne_eqb 61 p (omega arith),
      ne_eqb 68 p (omega arith),
      ne_eqb 72 p (omega arith),
    ) refl

bare_is : (cells : List Cell) (k : ℕ) → k < length cells → get_or (map bare cells) k (0, false) ≡ (get_or (map (λ c. c.code) cells) k 0, false)
bare_is [] k lt = absurd (omega arith)
bare_is (c ∷ cells) zero lt = refl
bare_is (c ∷ cells) (suc k) lt = bare_is cells k (omega arith)

module _ (s : Storage) (size : ℕ) (card : List ℕ) (rest : Storage) (holds : Holds s size loading_marks card rest) where
  pub front_length : (n : ℕ) → 1 ≤ n → n < 40 → field_length s n ≡ Some n
  unfolding field_length
  front_length n from to =
      let one : is_marked s 1 ≡ true = holds.mark_is 1 (omega arith) (omega arith) in
      let mark : greatest_mark s n ≡ Some 1 =
      greatest_is s n 1 one from (λ k above below. holds.mark_is k (omega arith) (omega arith) ∙ no_stop k above (omega arith)) in
      let count : n + 1 - 1 ≡ n = omega arith in
      rw mark (ap (λ k. Some k) count)

  -- each of the cells up to the last character
  cell_is : (first : Cell) (others : List Cell) → length (first ∷ others) ≤ 39 →
      ((k : ℕ) → k < length (first ∷ others) → slice_index card k ≡ get_or (map (λ c. c.code) (first ∷ others)) k 0) →
      (k : ℕ) → k < length (first ∷ others) → get_or (cells_ending s (length (first ∷ others)) (length (first ∷ others))) k (0, false) ≡ get_or ((first.code, true) ∷ map bare others) k (0, false)
  cell_is first others few says zero lt =
      let n : ℕ = length (first ∷ others) in
      let place : n - (n - 1) ≡ 1 = omega arith in
      nth-cells_ending s n n 0 (n - 1) (omega (arith, holds.size_is, holds.large)) (omega arith) (omega arith)
      ∙ ap (λ p. get_or s p (0, false)) place
      ∙ ap₂ (λ x (b : Bool). (x, b)) (holds.code_is 1 (omega arith) (omega arith) ∙ says 0 lt) (holds.mark_is 1 (omega arith) (omega arith))
  cell_is first others few says (suc k) lt =
      let n : ℕ = length (first ∷ others) in
      let place : n - (n - 1 - suc k) ≡ k + 2 = omega arith in
      let column : k + 2 - 1 ≡ suc k = omega arith in
      nth-cells_ending s n n (suc k) (n - 1 - suc k) (omega (arith, holds.size_is, holds.large)) (omega arith) (omega arith)
      ∙ ap (λ p. get_or s p (0, false)) place
      ∙ ap₂ (λ x (b : Bool). (x, b)) (holds.code_is (k + 2) (omega arith) (omega arith) ∙ ap (slice_index card) column ∙ says (suc k) lt)
      (holds.mark_is (k + 2) (omega arith) (omega arith) ∙ no_stop (k + 2) (omega arith) (omega arith))
      ∙ sym (bare_is others k (omega arith))

  pub front_cells : (first : Cell) (others : List Cell) → length (first ∷ others) ≤ 39 →
      ((k : ℕ) → k < length (first ∷ others) → slice_index card k ≡ get_or (map (λ c. c.code) (first ∷ others)) k 0) →
      cells_ending s (length (first ∷ others)) (length (first ∷ others)) ≡ (first.code, true) ∷ map bare others
  front_cells first others few says =
      let n : ℕ = length (first ∷ others) in
      let inside : n < length s = omega (arith, holds.size_is, holds.large) in
      let left : length (cells_ending s n n) ≡ n = length-cells_ending s n n inside (omega arith) in
      let right : length ((first.code, true) ∷ map bare others) ≡ n = omega (arith, length-map others bare) in
      ext_get_or (0, false) (cells_ending s n n) ((first.code, true) ∷ map bare others) (left ∙ sym right) (λ k lt. cell_is first others few says k (omega (arith, left)))

-- ---- positions

pub position_is : (cells : List Cell) (p k : ℕ) (d : Cell) → Runs p cells → k < length cells → (get_or cells k d).position ≡ p + k
position_is [] p k d runs lt = absurd (omega arith)
position_is (c ∷ cells) p zero d runs lt = omega (arith, runs.0)
position_is (c ∷ cells) p (suc k) d runs lt = omega (arith, position_is cells (p + 1) k d runs.1 (omega arith))

pub last_is : (stretch : List Cell) (p : ℕ) → Runs p stretch → 1 ≤ length stretch → last_position stretch ≡ p + length stretch - 1
unfolding last_position
last_is stretch p runs some = omega (arith, position_is stretch p (length stretch - 1) (record { position = 0; code = 0; marked = false }) runs (omega arith))

abbrev AllBetween : ℕ → List ℕ → Type 0
AllBetween size [] = Unit {0}
AllBetween size (q ∷ marks) = ((80 < q) × (q < size)) × AllBetween size marks

marks_between : (size : ℕ) (cells : List Cell) (first : ℕ) → Runs first cells → 80 < first → first + length cells ≤ size → AllBetween size (marks_of cells)
unfolding marks_of
marks_between size [] first runs low high = tt
marks_between size (c ∷ cells) first runs low high =
    let rest : AllBetween size (marks_of cells) = marks_between size cells (first + 1) runs.1 (omega arith) (omega arith) in
    elim c.marked as (λ b. AllBetween size (map (λ d. d.position) (cond b (c ∷ filter (λ d. d.marked) cells) (filter (λ d. d.marked) cells)))) [
      | true ↦ ((omega (arith, runs.0), omega (arith, runs.0)), rest)
      | false ↦ rest
    ]

marking_high : (size : ℕ) (marks : List ℕ) → AllBetween size marks → AreHigh size (marking_orders marks)
marking_high size [] all = tt
marking_high size (p ∷ []) all = ((all.0, all.0), tt)
marking_high size (p ∷ q ∷ marks) all = ((all.0, all.1.0), marking_high size marks all.1.1)

high_append : (size : ℕ) (xs ys : List Order) → AreHigh size xs → AreHigh size ys → AreHigh size (xs ++ ys)
high_append size [] ys hx hy = hy
high_append size (o ∷ xs) ys hx hy = (hx.0, high_append size xs ys hx.1 hy)

pub orders_high : (size : ℕ) (first : Cell) (others : List Cell) → Runs first.position (first ∷ others) → 80 < first.position → first.position + length (first ∷ others) ≤ size →
    AreHigh size (orders_of (first ∷ others))
orders_high size first others runs low high =
    let cleared : AreHigh size (clearing_orders (first ∷ others)) =
    elim first.marked as (λ b. AreHigh size (if b then [] else Some (false, (first.position, first.position)) ∷ [])) [
      | true ↦ tt
      | false ↦ (((low, omega arith), (low, omega arith)), tt)
    ] in
    high_append size (clearing_orders (first ∷ others)) (marking_orders (marks_of others)) cleared
    (marking_high size (marks_of others) (marks_between size others (first.position + 1) runs.1 (omega arith) (omega arith)))

-- ---- a place

module _ (deck : List Card) (switches : Switches) (profile : Profile) (size : ℕ) (small : size ≤ 16000) (card : List ℕ) (taken : ℕ) where
  -- the instruction of a place
  place_step : (m : State) (i : ℕ) (rest : Storage) → At deck switches profile size m i taken loading_marks card rest → 1 ≤ i → i ≤ 72 →
      is_stop loading_marks i ≡ true → least_stop loading_marks (i + 1) 8 ≡ Some (i + 7) → (o : Order) → IsHigh size o → take 7 (drop (i - 1) card) ≡ words_of o →
      At deck switches profile size (step m) (i + 7) taken loading_marks card (carried o rest)
  place_step m i rest here low high stopped next None is_high says =
      by_nothing deck switches profile size small m i taken loading_marks card rest here low high 7 (omega arith)
      (ends_at m.works.storage size loading_marks card rest here.storage i 7 low high (omega arith) stopped next) refl says
  place_step m i rest here low high stopped next (Some (true, (x, y))) is_high says =
      by_set deck switches profile size small m i taken loading_marks card rest here low high 7 (omega arith)
      (ends_at m.works.storage size loading_marks card rest here.storage i 7 low high (omega arith) stopped next)
      x y is_high.0.1 is_high.1.1 refl says loading_marks (carried (Some (true, (x, y))) rest)
      (holds_high (with_mark m.works.storage x true) size loading_marks card (with_mark rest x true)
      (holds_high m.works.storage size loading_marks card rest here.storage true x is_high.0.0 is_high.0.1) true y is_high.1.0 is_high.1.1)
  place_step m i rest here low high stopped next (Some (false, (x, y))) is_high says =
      by_clear deck switches profile size small m i taken loading_marks card rest here low high 7 (omega arith)
      (ends_at m.works.storage size loading_marks card rest here.storage i 7 low high (omega arith) stopped next)
      x y is_high.0.1 is_high.1.1 refl says loading_marks (carried (Some (false, (x, y))) rest)
      (holds_high (with_mark m.works.storage x false) size loading_marks card (with_mark rest x false)
      (holds_high m.works.storage size loading_marks card rest here.storage false x is_high.0.0 is_high.0.1) false y is_high.1.0 is_high.1.1)

-- ---- the five

module _ (deck : List Card) (switches : Switches) (profile : Profile) (size : ℕ) (small : size ≤ 16000) (first : Cell) (others : List Cell) (lawful : is_lawful (first ∷ others) ≡ true)
    (low : 80 < first.position) (high : first.position + length (first ∷ others) ≤ size) (m : State) (taken : ℕ) (rest : Storage)
    (here : At deck switches profile size m 40 taken loading_marks (load_card (first ∷ others)).0 rest)
    (next_card : Card) (there : slice_get deck taken ≡ Some next_card) (long : length next_card.0 ≡ 80) where
  abbrev stretch : List Cell
  stretch = first ∷ others

  abbrev card : List ℕ
  card = (load_card stretch).0

  contiguous : Runs first.position stretch
  contiguous = runs first others (lawful_contiguous stretch lawful)

  few : length stretch ≤ 39
  few = (lawful_length stretch lawful)

  places : Three size (orders_of stretch)
  places = three_of size (orders_of stretch) (few_orders stretch (lawful_marks stretch lawful)) (orders_high size first others contiguous low high)

  abbrev laid : Storage
  laid = put_cells rest first.position ((first.code, true) ∷ map bare others)

  moved : At deck switches profile size (step m) 47 taken loading_marks card laid
  moved =
      let s : Storage = m.works.storage in
      let n : ℕ = length stretch in
      let holds : Holds s size loading_marks card rest = here.storage in
      let last : last_position stretch ≡ first.position + n - 1 = last_is stretch first.position contiguous (omega arith) in
      let from : last_position stretch + 1 - n ≡ first.position = omega (arith, last) in
      let cells : cells_ending s n n ≡ (first.code, true) ∷ map bare others =
      front_cells s size card rest holds first others few (says_code size stretch few places) in
      let put : put_cells s (last_position stretch + 1 - n) (cells_ending s n n) ≡ put_cells s first.position ((first.code, true) ∷ map bare others) =
      ap₂ (put_cells s) from cells in
      let count : length ((first.code, true) ∷ map bare others) ≡ n = omega (arith, length-map others bare) in
      by_load deck switches profile size small m 40 taken loading_marks card rest here (omega arith) (omega arith) 7 (omega arith)
      (ends_at s size loading_marks card rest holds 40 7 (omega arith) (omega arith) (omega arith) refl refl)
      n (last_position stretch) (omega (arith, few, holds.large)) (omega (arith, last)) refl (says_move size stretch few places)
      (front_length s size card rest holds n (omega arith) (omega (arith, few))) (omega (arith, last, few))
      loading_marks laid
      (subst (λ t. Holds t size loading_marks card laid) (sym put)
      (holds_cells s size loading_marks card rest holds first.position ((first.code, true) ∷ map bare others) low (omega (arith, count))))

  first_placed : At deck switches profile size (step (step m)) 54 taken loading_marks card (carried places.first laid)
  first_placed = place_step deck switches profile size small card taken (step m) 47 laid moved (omega arith) (omega arith) refl refl places.first places.highs.0.0 (says_first size stretch few places)

  second_placed : At deck switches profile size (step (step (step m))) 61 taken loading_marks card (carried places.second (carried places.first laid))
  second_placed = place_step deck switches profile size small card taken (step (step m)) 54 _ first_placed (omega arith) (omega arith) refl refl places.second places.highs.0.1 (says_second size stretch few places)

  third_placed : At deck switches profile size (step (step (step (step m)))) 68 taken loading_marks card (carried places.third (carried places.second (carried places.first laid)))
  third_placed = place_step deck switches profile size small card taken (step (step (step m))) 61 _ second_placed (omega arith) (omega arith) refl refl places.third places.highs.1 (says_third size stretch few places)

  filled : carried places.third (carried places.second (carried places.first laid)) ≡ filled_with rest stretch
  filled = sym (places.done laid) ∙ orders_lay rest first others first.position contiguous (omega (arith, here.storage.rest_size))

  -- a load card fills the positions of its stretch, and no others
  pub carries : At deck switches profile size (after m 5) 40 (taken + 1) loading_marks next_card.0 (filled_with rest stretch)
  unfolding after
  carries =
      subst (λ t. At deck switches profile size (step (step (step (step (step m))))) 40 (taken + 1) loading_marks next_card.0 t) filled
      (by_reading deck switches profile size small (step (step (step (step m)))) 68 taken loading_marks card _ third_placed (omega arith) (omega arith) 4 (omega arith)
      (ends_at (step (step (step (step m)))).works.storage size loading_marks card _ third_placed.storage 68 4 (omega arith) (omega arith) (omega arith) refl refl)
      refl (says_reading size stretch few places) next_card there long)
