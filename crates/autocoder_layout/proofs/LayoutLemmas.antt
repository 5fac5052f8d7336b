-- for the law `layout_is_unique` and for `Layout::judge_cards`: a source has exactly one layout
use Rattle.std.proofs.Common.{◌≡◌, ℕ, zero, suc, ◌+◌, ◌<◌, ◌≤◌, List, [], ◌∷◌, ◌++◌, length, take, drop, get_or, refl, sym, ◌∙◌, ap, arith, add-one, length-append, append_assoc, zero-add}
use Rattle.std.proofs.lemmas.List.{take_more, take_all, take_at, map-append, get_or_at, append-nil, take-take, get_or-take}
use Rattle.autocoder_layout.specs.declared.slots.Slot.{Slot}
use Rattle.autocoder_layout.specs.declared.cells.Cell.{Cell}
use Rattle.autocoder_layout.specs.Source.{Line, silent}
use Rattle.autocoder_layout.specs.Slots.{origin, slot_of, slots_from}
use Rattle.autocoder_layout.specs.Literals.{Characters, literals_of}
use Rattle.autocoder_layout.specs.Cells.{cells_of}
use Rattle.autocoder_layout.specs.Judging.{fault_of}
use Rattle.autocoder_layout.specs.Layout.{Laid, IsLayout, Satisfies, slots_of, fills_of, nothing, laid_from, laid_by, layout_of}

-- ---- no other

same_laid : (a b : Laid) → a.slot ≡ b.slot → a.fills ≡ b.fills → a.fault ≡ b.fault → a ≡ b
same_laid a b e f g =
    ap (λ s. record { slot = s; fills = a.fills; fault = a.fault }) e
    ∙ ap (λ s. record { slot = b.slot; fills = s; fault = a.fault }) f
    ∙ ap (λ s. record { slot = b.slot; fills = b.fills; fault = s }) g

slots_more : (layout : List Laid) (k : ℕ) → k < length layout → slots_of (take (k + 1) layout) ≡ slots_of (take k layout) ++ (get_or layout k nothing).slot ∷ []
slots_more layout k h = ap slots_of (take_more layout k nothing h) ∙ map-append (λ (l : Laid). l.slot) (take k layout) (get_or layout k nothing ∷ [])

pub slots-drop : (k : ℕ) (layout : List Laid) → slots_of (drop k layout) ≡ drop k (slots_of layout)
slots-drop zero layout = refl
slots-drop (suc k) [] = refl
slots-drop (suc k) (laid ∷ layout) = slots-drop k layout

slots-take : (k : ℕ) (layout : List Laid) → slots_of (take k layout) ≡ take k (slots_of layout)
slots-take zero layout = refl
slots-take (suc k) [] = refl
slots-take (suc k) (laid ∷ layout) = ap (λ s. laid.slot ∷ s) (slots-take k layout)

module _ (size : ℕ) (lines : List Line) (one two : List Laid) (is_one : IsLayout size lines one) (is_two : IsLayout size lines two) where
  same_slots : (k : ℕ) → k ≤ length lines → slots_of (take k one) ≡ slots_of (take k two)
  same_slots zero h = refl
  same_slots (suc k) h =
      let below : k < length lines = omega arith in
      let in_one : k < length one = omega (arith, is_one.one_each) in
      let in_two : k < length two = omega (arith, is_two.one_each) in
      let so_far : slots_of (take k one) ≡ slots_of (take k two) = same_slots k (omega arith) in
      let here : (get_or one k nothing).slot ≡ (get_or two k nothing).slot =
      (is_one.satisfied k below).slot ∙ ap (λ s. slot_of size s (get_or lines k silent)) so_far ∙ sym ((is_two.satisfied k below).slot) in
      ap (λ n. slots_of (take n one)) (sym (add-one k))
      ∙ slots_more one k in_one
      ∙ ap (λ s. s ++ (get_or one k nothing).slot ∷ []) so_far
      ∙ ap (λ s. slots_of (take k two) ++ s ∷ []) here
      ∙ sym (slots_more two k in_two)
      ∙ ap (λ n. slots_of (take n two)) (add-one k)

  same_names : slots_of one ≡ slots_of two
  same_names =
      ap slots_of (sym (take_all (length lines) one (omega (arith, is_one.one_each))))
      ∙ same_slots (length lines) (omega arith)
      ∙ ap slots_of (take_all (length lines) two (omega (arith, is_two.one_each)))

  same_after : (k : ℕ) → slots_of (drop k one) ≡ slots_of (drop k two)
  same_after k = slots-drop k one ∙ ap (drop k) same_names ∙ sym (slots-drop k two)

  same_so_far : (k : ℕ) → k ≤ length lines → take k one ≡ take k two
  same_so_far zero h = refl
  same_so_far (suc k) h =
      let below : k < length lines = omega arith in
      let in_one : k < length one = omega (arith, is_one.one_each) in
      let in_two : k < length two = omega (arith, is_two.one_each) in
      let so_far : take k one ≡ take k two = same_so_far k (omega arith) in
      let a : Laid = get_or one k nothing in
      let b : Laid = get_or two k nothing in
      let line : Line = get_or lines k silent in
      let slots : a.slot ≡ b.slot =
      (is_one.satisfied k below).slot ∙ ap (λ s. slot_of size (slots_of s) line) so_far ∙ sym ((is_two.satisfied k below).slot) in
      let fills : a.fills ≡ b.fills =
      (is_one.satisfied k below).fills
      ∙ ap (λ n. cells_of size n (literals_of lines n) (slots_of (drop (k + 1) one)) a.slot line) same_names
      ∙ ap (λ l. cells_of size (slots_of two) (literals_of lines (slots_of two)) l a.slot line) (same_after (k + 1))
      ∙ ap (λ s. cells_of size (slots_of two) (literals_of lines (slots_of two)) (slots_of (drop (k + 1) two)) s line) slots
      ∙ sym ((is_two.satisfied k below).fills) in
      let fault : a.fault ≡ b.fault =
      (is_one.satisfied k below).fault
      ∙ ap (λ n. fault_of size n (fills_of (take k one)) a.slot a.fills line) same_names
      ∙ ap (λ s. fault_of size (slots_of two) (fills_of s) a.slot a.fills line) so_far
      ∙ ap (λ s. fault_of size (slots_of two) (fills_of (take k two)) s a.fills line) slots
      ∙ ap (λ s. fault_of size (slots_of two) (fills_of (take k two)) b.slot s line) fills
      ∙ sym ((is_two.satisfied k below).fault) in
      ap (λ n. take n one) (sym (add-one k))
      ∙ take_more one k nothing in_one
      ∙ ap (λ s. s ++ a ∷ []) so_far
      ∙ ap (λ s. take k two ++ s ∷ []) (same_laid a b slots fills fault)
      ∙ sym (take_more two k nothing in_two)
      ∙ ap (λ n. take n two) (add-one k)

  pub no_other : one ≡ two
  no_other =
      sym (take_all (length lines) one (omega (arith, is_one.one_each)))
      ∙ same_so_far (length lines) (omega arith)
      ∙ take_all (length lines) two (omega (arith, is_two.one_each))

-- ---- there is one

module _ (size : ℕ) where
  pub length-slots_from : (earlier : List Slot) (lines : List Line) → length (slots_from size earlier lines) ≡ length earlier + length lines
  unfolding slots_from
  length-slots_from earlier [] = omega arith
  length-slots_from earlier (line ∷ lines) =
      omega (arith, length-slots_from (earlier ++ slot_of size earlier line ∷ []) lines, length-append earlier (slot_of size earlier line ∷ []))

  -- the slots that were there stay
  begins : (earlier : List Slot) (lines : List Line) → take (length earlier) (slots_from size earlier lines) ≡ earlier
  unfolding slots_from
  begins earlier [] = take_all (length earlier) earlier (omega arith)
  begins earlier (line ∷ lines) =
      let next = earlier ++ slot_of size earlier line ∷ [] in
      let e : length next ≡ length earlier + 1 = omega (arith, length-append earlier (slot_of size earlier line ∷ [])) in
      sym (take-take (length earlier) (length next) (slots_from size next lines) (omega arith))
      ∙ ap (take (length earlier)) (begins next lines)
      ∙ take_at earlier (slot_of size earlier line ∷ []) (length earlier) refl

  slots_from-first : (earlier : List Slot) (line : Line) (lines : List Line) → get_or (slots_from size earlier (line ∷ lines)) (length earlier) origin ≡ slot_of size earlier line
  unfolding slots_from
  slots_from-first earlier line lines =
      let next = earlier ++ slot_of size earlier line ∷ [] in
      let e : length next ≡ length earlier + 1 = omega (arith, length-append earlier (slot_of size earlier line ∷ [])) in
      sym (get_or-take (length next) (slots_from size next lines) (length earlier) origin (omega arith))
      ∙ ap (λ s. get_or s (length earlier) origin) (begins next lines)
      ∙ get_or_at earlier (slot_of size earlier line) [] origin (length earlier) refl

  slots_from-at : (lines : List Line) (earlier : List Slot) (k n : ℕ) → k < length lines → n ≡ length earlier + k → get_or (slots_from size earlier lines) n origin ≡ slot_of size (take n (slots_from size earlier lines)) (get_or lines k silent)
  unfolding slots_from
  slots_from-at [] earlier k n h e = absurd (omega arith)
  slots_from-at (line ∷ lines) earlier zero n h e =
      let here : n ≡ length earlier = omega arith in
      ap (λ i. get_or (slots_from size earlier (line ∷ lines)) i origin) here
      ∙ slots_from-first earlier line lines
      ∙ ap (λ s. slot_of size s line) (sym (begins earlier (line ∷ lines)))
      ∙ ap (λ i. slot_of size (take i (slots_from size earlier (line ∷ lines))) line) (sym here)
  slots_from-at (line ∷ lines) earlier (suc k) n h e =
      slots_from-at lines (earlier ++ slot_of size earlier line ∷ []) k n (omega arith)
      (omega (arith, length-append earlier (slot_of size earlier line ∷ [])))

drop_rest : (k : ℕ) (slot : Slot) (slots : List Slot) → drop (k + 1) slots ≡ drop (suc k + 1) (slot ∷ slots)
drop_rest k slot slots = let e : suc (k + 1) ≡ suc k + 1 = omega arith in ap (λ n. drop n (slot ∷ slots)) e

module _ (size : ℕ) (names : List Slot) (literals : List Characters) where
  length-laid_from : (filled : List Cell) (lines : List Line) (slots : List Slot) → length slots ≡ length lines → length (laid_from size names literals filled slots lines) ≡ length lines
  unfolding laid_from
  length-laid_from filled [] slots e = refl
  length-laid_from filled (line ∷ lines) [] e = absurd (omega arith)
  length-laid_from filled (line ∷ lines) (slot ∷ slots) e = ap suc (length-laid_from (filled ++ cells_of size names literals slots slot line) lines slots (omega arith))

  slots_of-laid_from : (filled : List Cell) (lines : List Line) (slots : List Slot) → length slots ≡ length lines → slots_of (laid_from size names literals filled slots lines) ≡ slots
  unfolding laid_from
  slots_of-laid_from filled [] [] e = refl
  slots_of-laid_from filled [] (slot ∷ slots) e = absurd (omega arith)
  slots_of-laid_from filled (line ∷ lines) [] e = absurd (omega arith)
  slots_of-laid_from filled (line ∷ lines) (slot ∷ slots) e = ap (λ s. slot ∷ s) (slots_of-laid_from (filled ++ cells_of size names literals slots slot line) lines slots (omega arith))

  laid_from-at : (filled : List Cell) (lines : List Line) (slots : List Slot) (k : ℕ) → length slots ≡ length lines → k < length lines →
      get_or (laid_from size names literals filled slots lines) k nothing
      ≡ laid_by size names literals (filled ++ fills_of (take k (laid_from size names literals filled slots lines))) (drop (k + 1) slots) (get_or slots k origin) (get_or lines k silent)
  unfolding laid_from
  laid_from-at filled [] slots k e h = absurd (omega arith)
  laid_from-at filled (line ∷ lines) [] k e h = absurd (omega arith)
  laid_from-at filled (line ∷ lines) (slot ∷ slots) zero e h = ap (λ f. laid_by size names literals f slots slot line) (sym (append-nil filled))
  laid_from-at filled (line ∷ lines) (slot ∷ slots) (suc k) e h =
      let cells : List Cell = cells_of size names literals slots slot line in
      laid_from-at (filled ++ cells) lines slots k (omega arith) (omega arith)
      ∙ ap (λ f. laid_by size names literals f (drop (k + 1) slots) (get_or slots k origin) (get_or lines k silent)) (append_assoc filled cells (fills_of (take k (laid_from size names literals (filled ++ cells) slots lines))))
      ∙ ap (λ l. laid_by size names literals (filled ++ (cells ++ fills_of (take k (laid_from size names literals (filled ++ cells) slots lines)))) l (get_or slots k origin) (get_or lines k silent)) (drop_rest k slot slots)

-- what is made by names satisfies the rules with these names
by_rules : (size : ℕ) (lines : List Line) (layout earlier later : List Laid) (line : Line) (laid : Laid) (names rest : List Slot) (slot : Slot) →
    laid ≡ laid_by size names (literals_of lines names) (fills_of earlier) rest slot line → slots_of layout ≡ names → slots_of later ≡ rest → slot ≡ slot_of size (slots_of earlier) line →
    Satisfies size (literals_of lines (slots_of layout)) layout earlier later line laid
by_rules size lines layout earlier later line laid names rest slot e n b s =
    let F : List Cell = fills_of earlier in
    let N : List Slot = slots_of layout in
    let slot_is : laid.slot ≡ slot = ap (λ (l : Laid). l.slot) e in
    let fills_is : laid.fills ≡ cells_of size N (literals_of lines N) (slots_of later) laid.slot line =
    ap (λ (l : Laid). l.fills) e
    ∙ ap (λ m. cells_of size m (literals_of lines m) rest slot line) (sym n)
    ∙ ap (λ x. cells_of size N (literals_of lines N) x slot line) (sym b)
    ∙ ap (λ x. cells_of size N (literals_of lines N) (slots_of later) x line) (sym slot_is) in
    record {
      slot = slot_is ∙ s;
      fills = fills_is;
      fault =
          ap (λ (l : Laid). l.fault) e
          ∙ ap (λ x. fault_of size names F slot x line) (sym (ap (λ (l : Laid). l.fills) e))
          ∙ ap (λ m. fault_of size m F slot laid.fills line) (sym n)
          ∙ ap (λ x. fault_of size N F x laid.fills line) (sym slot_is);
    }

module _ (size : ℕ) (lines : List Line) where
  pub one_slot_each : length (slots_from size [] lines) ≡ length lines
  one_slot_each = length-slots_from size [] lines ∙ zero-add (length lines)

  pub length-layout_of : length (layout_of size lines) ≡ length lines
  unfolding layout_of
  length-layout_of = length-laid_from size (slots_from size [] lines) (literals_of lines (slots_from size [] lines)) [] lines (slots_from size [] lines) one_slot_each

  pub slots_of-layout_of : slots_of (layout_of size lines) ≡ slots_from size [] lines
  unfolding layout_of
  slots_of-layout_of = slots_of-laid_from size (slots_from size [] lines) (literals_of lines (slots_from size [] lines)) [] lines (slots_from size [] lines) one_slot_each

  pub layout_of-at : (k : ℕ) → k < length lines →
      get_or (layout_of size lines) k nothing
      ≡ laid_by size (slots_from size [] lines) (literals_of lines (slots_from size [] lines)) (fills_of (take k (layout_of size lines))) (drop (k + 1) (slots_from size [] lines)) (get_or (slots_from size [] lines) k origin) (get_or lines k silent)
  unfolding layout_of
  layout_of-at k h = laid_from-at size (slots_from size [] lines) (literals_of lines (slots_from size [] lines)) [] lines (slots_from size [] lines) k one_slot_each h

  slots_of-take : (k : ℕ) → slots_of (take k (layout_of size lines)) ≡ take k (slots_from size [] lines)
  slots_of-take k = slots-take k (layout_of size lines) ∙ ap (take k) slots_of-layout_of

  slots_of-after : (k : ℕ) → slots_of (drop k (layout_of size lines)) ≡ drop k (slots_from size [] lines)
  slots_of-after k = slots-drop k (layout_of size lines) ∙ ap (drop k) slots_of-layout_of

  pub there_is_one : IsLayout size lines (layout_of size lines)
  there_is_one = record {
    one_each = length-layout_of;
    satisfied = λ k h.
        by_rules size lines (layout_of size lines) (take k (layout_of size lines)) (drop (k + 1) (layout_of size lines)) (get_or lines k silent) (get_or (layout_of size lines) k nothing)
        (slots_from size [] lines) (drop (k + 1) (slots_from size [] lines)) (get_or (slots_from size [] lines) k origin)
        (layout_of-at k h)
        slots_of-layout_of
        (slots_of-after (k + 1))
        (slots_from-at size lines [] k k h (omega arith) ∙ ap (λ s. slot_of size s (get_or lines k silent)) (sym (slots_of-take k)));
  }
