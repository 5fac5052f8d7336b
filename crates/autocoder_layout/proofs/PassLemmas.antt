-- for `Layout::judge` and `Layout::judge_cards` of `passes`: one more card of the second pass
use Rattle.std.proofs.Common.{◌≡◌, ℕ, ◌+◌, ◌-◌, ◌<◌, ◌≤◌, Bool, true, false, ◌||◌, List, [], ◌∷◌, ◌++◌, length, take, drop, get_or, Option, Some, None, refl, sym, ◌∙◌, ap, arith, append_assoc, length-append, inl, inr, nat_le}
use Rattle.std.specs.Bool.{if◌then◌else◌}
use Rattle.std.proofs.lemmas.List.{at_drop_more, at_drop_all, take_more, append-nil, get_or_at}
use Rattle.autocoder_layout.specs.Source.{Line, silent}
use Rattle.autocoder_layout.specs.Slots.{origin, slots_from}
use Rattle.autocoder_layout.specs.Literals.{Characters, literals_of}
use Rattle.autocoder_layout.specs.Cells.{cells_of}
use Rattle.autocoder_layout.specs.Judging.{fault_by, fault_of, fault_or, names_unknown, names_outside, passes_outside, fills_outside, fills_reserved, is_beyond, is_overlapping, IsCut}
use Rattle.autocoder_layout.specs.Layout.{Laid, fills_of, nothing, laid_by, layout_of}
use Rattle.autocoder_layout.specs.declared.slots.Slot.{Slot}
use Rattle.autocoder_layout.specs.declared.cells.Cell.{Cell}
use Rattle.autocoder_layout.specs.declared.faults.SourceFault.{SourceFault}
use Rattle.autocoder_layout.specs.declared.faults.SourceFault.TheVariants.{UnknownName, Outside, Reserved, Filled}
use Rattle.autocoder_layout.proofs.LayoutLemmas.{layout_of-at, length-layout_of}
use Rattle.autocoder_layout.specs.declared.card_faults.CardFault.{CardFault}
use Rattle.autocoder_layout.specs.Image.{cell_at, image_of}
use Rattle.autocoder_layout.specs.Tables.{IsTableOf, is_taken, filled_table, cells_in}
use Rattle.autocoder_layout.specs.CardFaults.{fault_then, faults_from, last_fault, faults_to_end, faults_of}
use Rattle.autocoder_layout.proofs.TableLemmas.{is_taken_is, table_cut, cells_in_is}
use Rattle.autocoder_statements.proofs.Tests.{neither}

-- ---- faults

-- a table gives the same fault as what is filled
fault_by_table : (size : ℕ) (names : List Slot) (table : List (Option Cell)) (filled : List Cell) (slot : Slot) (cells : List Cell) (line : Line) → IsTableOf size table filled →
    fault_by size names (is_taken table cells) slot cells line ≡ fault_of size names filled slot cells line
unfolding fault_of fault_by is_beyond
fault_by_table size names table filled slot cells line held =
    let beyond : Bool = names_outside size names line || (passes_outside size slot line || fills_outside size cells) in
    let choose : Bool → Bool → Option SourceFault = λ b o. fault_or slot.fault (if names_unknown size names line then Some UnknownName else (if b then Some Outside else (if fills_reserved cells then Some Reserved else (if o then Some Filled else None)))) in
    (elim beyond as (λ b. beyond ≡ b → choose b (is_taken table cells) ≡ choose b (is_overlapping filled cells)) [
      | true ↦ λ e. refl
      | false ↦ λ e.
          ap (choose false) (is_taken_is size table filled cells held ((neither (passes_outside size slot line) (fills_outside size cells) ((neither (names_outside size names line) (passes_outside size slot line || fills_outside size cells) e).1)).1))
    ]) refl

-- ---- a card of which only the beginning is built

pub outside_more : (size : ℕ) (built rest : List Cell) → fills_outside size built ≡ true → fills_outside size (built ++ rest) ≡ true
outside_more size [] rest e = absurd (cc)
outside_more size (c ∷ built) rest e =
    (elim (nat_le size c.position) as (λ b. (b || fills_outside size built) ≡ true → (b || fills_outside size (built ++ rest)) ≡ true) [
      | true ↦ λ h. refl
      | false ↦ λ h. outside_more size built rest h
    ]) e

two_or_true : (a b : Bool) → (a || (b || true)) ≡ true
two_or_true true b = refl
two_or_true false true = refl
two_or_true false false = refl

-- a card that fills a position outside has no other fault of its positions
fault_outside : (size : ℕ) (names : List Slot) (overlaps : Bool) (slot : Slot) (cells : List Cell) (line : Line) → fills_outside size cells ≡ true →
    fault_by size names overlaps slot cells line ≡ fault_or slot.fault (if names_unknown size names line then Some UnknownName else Some Outside)
unfolding fault_by is_beyond
fault_outside size names overlaps slot cells line e =
    let choose : Bool → Option SourceFault = λ b. fault_or slot.fault (if names_unknown size names line then Some UnknownName else (if b then Some Outside else (if fills_reserved cells then Some Reserved else (if overlaps then Some Filled else None)))) in
    ap (λ b. choose (names_outside size names line || (passes_outside size slot line || b))) e
    ∙ ap choose (two_or_true (names_outside size names line) (passes_outside size slot line))

fault_by_cut : (size : ℕ) (names : List Slot) (table : List (Option Cell)) (filled : List Cell) (slot : Slot) (cells built : List Cell) (line : Line) → IsTableOf size table filled → IsCut size cells built →
    fault_by size names (is_taken table built) slot built line ≡ fault_of size names filled slot cells line
unfolding fault_of
fault_by_cut size names table filled slot cells built line held cut =
    elim cut.enough [
      | inl none ↦
          let whole : built ≡ cells = sym (append-nil built) ∙ ap (λ r. built ++ r) (sym none) ∙ sym cut.all in
          fault_by_table size names table filled slot built line held ∙ ap (λ x. fault_of size names filled slot x line) whole
      | inr outside ↦
          let beyond : fills_outside size cells ≡ true = ap (fills_outside size) cut.all ∙ outside_more size built cut.rest outside in
          fault_outside size names (is_taken table built) slot built line outside
          ∙ sym (fault_outside size names (is_overlapping filled cells) slot cells line beyond)
    ]

fault_then-append : (card : ℕ) (fault : Option SourceFault) (rest : List CardFault) → fault_then card fault [] ++ rest ≡ fault_then card fault rest
fault_then-append card None rest = refl
fault_then-append card (Some fault) rest = refl

fills-append : (one two : List Laid) → fills_of (one ++ two) ≡ fills_of one ++ fills_of two
fills-append [] two = refl
fills-append (laid ∷ one) two = ap (λ f. laid.fills ++ f) (fills-append one two) ∙ sym (append_assoc laid.fills (fills_of one) (fills_of two))

faults_from-at : (layout : List Laid) (i : ℕ) → i < length layout → faults_from (i + 1) (drop i layout) ≡ fault_then (i + 1) (get_or layout i nothing).fault (faults_from (i + 1 + 1) (drop (i + 1) layout))
unfolding faults_from
faults_from-at layout i h = at_drop_more (faults_from (i + 1)) layout i nothing h

pub faults_from-past : (layout : List Laid) (i : ℕ) → length layout ≤ i → faults_from (i + 1) (drop i layout) ≡ []
unfolding faults_from
faults_from-past layout i h = at_drop_all (faults_from (i + 1)) layout i h

last_fault-push : (layout : List Laid) (laid : Laid) → last_fault (layout ++ laid ∷ []) ≡ laid.fault
unfolding last_fault
last_fault-push layout laid =
    let here : length layout ≡ length (layout ++ laid ∷ []) - 1 = omega (arith, length-append layout (laid ∷ [])) in
    ap (λ (l : Laid). l.fault) (get_or_at layout laid [] nothing (length (layout ++ laid ∷ []) - 1) here)

-- ---- one card more

module _ (size : ℕ) (lines : List Line) (slots : List Slot) (is_slots : slots ≡ slots_from size [] lines) (literals : List Characters) (is_literals : literals ≡ literals_of lines slots)
    (table : List (Option Cell)) (i : ℕ) (line : Line) (slot : Slot) (later : List Slot) (built : List Cell) (fault : Option SourceFault)
    (h : i < length lines) (line_is : line ≡ get_or lines i silent) (slot_is : slot ≡ get_or slots i origin) (later_is : later ≡ drop (i + 1) slots)
    (cut : IsCut size (cells_of size slots literals later slot line) built) (fault_is : fault ≡ fault_by size slots (is_taken table built) slot built line)
    (held : IsTableOf size table (fills_of (take i (layout_of size lines)))) where
  abbrev whole : List Laid
  whole = layout_of size lines

  abbrev cells : List Cell
  cells = cells_of size slots literals later slot line

  within : i < length whole
  within = omega (arith, length-layout_of size lines)

  laid_at : get_or whole i nothing ≡ laid_by size slots literals (fills_of (take i whole)) later slot line
  laid_at =
      layout_of-at size lines i h
      ∙ ap (λ s. laid_by size s (literals_of lines s) (fills_of (take i whole)) (drop (i + 1) s) (get_or s i origin) (get_or lines i silent)) (sym is_slots)
      ∙ ap (λ x. laid_by size slots x (fills_of (take i whole)) (drop (i + 1) slots) (get_or slots i origin) (get_or lines i silent)) (sym is_literals)
      ∙ ap (λ x. laid_by size slots literals (fills_of (take i whole)) x (get_or slots i origin) (get_or lines i silent)) (sym later_is)
      ∙ ap (λ x. laid_by size slots literals (fills_of (take i whole)) later x (get_or lines i silent)) (sym slot_is)
      ∙ ap (λ x. laid_by size slots literals (fills_of (take i whole)) later slot x) (sym line_is)

  fills_at : (get_or whole i nothing).fills ≡ cells
  fills_at = ap (λ (l : Laid). l.fills) laid_at

  fault_at : fault ≡ (get_or whole i nothing).fault
  fault_at =
      fault_is
      ∙ fault_by_cut size slots table (fills_of (take i whole)) slot cells built line held cut
      ∙ sym (ap (λ (l : Laid). l.fault) laid_at)

  more : fills_of (take (i + 1) whole) ≡ fills_of (take i whole) ++ cells
  more =
      ap fills_of (take_more whole i nothing within)
      ∙ fills-append (take i whole) (get_or whole i nothing ∷ [])
      ∙ ap (λ f. fills_of (take i whole) ++ f) (append-nil (get_or whole i nothing).fills ∙ fills_at)

  pub table_step : length table ≡ size → IsTableOf size (filled_table table built) (fills_of (take (i + 1) (layout_of size lines)))
  table_step long p below = table_cut size table (fills_of (take i whole)) cells built held long cut p below ∙ ap (λ f. cell_at f p) (sym more)

  pub faults_step : (old new : List CardFault) → new ≡ old ++ fault_then (i + 1) fault [] →
      new ++ faults_from (i + 1 + 1) (drop (i + 1) (layout_of size lines)) ≡ old ++ faults_from (i + 1) (drop i (layout_of size lines))
  faults_step old new n =
      let rest : List CardFault = faults_from (i + 1 + 1) (drop (i + 1) whole) in
      ap (λ t. t ++ rest) n
      ∙ append_assoc old (fault_then (i + 1) fault []) rest
      ∙ ap (λ f. old ++ f) (fault_then-append (i + 1) fault rest ∙ ap (λ o. fault_then (i + 1) o rest) fault_at ∙ sym (faults_from-at whole i within))

  pub last_step : fault ≡ last_fault (take (i + 1) (layout_of size lines))
  last_step = fault_at ∙ sym (ap last_fault (take_more whole i nothing within) ∙ last_fault-push (take i whole) (get_or whole i nothing))

-- ---- the whole pass

pub faults_are : (size : ℕ) (lines : List Line) (is_ended : Bool) (faults new : List CardFault) (last : Option SourceFault) →
    faults ≡ faults_from 1 (layout_of size lines) → last ≡ last_fault (layout_of size lines) → new ≡ faults_to_end is_ended faults last (length lines) → new ≡ faults_of is_ended (layout_of size lines)
unfolding faults_of
faults_are size lines is_ended faults new last f l n =
    n
    ∙ ap (λ x. faults_to_end is_ended x last (length lines)) f
    ∙ ap (λ x. faults_to_end is_ended (faults_from 1 (layout_of size lines)) x (length lines)) l
    ∙ ap (faults_to_end is_ended (faults_from 1 (layout_of size lines)) (last_fault (layout_of size lines))) (sym (length-layout_of size lines))

pub image_is : (size : ℕ) (layout : List Laid) (table : List (Option Cell)) (cells : List Cell) → length table ≡ size → IsTableOf size table (fills_of layout) → cells ≡ cells_in table → cells ≡ image_of size layout
unfolding image_of
image_is size layout table cells long held e = e ∙ cells_in_is size table (fills_of layout) size 0 held long (omega arith)
