-- for `push_cards` of `cards_shown`: what a card without a fault fills
use Rattle.std.proofs.Common.{◌≡◌, ℕ, ◌+◌, ◌<◌, Bool, false, ◌||◌, List, [], ◌++◌, length, take, drop, get_or, Option, Some, None, sym, ◌∙◌, ap, arith, inl, inr}
use Rattle.std.specs.Bool.{if◌then◌else◌}
use Rattle.std.specs.List.{All}
use Rattle.std.proofs.lemmas.List.{append-nil}
use Rattle.autocoder_layout.specs.Source.{Line, silent}
use Rattle.autocoder_layout.specs.Slots.{origin, slots_from}
use Rattle.autocoder_layout.specs.Literals.{Characters, literals_of}
use Rattle.autocoder_layout.specs.Cells.{cells_of}
use Rattle.autocoder_layout.specs.Judging.{fault_by, fault_of, names_unknown, names_outside, passes_outside, fills_outside, fills_reserved, is_beyond, is_overlapping, IsCut}
use Rattle.autocoder_layout.specs.Layout.{Laid, fills_of, nothing, laid_by, layout_of}
use Rattle.autocoder_layout.specs.declared.cells.Cell.{Cell}
use Rattle.autocoder_layout.specs.declared.slots.Slot.{Slot}
use Rattle.autocoder_layout.specs.declared.faults.SourceFault.{SourceFault}
use Rattle.autocoder_layout.specs.declared.faults.SourceFault.TheVariants as fault
use Rattle.autocoder_layout.proofs.LayoutLemmas.{layout_of-at, length-layout_of}
use Rattle.autocoder_statements.proofs.Tests.{neither, both_ways}
use Rattle.autocoder_layout.proofs.FaultLemmas.{no_fault_or, no_fault_if}
use Rattle.autocoder_layout.proofs.PassLemmas.{outside_more}

-- ---- a card without a fault

-- it fills positions of the storage, none of them filled already
pub no_fault : (size : ℕ) (names : List Slot) (filled : List Cell) (slot : Slot) (cells : List Cell) (line : Line) → fault_of size names filled slot cells line ≡ None →
    (fills_outside size cells ≡ false) × (is_overlapping filled cells ≡ false)
unfolding fault_of fault_by is_beyond
no_fault size names filled slot cells line e =
    let overlaps : Bool = is_overlapping filled cells in
    let taken : Option SourceFault = if overlaps then Some fault.Filled else None in
    let reserved : Option SourceFault = if fills_reserved cells then Some fault.Reserved else taken in
    let away : Bool = names_outside size names line || (passes_outside size slot line || fills_outside size cells) in
    let beyond : Option SourceFault = if away then Some fault.Outside else reserved in
    let known : Option SourceFault = if names_unknown size names line then Some fault.UnknownName else beyond in
    let one = no_fault_or slot.fault known e in
    let two = no_fault_if (names_unknown size names line) fault.UnknownName beyond one in
    let three = no_fault_if away fault.Outside reserved two.1 in
    let four = no_fault_if (fills_reserved cells) fault.Reserved taken three.1 in
    let five = no_fault_if overlaps fault.Filled None four.1 in
    ((neither (passes_outside size slot line) (fills_outside size cells) ((neither (names_outside size names line) (passes_outside size slot line || fills_outside size cells) three.0).1)).1, five.0)

-- the beginning that is built is all
pub cut_is_all : (size : ℕ) (cells built : List Cell) → IsCut size cells built → fills_outside size cells ≡ false → built ≡ cells
cut_is_all size cells built cut inside =
    elim cut.enough [
      | inl none ↦ sym (append-nil built) ∙ ap (λ r. built ++ r) (sym none) ∙ sym cut.all
      | inr outside ↦ both_ways (fills_outside size cells) inside (ap (fills_outside size) cut.all ∙ outside_more size built cut.rest outside)
    ]

-- what is built of a card is what its layout fills, and its slot is the layout's
module _ (size : ℕ) (lines : List Line) (slots : List Slot) (slots_are : slots ≡ slots_from size [] lines) (literals : List Characters) (literals_are : literals ≡ literals_of lines slots)
    (i : ℕ) (line : Line) (slot : Slot) (later : List Slot) (built : List Cell)
    (h : i < length lines) (line_is : line ≡ get_or lines i silent) (slot_is : slot ≡ get_or slots i origin) (later_is : later ≡ drop (i + 1) slots)
    (cut : IsCut size (cells_of size slots literals later slot line) built) (faultless : All (λ laid. laid.fault ≡ None) (layout_of size lines)) where
  laid_at : get_or (layout_of size lines) i nothing ≡ laid_by size slots literals (fills_of (take i (layout_of size lines))) later slot line
  laid_at =
      let filled : List Cell = fills_of (take i (layout_of size lines)) in
      layout_of-at size lines i h
      ∙ ap (λ s. laid_by size s (literals_of lines s) filled (drop (i + 1) s) (get_or s i origin) (get_or lines i silent)) (sym slots_are)
      ∙ ap (λ x. laid_by size slots x filled (drop (i + 1) slots) (get_or slots i origin) (get_or lines i silent)) (sym literals_are)
      ∙ ap (λ x. laid_by size slots literals filled x (get_or slots i origin) (get_or lines i silent)) (sym later_is)
      ∙ ap (λ x. laid_by size slots literals filled later x (get_or lines i silent)) (sym slot_is)
      ∙ ap (λ x. laid_by size slots literals filled later slot x) (sym line_is)

  pub slot_at : slot ≡ (get_or (layout_of size lines) i nothing).slot
  slot_at = sym (ap (λ (l : Laid). l.slot) laid_at)

  pub built_at : built ≡ (get_or (layout_of size lines) i nothing).fills
  built_at =
      let filled : List Cell = fills_of (take i (layout_of size lines)) in
      let cells : List Cell = cells_of size slots literals later slot line in
      let none : fault_of size slots filled slot cells line ≡ None = sym (ap (λ (l : Laid). l.fault) laid_at) ∙ faultless i nothing (omega (arith, length-layout_of size lines)) in
      cut_is_all size cells built cut ((no_fault size slots filled slot cells line none).0) ∙ sym (ap (λ (l : Laid). l.fills) laid_at)
