-- for the law `names_told_are_not_defined`
use Rattle.std.proofs.Common.{◌≡◌, ℕ, zero, suc, ◌+◌, ◌<◌, Bool, true, false, ◌⊎◌, inl, inr, List, [], ◌∷◌, length, take, drop, get_or, Option, Some, None, Ok, Err, if◌then◌else◌, refl, sym, ◌∙◌, ap, subst, arith}
use Rattle.std.specs.Prelude.{is_some, slice_get}
use Rattle.std.proofs.lemmas.List.{take-map}
use Rattle.cards.specs.declared.decks.Card.{Card}
use Rattle.autocoder_statements.specs.Statements.{operand_field}
use Rattle.autocoder_statements.specs.declared.faults.StatementFault.{StatementFault}
use Rattle.autocoder_statements.specs.declared.names.Name.{Name}
use Rattle.autocoder_statements.specs.declared.reading.Statement.TheVariants as statement
use Rattle.autocoder_layout.specs.Judging.{is_unknown, is_beyond, names_unknown, fills_reserved, is_overlapping, fault_or, fault_by, fault_of}
use Rattle.autocoder_layout.specs.Layout.{Laid, Satisfies, slots_of, fills_of, nothing}
use Rattle.autocoder_layout.specs.Literals.{literals_of}
use Rattle.autocoder_layout.specs.Names.{address_of, value_in}
use Rattle.autocoder_layout.specs.Slots as slots
use Rattle.autocoder_layout.specs.Slots.{slot_of, slots_from, stays, with_any_label, moved_to, equal_to, equate_slot, end_fault, ends}
use Rattle.autocoder_layout.specs.Source.{Line, silent, lines_of}
use Rattle.autocoder_layout.specs.declared.cells.Cell.{Cell}
use Rattle.autocoder_layout.specs.declared.faults.SourceFault.{SourceFault}
use Rattle.autocoder_layout.specs.declared.faults.SourceFault.TheVariants as fault
use Rattle.autocoder_layout.specs.declared.names.Value.{Value}
use Rattle.autocoder_layout.specs.declared.names.Value.TheVariants.{Unknown, Outside, At}
use Rattle.autocoder_layout.specs.declared.slots.Slot.{Slot}
use Rattle.autocoder_layout.proofs.LayoutLemmas.{there_is_one, slots_of-layout_of}
use Rattle.autocoder_layout.proofs.SourceLemmas.{length-lines_of}
use Rattle.autocoder.specs.Programs.{size_for, layout_for}
use Rattle.source_reports.specs.Blocks.{line_at}
use Rattle.source_reports.specs.Carets.{IsUnknownTold}
use Rattle.autocoder.specs.Programs.{laid_for}
use Rattle.source_reports.proofs.CardLemmas.{IsLineFrom, by_line}
use Rattle.source_reports.proofs.CaretLaw.{line_of_card}
use Rattle.source_reports.proofs.NameLemmas.{IsEarlyUnknown, early_unknown, late_unknown}

-- ---- the fault of a slot

-- a label adds no fault but that it is taken
label_adds : (earlier : List Slot) (label : Option Name) (address : ℕ) (slot : Slot)
    → (with_any_label earlier label address slot).fault ≡ Some fault.UnknownName
    → slot.fault ≡ Some fault.UnknownName
unfolding with_any_label
label_adds earlier None address slot e = e
label_adds earlier (Some label) address slot e = by_test (is_some (address_of label earlier)) e
  where
    by_test : (test : Bool) → (if test then stays earlier (Some fault.TakenLabel)
        else slots.with_label slot label address).fault ≡ Some fault.UnknownName
        → slot.fault ≡ Some fault.UnknownName
    by_test true e = absurd (cc)
    by_test false e = e

unlabelled : (earlier : List Slot) (label : Option Name) (address : ℕ) (slot : Slot)
    → slot.fault ≡ None
    → (with_any_label earlier label address slot).fault ≡ Some fault.UnknownName → ⊥
unlabelled earlier label address slot none e =
    let was = label_adds earlier label address slot e in absurd (cc)

moved : (earlier : List Slot) (value : Value)
    → (moved_to earlier value).fault ≡ Some fault.UnknownName → is_unknown value ≡ true
moved earlier Unknown e = refl
moved earlier Outside e = absurd (cc)
moved earlier (At position) e = absurd (cc)

equated : (earlier : List Slot) (label : Name) (value : Value)
    → (equal_to earlier label value).fault ≡ Some fault.UnknownName → is_unknown value ≡ true
equated earlier label Unknown e = refl
equated earlier label Outside e = absurd (cc)
equated earlier label (At position) e = absurd (cc)

ended : (earlier : List Slot) (reason : Option StatementFault)
    → (ends earlier reason).fault ≡ Some fault.UnknownName → ⊥
ended earlier None e = absurd (cc)
ended earlier (Some reason) e = absurd (cc)

-- a slot with this fault is of an ORG or an EQU whose name no earlier card defines
slot_unknown : (size : ℕ) (earlier : List Slot) (line : Line)
    → (slot_of size earlier line).fault ≡ Some fault.UnknownName
    → IsEarlyUnknown size earlier line
unfolding slot_of
slot_unknown size earlier (Err reason) e = absurd (cc)
slot_unknown size earlier (Ok statement.Comment) e = absurd (cc)
slot_unknown size earlier (Ok statement.Job) e = absurd (cc)
slot_unknown size earlier (Ok (statement.Control given)) e = absurd (cc)
slot_unknown size earlier (Ok (statement.Origin said)) e =
    moved earlier (value_in size earlier said) e
slot_unknown size earlier (Ok (statement.Equate label said)) e =
    by_test (is_some (address_of label earlier)) e
  where
    by_test : (test : Bool) → (if test then stays earlier (Some fault.TakenLabel)
        else equal_to earlier label (value_in size earlier said)).fault ≡ Some fault.UnknownName
        → is_unknown (value_in size earlier said) ≡ true
    by_test true e = absurd (cc)
    by_test false e = equated earlier label (value_in size earlier said) e
slot_unknown size earlier (Ok (statement.Constant label true text)) e =
    unlabelled earlier label _ _ refl e
slot_unknown size earlier (Ok (statement.Constant label false text)) e =
    unlabelled earlier label _ _ refl e
slot_unknown size earlier (Ok (statement.Area label positions)) e =
    unlabelled earlier label _ _ refl e
slot_unknown size earlier (Ok (statement.End start labelled)) e =
    ended earlier (end_fault earlier start labelled) e
slot_unknown size earlier (Ok (statement.Instruction label spelled)) e =
    unlabelled earlier label _ _ refl e

-- ---- the fault of a card

-- the faults that are judged behind that of a name are others
others : (beyond reserved overlaps : Bool) → (if beyond then Some fault.Outside
    else (if reserved then Some fault.Reserved
    else (if overlaps then Some fault.Filled else None))) ≡ Some fault.UnknownName → ⊥
others true reserved overlaps e = absurd (cc)
others false true overlaps e = absurd (cc)
others false false true e = absurd (cc)
others false false false e = absurd (cc)

-- a card with this fault has it by its slot, or one of its names is not defined
card_unknown : (size : ℕ) (names : List Slot) (filled : List Cell) (slot : Slot) (cells : List Cell)
    (line : Line) → fault_of size names filled slot cells line ≡ Some fault.UnknownName
    → (slot.fault ≡ Some fault.UnknownName) ⊎ (names_unknown size names line ≡ true)
unfolding fault_of fault_by
card_unknown size names filled slot cells line e = by_slot slot.fault refl e
  where
    judged : Option SourceFault
    judged = if is_beyond size names slot cells line then Some fault.Outside
        else (if fills_reserved cells then Some fault.Reserved
        else (if is_overlapping filled cells then Some fault.Filled else None))

    by_name : (test : Bool) → names_unknown size names line ≡ test
        → (if test then Some fault.UnknownName else judged) ≡ Some fault.UnknownName
        → (slot.fault ≡ Some fault.UnknownName) ⊎ (names_unknown size names line ≡ true)
    by_name true is e = inr is
    by_name false is e = absurd (others (is_beyond size names slot cells line) (fills_reserved cells) (is_overlapping filled cells) e)

    by_slot : (own : Option SourceFault) → slot.fault ≡ own
        → fault_or own (if names_unknown size names line then Some fault.UnknownName else judged)
        ≡ Some fault.UnknownName
        → (slot.fault ≡ Some fault.UnknownName) ⊎ (names_unknown size names line ≡ true)
    by_slot None is e = by_name (names_unknown size names line) refl e
    by_slot (Some reason) is e = inl (is ∙ e)

-- ---- a card of a source

within_source : (source : List Card) (k : ℕ) (card : Card) → slice_get source k ≡ Some card
    → k < length source
within_source [] k card at = absurd (cc)
within_source (first ∷ source) zero card at = omega arith
within_source (first ∷ source) (suc k) card at = omega (arith, within_source source k card at)

pub told_undefined : (source : List Card) (k : ℕ) (card : Card) → slice_get source k ≡ Some card
    → (get_or (layout_for source) k nothing).fault ≡ Some fault.UnknownName
    → IsUnknownTold (laid_for source) k card (line_at (laid_for source) k)
told_undefined source k card at e =
    elim (card_unknown size (slots_of layout) (fills_of (take k layout)) laid.slot laid.fills line (sym rules.fault ∙ e)) [
      | inl early ↦ early_unknown (laid_for source) k card line read (by_slot early)
      | inr late ↦ late_unknown (laid_for source) k card line read (ap (λ s. names_unknown size s line) (sym names) ∙ late)
    ]
  where
    size : ℕ
    size = size_for source

    lines : List Line
    lines = lines_of false source

    layout : List Laid
    layout = layout_for source

    line : Line
    line = get_or lines k silent

    laid : Laid
    laid = get_or layout k nothing

    below : k < length lines
    below = omega (arith, within_source source k card at, length-lines_of false source)

    names : slots_of layout ≡ slots_from size [] lines
    names = slots_of-layout_of size lines

    rules : Satisfies size (literals_of lines (slots_of layout)) layout (take k layout) (drop (k + 1) layout) line laid
    rules = (there_is_one size lines).satisfied k below

    read : IsLineFrom (operand_field card) line
    read = let said = line_of_card false source k card at in
        by_line said.0 card line (sym said.1)

    by_slot : laid.slot.fault ≡ Some fault.UnknownName
        → IsEarlyUnknown size (take k (slots_from size [] lines)) line
    by_slot early =
        let before : slots_of (take k layout) ≡ take k (slots_from size [] lines) =
        sym (take-map (λ (l : Laid). l.slot) k layout) ∙ ap (take k) names in
        subst (λ s. IsEarlyUnknown size s line) before
        (slot_unknown size (slots_of (take k layout)) line
        (sym (ap (λ (s : Slot). s.fault) rules.slot) ∙ early))
