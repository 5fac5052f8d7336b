-- for `assemble` of `program`: what the passes give is that of the source
use Rattle.std.proofs.Common.{◌≡◌, ℕ, zero, suc, ◌==◌, ◌-◌, Bool, true, false, ◌||◌, List, [], ◌∷◌, length, map, get_or, refl, sym, ◌∙◌, ap, arith, Option, Some, None, Ok, Err}
use Rattle.std.specs.Bool.{if◌then◌else◌}
use Rattle.cards.specs.declared.decks.Card.{Card}
use Rattle.core_store.specs.Storage.{positions_of}
use Rattle.core_store.specs.declared.sizes.Size.{Size}
use Rattle.autocoder_statements.specs.Statements.{◌>>=◌, is_comment, is_broken, label_field, operation_field, operand_field, operation_in, operation_of, statement_of, statement_on, may_not_label, whole, size as size_in_field, or_fault, word_run}
use Rattle.autocoder_statements.specs.declared.faults.StatementFault.TheVariants as fault
use Rattle.autocoder_statements.specs.declared.operations.Operation.{Operation}
use Rattle.autocoder_statements.specs.declared.operations.Operation.TheVariants as operation
use Rattle.autocoder_statements.specs.declared.reading.Statement.TheVariants as statement
use Rattle.autocoder_layout.specs.CardFaults.{faults_of}
use Rattle.autocoder_layout.specs.declared.card_faults.CardFault.{CardFault}
use Rattle.autocoder_layout.specs.Image.{image_of}
use Rattle.autocoder_layout.specs.Layout.{Layout, laid_out, layout_in, slots_of}
use Rattle.autocoder_layout.specs.Literals.{literals_of}
use Rattle.autocoder_layout.specs.Slots.{slots_from}
use Rattle.autocoder_layout.specs.Source.{Line, silent, is_control, is_the_control, further, line_on, lines_of, has_end, source_read}
use Rattle.autocoder_layout.specs.declared.cells.Cell.{Cell}
use Rattle.autocoder_layout.specs.declared.slots.Slot.{Slot}
use Rattle.autocoder_layout.proofs.LayoutLemmas.{slots_of-layout_of}
use Rattle.autocoder_layout.proofs.SourceLemmas.{length-lines_of}
use Rattle.autocoder.specs.Programs.{size_for, layout_for, last_line, start_by, IsProgramOf}

-- ---- the last card, at which a program starts as it does without regard to an earlier CTL card

module _ (size : ℕ) (slots : List Slot) where
  further_starts_nowhere : (line : Line) → start_by size slots (further line) ≡ 0
  further_starts_nowhere (Err fault.BrokenField) = refl
  further_starts_nowhere (Err fault.UnknownOperation) = refl
  further_starts_nowhere (Err fault.Operand) = refl
  further_starts_nowhere (Err fault.Label) = refl
  further_starts_nowhere (Ok x) = refl

  unlabelled_control : (label : List ℕ) (given : Size) → start_by size slots (may_not_label label (statement.Control given)) ≡ 0
  unfolding may_not_label
  unlabelled_control label given =
      elim (word_run label == 0) as (λ b. start_by size slots (if b then Ok (statement.Control given) else Err fault.Label) ≡ 0) [
        | true ↦ refl
        | false ↦ refl
      ]

  sized_control : (label : List ℕ) (given : Option Size) → start_by size slots (or_fault fault.Operand given >>= λ found. may_not_label label (statement.Control found)) ≡ 0
  sized_control label None = refl
  sized_control label (Some given) = unlabelled_control label given

  control_statement : (o : Option Operation) (label field : List ℕ) → is_the_control o ≡ true → start_by size slots (or_fault fault.UnknownOperation o >>= λ operation. statement_of operation label field) ≡ 0
  unfolding statement_of
  control_statement None label field h = absurd (cc)
  control_statement (Some operation.Job) label field h = absurd (cc)
  control_statement (Some operation.Control) label field h = sized_control label (whole field (size_in_field field))
  control_statement (Some operation.Origin) label field h = absurd (cc)
  control_statement (Some operation.Equate) label field h = absurd (cc)
  control_statement (Some operation.MarkedConstant) label field h = absurd (cc)
  control_statement (Some operation.Constant) label field h = absurd (cc)
  control_statement (Some operation.Area) label field h = absurd (cc)
  control_statement (Some operation.End) label field h = absurd (cc)
  control_statement (Some (operation.Instruction mnemonic)) label field h = absurd (cc)

  control_starts_nowhere : (card : Card) → is_control card ≡ true → start_by size slots (statement_on card) ≡ 0
  unfolding is_control operation_of statement_on
  control_starts_nowhere card h =
      (elim (is_comment card) as (λ b. is_the_control (if b then None else operation_in (operation_field card)) ≡ true →
      start_by size slots
      (if b then Ok statement.Comment
      else (if is_broken (label_field card) || is_broken (operation_field card) then Err fault.BrokenField
      else (or_fault fault.UnknownOperation (operation_in (operation_field card)) >>= λ operation. statement_of operation (label_field card) (operand_field card)))) ≡ 0) [
        | true ↦ λ h. refl
        | false ↦ λ h.
            elim (is_broken (label_field card) || is_broken (operation_field card)) as (λ b. start_by size slots
            (if b then Err fault.BrokenField
            else (or_fault fault.UnknownOperation (operation_in (operation_field card)) >>= λ operation. statement_of operation (label_field card) (operand_field card))) ≡ 0) [
              | true ↦ refl
              | false ↦ control_statement (operation_in (operation_field card)) (label_field card) (operand_field card) h
            ]
      ]) h

  same_card : (has_size : Bool) (card : Card) → start_by size slots (line_on has_size card) ≡ start_by size slots (statement_on card)
  unfolding line_on
  same_card false card = refl
  same_card true card =
      (elim (is_control card) as (λ b. is_control card ≡ b → start_by size slots (if b then further (statement_on card) else statement_on card) ≡ start_by size slots (statement_on card)) [
        | true ↦ λ h. further_starts_nowhere (statement_on card) ∙ sym (control_starts_nowhere card h)
        | false ↦ λ h. refl
      ]) refl

  same_start_at : (has_size : Bool) (cards : List Card) (k : ℕ) → start_by size slots (get_or (lines_of has_size cards) k silent) ≡ start_by size slots (get_or (map statement_on cards) k silent)
  unfolding lines_of
  same_start_at has_size [] k = refl
  same_start_at has_size (card ∷ cards) zero = same_card has_size card
  same_start_at has_size (card ∷ cards) (suc k) = same_start_at (has_size || is_control card) cards k

  same_start : (cards : List Card) → start_by size slots (get_or (lines_of false cards) (length (lines_of false cards) - 1) silent) ≡ start_by size slots (last_line cards)
  unfolding last_line
  same_start cards =
      let same : length (lines_of false cards) - 1 ≡ length cards - 1 = omega (arith, length-lines_of false cards) in
      ap (λ k. start_by size slots (get_or (lines_of false cards) k silent)) same ∙ same_start_at false cards (length cards - 1)

-- ---- the program

module _ (source : List Card) (layout : Layout) (layout_is : layout ≡ laid_out (source_read source)) where
  abbrev laid : List Slot
  laid = slots_from (size_for source) [] (lines_of false source)

  slots_are : laid ≡ slots_of (layout_for source)
  slots_are = sym (slots_of-layout_of (size_for source) (lines_of false source))

  pub program_is : (image : List Cell) (start : ℕ) → image ≡ image_of (positions_of layout.source.size) (layout_in layout.source) →
      start ≡ start_by (positions_of layout.source.size) layout.slots (get_or layout.source.lines (length layout.source.lines - 1) silent) →
      IsProgramOf source (record { size = layout.source.size; image = image; start = start; last = length layout.source.lines; lines = layout.source.lines; slots = layout.slots; literals = layout.literals })
  program_is image start image_is start_is = record {
    size = ap (λ (l : Layout). l.source.size) layout_is;
    image = image_is ∙ ap (λ (l : Layout). image_of (positions_of l.source.size) (layout_in l.source)) layout_is;
    start =
        start_is
        ∙ ap (λ (l : Layout). start_by (positions_of l.source.size) l.slots (get_or l.source.lines (length l.source.lines - 1) silent)) layout_is
        ∙ same_start (size_for source) laid source
        ∙ ap (λ s. start_by (size_for source) s (last_line source)) slots_are;
    last = ap (λ (l : Layout). length l.source.lines) layout_is ∙ length-lines_of false source;
    lines = ap (λ (l : Layout). l.source.lines) layout_is;
    slots = ap (λ (l : Layout). l.slots) layout_is ∙ slots_are;
    literals = ap (λ (l : Layout). l.literals) layout_is ∙ ap (literals_of (lines_of false source)) slots_are;
  }

  pub faults_are : (faults : List CardFault) → faults ≡ faults_of layout.source.is_ended (layout_in layout.source) → faults ≡ faults_of (has_end source) (layout_for source)
  faults_are faults e = e ∙ ap (λ (l : Layout). faults_of l.source.is_ended (layout_in l.source)) layout_is
