-- for the laws of carets: the columns at which they stand
use Rattle.std.proofs.Common.{◌≡◌, ℕ, zero, suc, ◌+◌, ◌<◌, ◌≤◌, Bool, true, false, not, List, [], ◌∷◌, length, drop, Option, Some, None, Ok, refl, subst, arith, length-drop}
use Rattle.std.specs.List.{position}
use Rattle.std.proofs.lemmas.List.{length-take}
use Rattle.std.proofs.lemmas.List.Quantifiers.{position-Some}
use Rattle.cards.specs.declared.decks.Card.{Card}
use Rattle.autocoder_statements.specs.Characters.{is_blank}
use Rattle.autocoder_statements.specs.Operands.{operand}
use Rattle.autocoder_statements.specs.Statements.{word_run, label_field, operation_field, operand_field, operation_of}
use Rattle.autocoder_statements.specs.declared.operand_kinds.OperandKind.{OperandKind}
use Rattle.autocoder_statements.specs.declared.operands.Operand.{Operand}
use Rattle.autocoder_statements.specs.declared.operations.Operation.{Operation}
use Rattle.autocoder_statements.specs.declared.faults.StatementFault.TheVariants as statement_fault
use Rattle.autocoder_statements.specs.declared.reading.Statement.TheVariants as statement
use Rattle.autocoder_layout.specs.Source.{Line, line_on}
use Rattle.autocoder_layout.specs.Layout.{Layout}
use Rattle.autocoder_layout.specs.declared.faults.SourceFault.{SourceFault}
use Rattle.autocoder_layout.specs.declared.faults.SourceFault.TheVariants as fault
use Rattle.autocoder_statements.proofs.Found.{mapped}
use Rattle.source_reports.specs.Carets.{IsInField}
use Rattle.source_reports.specs.OperandHints.{column_by, wrong_column}
use Rattle.source_reports.specs.Places.{stray, column_from, broken_column, length_in, column_of_second, second_column, address_column, place_column, unknown_column, outside_column, place_of}
use Rattle.source_reports.proofs.OperandLemmas.{AreRead, no_text}
use Rattle.source_reports.proofs.CardLemmas.{by_line}

-- ---- 40

-- a character behind a blank is one of its field
stray_within : (field : List ℕ) (index : ℕ) → stray field ≡ Some index → index < length field
unfolding stray
stray_within field index is =
    let was = mapped (λ count. word_run field + count) (position (λ code. not (is_blank code)) (drop (word_run field) field)) index is in
    omega (arith, (position-Some (λ code. not (is_blank code)) (drop (word_run field) field) was.0 0 was.1).0, length-drop (word_run field) field, was.2)

length_label : (card : Card) → length (label_field card) ≤ 10
length_label card = omega (arith, length-take 10 (drop 5 card.0))

length_operation : (card : Card) → length (operation_field card) ≤ 5
length_operation card = omega (arith, length-take 5 (drop 15 card.0))

length_operands : (card : Card) → length (operand_field card) ≤ 52
length_operands card = omega (arith, length-take 52 (drop 20 card.0))

broken_within : (card : Card) → (6 ≤ broken_column card) × (broken_column card ≤ 20)
unfolding broken_column
broken_within card = by_label (stray (label_field card)) refl
  where
    by_operation : (found : Option ℕ) → stray (operation_field card) ≡ found
        → (6 ≤ column_from 16 16 found) × (column_from 16 16 found ≤ 20)
    by_operation None is = (omega arith, omega arith)
    by_operation (Some index) is =
        let below = stray_within (operation_field card) index is in
        (omega arith, omega (arith, below, length_operation card))

    by_label : (found : Option ℕ) → stray (label_field card) ≡ found
        → (6 ≤ column_from 6 (column_from 16 16 (stray (operation_field card))) found)
        × (column_from 6 (column_from 16 16 (stray (operation_field card))) found ≤ 20)
    by_label None is = by_operation (stray (operation_field card)) refl
    by_label (Some index) is =
        let below = stray_within (label_field card) index is in
        (omega arith, omega (arith, below, length_label card))

-- ---- 42

wrong_within : (card : Card) → (21 ≤ wrong_column card) × (wrong_column card ≤ 72)
unfolding wrong_column
wrong_within card = by_operation (operation_of card)
  where
    by_operation : (known : Option Operation)
        → (21 ≤ column_by card known) × (column_by card known ≤ 72)
    by_operation None = (omega arith, omega arith)
    by_operation (Some known) = (omega arith, omega arith)

-- ---- the second operand

-- an operand that was read stands before the end of its field
before_end : (n : ℕ) (text : List ℕ) (kind : OperandKind) (found : Operand × ℕ)
    → operand kind (drop n text) ≡ Some found → n < length text
before_end zero [] kind found read = let none = no_text kind in absurd (cc)
before_end (suc n) [] kind found read = let none = no_text kind in absurd (cc)
before_end zero (code ∷ text) kind found read = omega arith
before_end (suc n) (code ∷ text) kind found read = omega (arith, before_end n text kind found read)

by_two : (card : Card) (first second : Option Operand)
    → AreRead (operand_field card) first second
    → (21 ≤ column_of_second card first second) × (column_of_second card first second ≤ 72)
by_two card (Some first) (Some second) read =
    let below = before_end (length_in (operand_field card) first + 1) (operand_field card) read.1.kind (second, read.1.count) read.1.read in
    (omega arith, omega (arith, below, length_operands card))
by_two card first second read = (omega arith, omega arith)

second_within : (has_size : Bool) (card : Card) (line : Line) → line_on has_size card ≡ line
    → (21 ≤ second_column card line) × (second_column card line ≤ 72)
second_within has_size card (Ok (statement.Instruction label spelled)) is =
    by_two card spelled.first spelled.second (by_line has_size card (Ok (statement.Instruction label spelled)) is)
second_within has_size card line is = (omega arith, omega arith)

-- ---- an address

address_within : (low : ℕ) (card : Card) (line : Line) (first second : Bool) (other : ℕ)
    → (21 ≤ second_column card line) × (second_column card line ≤ 72) → low ≤ 21 → low ≤ other
    → other ≤ 72 → (low ≤ address_column card line first second other)
    × (address_column card line first second other ≤ 72)
address_within low card line true second other within at_most lower upper =
    (at_most, omega arith)
address_within low card line false true other within at_most lower upper =
    (omega (arith, within.0, at_most), within.1)
address_within low card line false false other within at_most lower upper = (lower, upper)

place_within : (line : Line) → (16 ≤ place_column line) × (place_column line ≤ 72)
place_within (Ok (statement.Origin expression)) = (omega arith, omega arith)
place_within (Ok (statement.Equate label expression)) = (omega arith, omega arith)
place_within line = (omega arith, omega arith)

unknown_within : (layout : Layout) (has_size : Bool) (card : Card)
    → (21 ≤ unknown_column layout card (line_on has_size card))
    × (unknown_column layout card (line_on has_size card) ≤ 72)
unfolding unknown_column
unknown_within layout has_size card =
    address_within 21 card (line_on has_size card) _ _ 21
    (second_within has_size card (line_on has_size card) refl)
    (omega arith) (omega arith) (omega arith)

outside_within : (layout : Layout) (has_size : Bool) (card : Card)
    → (16 ≤ outside_column layout card (line_on has_size card))
    × (outside_column layout card (line_on has_size card) ≤ 72)
unfolding outside_column
outside_within layout has_size card =
    let place = place_within (line_on has_size card) in
    address_within 16 card (line_on has_size card) _ _ (place_column (line_on has_size card))
    (second_within has_size card (line_on has_size card) refl) (omega arith) place.0 place.1

-- ---- each fault

at_column : (P : ℕ → Type 0) (known column : ℕ) → Some known ≡ Some column → P known
    → P column
at_column P known column is holds = let same : known ≡ column = cc in subst P same holds

-- a caret stands in the field that its fault is about
pub caret_within : (layout : Layout) (has_size : Bool) (card : Card) (told : SourceFault)
    (column : ℕ) → place_of layout card (line_on has_size card) told ≡ Some column
    → IsInField told column
unfolding place_of
caret_within layout has_size card fault.NoMemory column is = absurd (cc)
caret_within layout has_size card (fault.Statement statement_fault.BrokenField) column is =
    at_column (IsInField (fault.Statement statement_fault.BrokenField)) (broken_column card) column is (broken_within card)
caret_within layout has_size card (fault.Statement statement_fault.UnknownOperation) column is =
    at_column (IsInField (fault.Statement statement_fault.UnknownOperation)) 16 column is (omega arith, omega arith)
caret_within layout has_size card (fault.Statement statement_fault.Operand) column is =
    at_column (IsInField (fault.Statement statement_fault.Operand)) (wrong_column card) column is (wrong_within card)
caret_within layout has_size card (fault.Statement statement_fault.Label) column is =
    at_column (IsInField (fault.Statement statement_fault.Label)) 6 column is (omega arith, omega arith)
caret_within layout has_size card fault.TakenLabel column is =
    at_column (IsInField fault.TakenLabel) 6 column is (omega arith, omega arith)
caret_within layout has_size card fault.UnknownName column is =
    at_column (IsInField fault.UnknownName) _ column is (unknown_within layout has_size card)
caret_within layout has_size card fault.Outside column is =
    at_column (IsInField fault.Outside) _ column is (outside_within layout has_size card)
caret_within layout has_size card fault.Reserved column is =
    at_column (IsInField fault.Reserved) 16 column is (omega arith, omega arith)
caret_within layout has_size card fault.Filled column is =
    at_column (IsInField fault.Filled) 16 column is (omega arith, omega arith)
caret_within layout has_size card fault.NoEnd column is = absurd (cc)
