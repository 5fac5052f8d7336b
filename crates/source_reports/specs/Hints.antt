-- what is known of a fault besides its words
use Rattle.std.specs.Prelude.{ℕ, List, [], Option, Some, None, slice_get}
use Rattle.cards.specs.declared.decks.Card.{Card}
use Rattle.autocoder_statements.specs.declared.faults.StatementFault.{StatementFault}
use Rattle.autocoder_statements.specs.declared.faults.StatementFault.TheVariants.{BrokenField, UnknownOperation, Operand, Label}
use Rattle.autocoder_layout.specs.Source.{Line}
use Rattle.autocoder_layout.specs.Layout.{Layout}
use Rattle.autocoder_layout.specs.declared.faults.SourceFault.{SourceFault}
use Rattle.autocoder_layout.specs.declared.faults.SourceFault.TheVariants.{Statement, TakenLabel, UnknownName, Outside, Filled}
use Rattle.source_reports.specs.FieldHints.{field_hint}
use Rattle.source_reports.specs.Labels.{taken_hint}
use Rattle.source_reports.specs.OperandHints.{operand_hint}
use Rattle.source_reports.specs.OperationHints.{operation_hint}
use Rattle.source_reports.specs.OutsideAddresses.{outside_hint}
use Rattle.source_reports.specs.Overlaps.{filled_hint}
use Rattle.source_reports.specs.UnknownNames.{unknown_hint}
use Rattle.source_reports.specs.WrongLabels.{label_hint}

-- what follows the words of a fault of a card's statement, if there is a card
abbrev pub statement_hint : List Card → Option Card → StatementFault → List ℕ
statement_hint source None reason = []
statement_hint source (Some card) BrokenField = field_hint source card
statement_hint source (Some card) UnknownOperation = operation_hint source card
statement_hint source (Some card) Operand = operand_hint card
statement_hint source (Some card) Label = label_hint card

-- what follows the words of a card's fault, by the card's number from 0
unfoldable pub hint_of : Layout → List Card → ℕ → Line → SourceFault → List ℕ
hint_of layout source index line (Statement reason) =
    statement_hint source (slice_get source index) reason
hint_of layout source index line TakenLabel = taken_hint layout line
hint_of layout source index line UnknownName = unknown_hint layout index line
hint_of layout source index line Outside = outside_hint layout line
hint_of layout source index line Filled = filled_hint layout index
hint_of layout source index line other = []
