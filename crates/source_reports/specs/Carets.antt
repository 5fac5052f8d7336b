-- where the caret of a fault may stand, and what stands over it
use Rattle.std.specs.Prelude.{ℕ, ◌≡◌, ◌+◌, ◌-◌, ◌<◌, ◌≤◌, true, false, List, length, take, drop, slice_index, slice_index_or, Option, Some, None}
use Rattle.cards.specs.declared.decks.Card.{Card}
use Rattle.autocoder_statements.specs.Characters.{is_blank}
use Rattle.autocoder_statements.specs.Names.{name_run, name_of}
use Rattle.autocoder_statements.specs.Statements.{operand_field}
use Rattle.autocoder_statements.specs.declared.names.Name.{Name}
use Rattle.autocoder_statements.specs.declared.faults.StatementFault.TheVariants.{BrokenField, UnknownOperation, Operand, Label}
use Rattle.autocoder_layout.specs.Layout.{Layout}
use Rattle.autocoder_layout.specs.Names.{address_of}
use Rattle.autocoder_layout.specs.Source.{Line}
use Rattle.autocoder_layout.specs.declared.faults.SourceFault.{SourceFault}
use Rattle.autocoder_layout.specs.declared.faults.SourceFault.TheVariants.{NoMemory, Statement, TakenLabel, UnknownName, Outside, Reserved, Filled, NoEnd}
use Rattle.autocoder_layout.specs.Slots.{origin}
use Rattle.autocoder_layout.specs.declared.slots.Definition.{Definition}
use Rattle.autocoder_layout.specs.declared.slots.Slot.{Slot}
use Rattle.source_reports.specs.Names.{differences, defines_near}
use Rattle.source_reports.specs.declared.names.Known.{Known}
use Rattle.source_reports.specs.UnknownNames.{unknown_name, usable_by}
use Rattle.source_reports.specs.Places.{unknown_column}

-- ---- the field

-- the first column of the field that a fault is about: the label's, 6, the operation's, 16, or the
-- operands', 21
abbrev pub first_column : SourceFault → ℕ
first_column NoMemory = 0
first_column (Statement BrokenField) = 6
first_column (Statement UnknownOperation) = 16
first_column (Statement Operand) = 21
first_column (Statement Label) = 6
first_column TakenLabel = 6
first_column UnknownName = 21
first_column Outside = 16
first_column Reserved = 16
first_column Filled = 16
first_column NoEnd = 0

-- the last column of the field that a fault is about: the label's, 15, the operation's, 20, or the
-- operands', 72; two faults may be about two fields
abbrev pub last_column : SourceFault → ℕ
last_column NoMemory = 0
last_column (Statement BrokenField) = 20
last_column (Statement UnknownOperation) = 20
last_column (Statement Operand) = 72
last_column (Statement Label) = 15
last_column TakenLabel = 15
last_column UnknownName = 72
last_column Outside = 72
last_column Reserved = 20
last_column Filled = 20
last_column NoEnd = 0

-- a column is one of the field that a fault is about
abbrev pub IsInField : SourceFault → ℕ → Type 0
IsInField fault column = (first_column fault ≤ column) × (column ≤ last_column fault)

-- ---- a character behind a blank

-- a character of a field that is no blank, and stands behind one
pub record IsBehindBlank (field : List ℕ) (index : ℕ) : Type 0 where
  pub gap : ℕ
  pub order : gap < index
  pub within : index < length field
  pub blank : is_blank (slice_index field gap) ≡ true
  pub filled : is_blank (slice_index field index) ≡ false

-- the column of such a character in a field that begins with this column
abbrev pub IsStrayAt : List ℕ → ℕ → ℕ → Type 0
IsStrayAt field first column = (index : ℕ) × (column ≡ first + index) × IsBehindBlank field index

-- ---- a name that is not defined

-- what a card has from a column of its operands on
abbrev pub text_at : Card → ℕ → List ℕ
text_at card column = drop (column - 21) (operand_field card)

-- the name that begins at a column of a card's operands, if one does
abbrev pub name_at : Card → ℕ → Option Name
name_at card column = name_of (take (name_run (text_at card column)) (text_at card column))

-- what is told of a card, by its number from 0, is a name of it that no card defines which counts
-- for it, and the caret stands under the name's first letter
pub record IsUnknownTold (layout : Layout) (index : ℕ) (card : Card) (line : Line) : Type 0 where
  pub name : Name
  pub told : unknown_name layout line ≡ Some name
  pub over_caret : name_at card (unknown_column layout card line) ≡ Some name
  pub undefined : address_of name (usable_by line index layout.slots) ≡ None

-- ---- a name that is nearly the same

-- a name that the card of this number, from 1, defines, which differs from another one in one
-- character; no other card defines such a name
pub record IsOnlyNear (wanted : Name) (slots : List Slot) (known : Known) : Type 0 where
  pub index : ℕ
  pub card : known.card ≡ index + 1
  pub within : index < length slots
  pub definition : Definition
  pub defined : (slice_index_or slots index origin).defines ≡ Some definition
  pub name : definition.name ≡ known.name
  pub near : differences known.name.characters wanted.characters ≡ 1
  pub only : (k : ℕ) → k < length slots →
      defines_near wanted (slice_index_or slots k origin) ≡ true → k ≡ index
