-- what each operation wants on its card: its label, its operand field, and the addresses there
use Rattle.std.specs.Prelude.{ℕ, ◌≡◌, ◌≢◌, ◌⊎◌, ⊤, List, [], Option, Some, codes}
use Rattle.addresses.specs.declared.tagged.IndexLocation.{IndexLocation}
use Rattle.cards.specs.declared.decks.Card.{Card}
use Rattle.core_store.specs.declared.sizes.Size.{Size}
use Rattle.autocoder_statements.specs.Statements.{columns, word}
use Rattle.autocoder_statements.specs.declared.expressions.Expression.{Expression}
use Rattle.autocoder_statements.specs.declared.constants.Constant.{Constant}
use Rattle.autocoder_statements.specs.declared.names.Name.{Name}
use Rattle.autocoder_statements.specs.declared.operands.Operand.TheVariants.{Address}
use Rattle.autocoder_statements.specs.declared.operations.Instruction.{Instruction}
use Rattle.autocoder_statements.specs.declared.operations.Operation.{Operation}
use Rattle.autocoder_statements.specs.declared.operations.Operation.TheVariants as operation
use Rattle.autocoder_laws.specs.Texts.{characters, Joined, IsEnd}
use Rattle.autocoder_laws.specs.Numbers.{IsPositive}
use Rattle.autocoder_laws.specs.Names.{IsName}
use Rattle.autocoder_laws.specs.Addresses.{IsExpression}
use Rattle.autocoder_laws.specs.Constants.{IsConstant}
use Rattle.autocoder_laws.specs.Cards.{mnemonic_on, IsNamed, IsSize, IsStart, IsInstruction}

-- ---- the operation

-- a card that is no comment, since column 6 has no asterisk
abbrev pub IsNoComment : Card → Type 0
IsNoComment card = columns 6 6 card ≢ characters (codes "*")

-- a card with this operation: no comment, with the operation's name before the first blank of
-- columns 16 to 20
pub record HasOperation (operation : Operation) (card : Card) : Type 0 where
  pub no_comment : IsNoComment card
  pub named : IsNamed operation (mnemonic_on card)

-- ---- the label

-- the label of a card: what stands before the first blank of columns 6 to 15
abbrev pub label_on : Card → List ℕ
label_on card = word (columns 6 15 card)

-- there is no label
abbrev pub IsMissing : List ℕ → Type 0
IsMissing label = label ≡ []

-- the label is a name
abbrev pub IsGood : List ℕ → Type 0
IsGood label = (name : Name) × IsName name label

-- there is no label, or one that is a name
abbrev pub IsMissingOrGood : List ℕ → Type 0
IsMissingOrGood label = IsMissing label ⊎ IsGood label

-- the label is as the operation wants it: EQU must have one; constants, areas and instructions may
-- have one; the others must have none
abbrev pub SuitsLabel : Operation → List ℕ → Type 0
SuitsLabel operation.Job label = IsMissing label
SuitsLabel operation.Control label = IsMissing label
SuitsLabel operation.Origin label = IsMissing label
SuitsLabel operation.Equate label = IsGood label
SuitsLabel operation.MarkedConstant label = IsMissingOrGood label
SuitsLabel operation.Constant label = IsMissingOrGood label
SuitsLabel operation.Area label = IsMissingOrGood label
SuitsLabel operation.End label = IsMissing label
SuitsLabel (operation.Instruction mnemonic) label = IsMissingOrGood label

-- ---- the operand field

-- the operand field is as the operation wants it: any text for JOB, a size for CTL, an expression
-- for ORG and EQU, a constant for DCW and DC, a number for DS, an expression or nothing for END,
-- and operands in a form of its mnemonic for an instruction
abbrev pub SuitsOperands : Operation → List ℕ → Type 0
SuitsOperands operation.Job field = ⊤
SuitsOperands operation.Control field = (size : Size) × Joined (IsSize size) IsEnd field
SuitsOperands operation.Origin field =
    (expression : Expression) × Joined (IsExpression expression) IsEnd field
SuitsOperands operation.Equate field =
    (expression : Expression) × Joined (IsExpression expression) IsEnd field
SuitsOperands operation.MarkedConstant field =
    (constant : Constant) × Joined (IsConstant constant) IsEnd field
SuitsOperands operation.Constant field =
    (constant : Constant) × Joined (IsConstant constant) IsEnd field
SuitsOperands operation.Area field = (n : ℕ) × Joined (IsPositive n) IsEnd field
SuitsOperands operation.End field = (start : Option Expression) × IsStart start field
SuitsOperands (operation.Instruction mnemonic) field =
    (instruction : Instruction) × IsInstruction mnemonic instruction field

-- one of the operands of an instruction is an address with this expression
abbrev pub HasExpression : Expression → Instruction → Type 0
HasExpression expression spelled = (index : Option IndexLocation)
    × ((spelled.first ≡ Some (Address (record { expression = expression; index = index })))
    ⊎ (spelled.second ≡ Some (Address (record { expression = expression; index = index }))))

-- the operand field has an address with this expression
abbrev pub HasAddress : Operation → Expression → List ℕ → Type 0
HasAddress operation.Job expression field = ⊥
HasAddress operation.Control expression field = ⊥
HasAddress operation.Origin expression field = Joined (IsExpression expression) IsEnd field
HasAddress operation.Equate expression field = Joined (IsExpression expression) IsEnd field
HasAddress operation.MarkedConstant expression field = ⊥
HasAddress operation.Constant expression field = ⊥
HasAddress operation.Area expression field = ⊥
HasAddress operation.End expression field = Joined (IsExpression expression) IsEnd field
HasAddress (operation.Instruction mnemonic) expression field =
    (spelled : Instruction) × IsInstruction mnemonic spelled field
    × HasExpression expression spelled
