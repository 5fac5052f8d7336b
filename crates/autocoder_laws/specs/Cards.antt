-- whole cards as they are spelled
use Rattle.std.specs.Prelude.{ℕ, ◌≡◌, ◌≢◌, ◌<◌, ◌⊎◌, Bool, true, false, not, List, ◌++◌, length, map, slice_index, Option, Some, None, Contains, codes}
use Rattle.std.specs.List.{list_all}
use Rattle.cards.specs.declared.decks.Card.{Card}
use Rattle.core_store.specs.declared.sizes.Size.{Size}
use Rattle.core_store.specs.declared.sizes.Size.TheVariants.{Positions1400, Positions2000, Positions4000, Positions8000, Positions12000, Positions16000}
use Rattle.autocoder_statements.specs.Characters.{with_blanks}
use Rattle.autocoder_statements.specs.Mnemonics.{orders, mnemonics, mnemonic_of, instruction_with, IsAmong}
use Rattle.autocoder_statements.specs.Statements.{columns, operation_columns, operation_field, word}
use Rattle.autocoder_statements.specs.declared.expressions.Expression.{Expression}
use Rattle.autocoder_statements.specs.declared.constants.Constant.{Constant}
use Rattle.autocoder_statements.specs.declared.operand_forms.OperandForm.{OperandForm}
use Rattle.autocoder_statements.specs.declared.names.Name.{Name}
use Rattle.autocoder_statements.specs.declared.operands.Operands.{Operands}
use Rattle.autocoder_statements.specs.declared.operations.Instruction.{Instruction}
use Rattle.autocoder_statements.specs.declared.operations.Mnemonic.{Mnemonic}
use Rattle.autocoder_statements.specs.declared.operations.Operation.{Operation}
use Rattle.autocoder_statements.specs.declared.operations.Operation.TheVariants as operation
use Rattle.autocoder_statements.specs.declared.reading.Statement.{Statement}
use Rattle.autocoder_statements.specs.declared.reading.Statement.TheVariants as statement
use Rattle.autocoder_laws.specs.Texts.{characters, character, is_one_of, Joined, IsTyped, AreBlanks, IsEnd}
use Rattle.autocoder_laws.specs.Numbers.{IsPositive}
use Rattle.autocoder_laws.specs.Names.{IsName}
use Rattle.autocoder_laws.specs.Addresses.{IsExpression}
use Rattle.autocoder_laws.specs.Constants.{IsConstant}
use Rattle.autocoder_laws.specs.OperandFields.{AreOperands}

-- ---- the label field

-- a label field with a name and blanks after it
abbrev pub IsLabelled : Name → List ℕ → Type 0
IsLabelled name field = Joined (IsName name) AreBlanks field

-- a label field with this name, or a blank one
abbrev pub HasLabel : Option Name → List ℕ → Type 0
HasLabel None field = AreBlanks field
HasLabel (Some name) field = IsLabelled name field

-- a word: at least one character, no blank, and no asterisk at its beginning
pub record IsWord (text : List ℕ) : Type 0 where
  pub some : 0 < length text
  pub filled : list_all (λ code. not (is_one_of (codes " ") code)) text ≡ true
  pub no_comment : slice_index text 0 ≢ character (codes "*")

-- a label field with any word and blanks after it, or a blank one
abbrev pub HasWord : Bool → List ℕ → Type 0
HasWord false field = AreBlanks field
HasWord true field = Joined IsWord AreBlanks field

-- ---- the operation field

-- the word in a card's operation field, filled up with blanks
abbrev pub mnemonic_on : Card → List ℕ
mnemonic_on card = with_blanks operation_columns (word (operation_field card))

-- the operations with their names, blanks after each name
unfoldable pub operations : List (List ℕ × Operation)
operations = orders
    ++ map (λ row. (row.0, operation.Instruction (mnemonic_of row.1))) mnemonics

-- an operation field with the name of this operation
pub record IsNamed (operation : Operation) (field : List ℕ) : Type 0 where
  pub name : List ℕ
  pub named : Contains operations (name, operation)
  pub said : IsTyped name field

-- ---- the operand field

-- the digit of a size
abbrev pub IsSize : Size → List ℕ → Type 0
IsSize Positions1400 text = IsTyped (codes "1") text
IsSize Positions2000 text = IsTyped (codes "2") text
IsSize Positions4000 text = IsTyped (codes "3") text
IsSize Positions8000 text = IsTyped (codes "4") text
IsSize Positions12000 text = IsTyped (codes "5") text
IsSize Positions16000 text = IsTyped (codes "6") text

-- where a program starts: nothing, or an expression
abbrev pub IsStart : Option Expression → List ℕ → Type 0
IsStart None field = IsEnd field
IsStart (Some expression) field = Joined (IsExpression expression) IsEnd field

-- an instruction of a mnemonic, by operands in one of its forms
pub record IsInstruction (mnemonic : Mnemonic) (instruction : Instruction) (field : List ℕ)
    : Type 0 where
  pub form : OperandForm
  pub operands : Operands
  pub among : IsAmong mnemonic.forms form
  pub is_built : instruction ≡ instruction_with mnemonic operands
  pub said : Joined (AreOperands form operands) IsEnd field

-- ---- statements

-- what an operation says with a label field and an operand field
abbrev pub Says : Operation → Statement → List ℕ → List ℕ → Type 0
Says operation.Job said label field = (said ≡ statement.Job) × AreBlanks label
Says operation.Control said label field =
    (size : Size) × (said ≡ statement.Control size) × AreBlanks label
    × Joined (IsSize size) IsEnd field
Says operation.Origin said label field =
    (expression : Expression) × (said ≡ statement.Origin expression) × AreBlanks label
    × Joined (IsExpression expression) IsEnd field
Says operation.Equate said label field =
    (name : Name) × (expression : Expression) × (said ≡ statement.Equate name expression)
    × IsLabelled name label × Joined (IsExpression expression) IsEnd field
Says operation.MarkedConstant said label field =
    (name : Option Name) × (constant : Constant)
    × (said ≡ statement.Constant name true constant)
    × HasLabel name label × Joined (IsConstant constant) IsEnd field
Says operation.Constant said label field =
    (name : Option Name) × (constant : Constant)
    × (said ≡ statement.Constant name false constant)
    × HasLabel name label × Joined (IsConstant constant) IsEnd field
Says operation.Area said label field =
    (name : Option Name) × (n : ℕ) × (said ≡ statement.Area name n)
    × HasLabel name label × Joined (IsPositive n) IsEnd field
Says operation.End said label field =
    (start : Option Expression) × (labelled : Bool) × (said ≡ statement.End start labelled)
    × HasWord labelled label × IsStart start field
Says (operation.Instruction mnemonic) said label field =
    (name : Option Name) × (instruction : Instruction)
    × (said ≡ statement.Instruction name instruction)
    × HasLabel name label × IsInstruction mnemonic instruction field

-- a card with an operation in columns 16 to 20, a label in 6 to 15 and operands in 21 to 72 that
-- say this statement together
pub record IsSpelled (said : Statement) (card : Card) : Type 0 where
  pub operation : Operation
  pub named : IsNamed operation (columns 16 20 card)
  pub says : Says operation said (columns 6 15 card) (columns 21 72 card)

-- a card with an asterisk in column 6, which is a comment whatever else it has
pub record IsComment (said : Statement) (card : Card) : Type 0 where
  pub comment : said ≡ statement.Comment
  pub asterisk : columns 6 6 card ≡ characters (codes "*")

-- a card says this statement
abbrev pub IsCard : Statement → Card → Type 0
IsCard said card = IsComment said card ⊎ IsSpelled said card
