-- the numbers and texts that a statement may have
use Rattle.std.specs.Prelude.{ℕ, ◌<◌, ◌≤◌, List, length, IfSome}
use Rattle.autocoder_statements.specs.declared.expressions.Base.{Base}
use Rattle.autocoder_statements.specs.declared.expressions.Base.TheVariants.{Number, Name}
use Rattle.autocoder_statements.specs.declared.expressions.Adjustment.{Adjustment}
use Rattle.autocoder_statements.specs.declared.expressions.Adjustment.TheVariants.{Nothing, Plus, Minus}
use Rattle.autocoder_statements.specs.declared.expressions.Expression.{Expression}
use Rattle.autocoder_statements.specs.declared.constants.Constant.{Constant}
use Rattle.autocoder_statements.specs.declared.constants.Constant.TheVariants.{Characters, Blanks}
use Rattle.autocoder_statements.specs.declared.operands.Operand.{Operand}
use Rattle.autocoder_statements.specs.declared.operands.Operand.TheVariants.{Address, Literal}
use Rattle.autocoder_statements.specs.declared.operands.Operands.{Operands}
use Rattle.autocoder_statements.specs.declared.operations.Instruction.{Instruction}
use Rattle.autocoder_statements.specs.declared.reading.Statement.{Statement}
use Rattle.autocoder_statements.specs.declared.reading.Statement.TheVariants as statement
use Rattle.autocoder_statements.specs.Limits.{longest_text, number_limit}

-- a base that is a number has at most five digits
abbrev pub IsBaseInRange : Base → Type 0
IsBaseInRange (Number n) = n < number_limit
IsBaseInRange (Name name) = Unit {0}

-- the number of an adjustment has at most five digits
abbrev pub IsAdjustmentInRange : Adjustment → Type 0
IsAdjustmentInRange Nothing = Unit {0}
IsAdjustmentInRange (Plus n) = n < number_limit
IsAdjustmentInRange (Minus n) = n < number_limit

-- the numbers of an expression have at most five digits
abbrev pub IsExpressionInRange : Expression → Type 0
IsExpressionInRange expression = IsBaseInRange expression.base
    × IsAdjustmentInRange expression.adjustment

-- a text has at least one character, and at most as many as the operand field has
abbrev pub IsTextInRange : List ℕ → Type 0
IsTextInRange text = (0 < length text) × (length text ≤ longest_text)

-- a number that is not 0 and has at most five digits
abbrev pub IsPositiveInRange : ℕ → Type 0
IsPositiveInRange n = (0 < n) × (n < number_limit)

-- a constant's text, or its number of blanks, is in range
abbrev pub IsConstantInRange : Constant → Type 0
IsConstantInRange (Characters text) = IsTextInRange text
IsConstantInRange (Blanks n) = IsPositiveInRange n

-- an operand's address or literal is in range
abbrev pub IsOperandInRange : Operand → Type 0
IsOperandInRange (Address address) = IsExpressionInRange address.expression
IsOperandInRange (Literal text) = IsTextInRange text

-- both operands of a field, if they are there, are in range
abbrev pub AreOperandsInRange : Operands → Type 0
AreOperandsInRange operands = IfSome operands.first IsOperandInRange
    × IfSome operands.second IsOperandInRange

-- both operands of an instruction, if they are there, are in range
abbrev pub IsInstructionInRange : Instruction → Type 0
IsInstructionInRange instruction = IfSome instruction.first IsOperandInRange
    × IfSome instruction.second IsOperandInRange

-- the numbers and texts of a statement are in range
abbrev pub IsStatementInRange : Statement → Type 0
IsStatementInRange statement.Comment = Unit {0}
IsStatementInRange statement.Job = Unit {0}
IsStatementInRange (statement.Control size) = Unit {0}
IsStatementInRange (statement.Origin expression) = IsExpressionInRange expression
IsStatementInRange (statement.Equate label expression) = IsExpressionInRange expression
IsStatementInRange (statement.Constant label marked constant) = IsConstantInRange constant
IsStatementInRange (statement.Area label positions) = IsPositiveInRange positions
IsStatementInRange (statement.End start labelled) = IfSome start IsExpressionInRange
IsStatementInRange (statement.Instruction label instruction) = IsInstructionInRange instruction
