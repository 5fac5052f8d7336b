-- what a card says, and the texts that it was read from
use Rattle.std.proofs.Common.{◌≡◌, ℕ, ◌==◌, Bool, true, false, ◌&&◌, ◌||◌, List, drop, Option, Some, None, Result, Ok, Err, if◌then◌else◌, ◌∙◌, ap, subst}
use Rattle.std.specs.Option.{option_map}
use Rattle.cards.specs.declared.decks.Card.{Card}
use Rattle.autocoder_statements.specs.Characters.{is_ended}
use Rattle.autocoder_statements.specs.Constants.{constant}
use Rattle.autocoder_statements.specs.Expressions.{positive, expression}
use Rattle.autocoder_statements.specs.Mnemonics.{instruction}
use Rattle.autocoder_statements.specs.Statements.{◌>>=◌, label_field, operation_field, operand_field, is_comment, is_broken, word_run, operation_in, or_fault, must_label, may_label, may_not_label, whole, size, start, statement_of, statement_on}
use Rattle.autocoder_statements.specs.declared.expressions.Expression.{Expression}
use Rattle.autocoder_statements.specs.declared.faults.StatementFault.{StatementFault}
use Rattle.autocoder_statements.specs.declared.faults.StatementFault.TheVariants as fault
use Rattle.autocoder_statements.specs.declared.operations.Operation.{Operation}
use Rattle.autocoder_statements.specs.declared.operations.Operation.TheVariants as operation
use Rattle.autocoder_statements.specs.declared.reading.Statement.{Statement}
use Rattle.autocoder_statements.specs.declared.reading.Statement.TheVariants as statement
use Rattle.autocoder_statements.proofs.Found.{some_if, mapped, bound, is_found}
use Rattle.autocoder_layout.specs.Source.{Line, further, is_control, line_on}
use Rattle.source_reports.proofs.OperandLemmas.{AreRead, by_mnemonic}

-- an expression that a text begins with
abbrev pub IsExpression : List ℕ → Expression → Type 0
IsExpression text said = (count : ℕ) × (expression text ≡ Some (said, count))

-- the operands of a statement were read in this field
abbrev pub IsReadFrom : List ℕ → Statement → Type 0
IsReadFrom field (statement.Origin said) = IsExpression field said
IsReadFrom field (statement.Equate label said) = IsExpression field said
IsReadFrom field (statement.End (Some said) labelled) = IsExpression field said
IsReadFrom field (statement.Instruction label spelled) = AreRead field spelled.first spelled.second
IsReadFrom field other = Unit {0}

-- the same of a line, which may be a fault
abbrev pub IsLineFrom : List ℕ → Line → Type 0
IsLineFrom field (Ok said) = IsReadFrom field said
IsLineFrom field (Err reason) = Unit {0}

-- ---- what takes a whole field

whole_read : {A : Type 0} (field : List ℕ) (found : Option (A × ℕ)) (said : A)
    → whole field found ≡ Some said → (count : ℕ) × (found ≡ Some (said, count))
unfolding whole
whole_read field None said is = absurd (cc)
whole_read field (Some found) said is =
    let same = (some_if (is_ended (drop found.1 field)) found.0 said is).1 in
    (found.1, ap (λ a. Some (a, found.1)) same)

start_read : (field : List ℕ) (said : Option Expression) (labelled : Bool)
    → start field ≡ Some said → IsReadFrom field (statement.End said labelled)
unfolding start
start_read field None labelled is = tt
start_read field (Some said) labelled is = by_test (is_ended field) is
  where
    by_test : (test : Bool) → (if test then Some None
        else option_map Some (whole field (expression field))) ≡ Some (Some said)
        → IsExpression field said
    by_test true e = absurd (cc)
    by_test false e =
        let was = mapped Some (whole field (expression field)) (Some said) e in
        let same : was.0 ≡ said = cc in
        whole_read field (expression field) said (was.1 ∙ ap (λ x. Some x) same)

-- ---- an operation

same_read : (field : List ℕ) (made said : Statement) → made ≡ said → IsReadFrom field made
    → IsReadFrom field said
same_read field made said same read = subst (IsReadFrom field) same read

same_ok : (made said : Statement) → ◌≡◌ {A = Line} (Ok made) (Ok said) → made ≡ said
same_ok made said e = cc

no_label : (label : List ℕ) (made said : Statement) → may_not_label label made ≡ Ok said
    → made ≡ said
unfolding may_not_label
no_label label made said is = by_test (word_run label == 0) is
  where
    by_test : (test : Bool) → (if test then Ok made else Err fault.Label) ≡ Ok said → made ≡ said
    by_test true e = same_ok made said e
    by_test false e = absurd (cc)

by_operation : (o : Operation) (label field : List ℕ) (said : Statement)
    → statement_of o label field ≡ Ok said → IsReadFrom field said
unfolding statement_of
by_operation operation.Job label field said is =
    same_read field statement.Job said (no_label label statement.Job said is) tt
by_operation operation.Control label field said is =
    let was = bound (or_fault fault.Operand (whole field (size field))) _ said is in
    same_read field (statement.Control was.0) said
    (no_label label (statement.Control was.0) said was.2) tt
by_operation operation.Origin label field said is =
    let was = bound (or_fault fault.Operand (whole field (expression field))) _ said is in
    let found = is_found fault.Operand (whole field (expression field)) was.0 was.1 in
    same_read field (statement.Origin was.0) said
    (no_label label (statement.Origin was.0) said was.2)
    (whole_read field (expression field) was.0 found)
by_operation operation.Equate label field said is =
    let was = bound (or_fault fault.Operand (whole field (expression field))) _ said is in
    let found = is_found fault.Operand (whole field (expression field)) was.0 was.1 in
    let named = bound (must_label label) _ said was.2 in
    same_read field (statement.Equate named.0 was.0) said
    (same_ok (statement.Equate named.0 was.0) said named.2)
    (whole_read field (expression field) was.0 found)
by_operation operation.MarkedConstant label field said is =
    let was = bound (or_fault fault.Operand (whole field (constant field))) _ said is in
    let named = bound (may_label label) _ said was.2 in
    same_read field (statement.Constant named.0 true was.0) said
    (same_ok (statement.Constant named.0 true was.0) said named.2) tt
by_operation operation.Constant label field said is =
    let was = bound (or_fault fault.Operand (whole field (constant field))) _ said is in
    let named = bound (may_label label) _ said was.2 in
    same_read field (statement.Constant named.0 false was.0) said
    (same_ok (statement.Constant named.0 false was.0) said named.2) tt
by_operation operation.Area label field said is =
    let was = bound (or_fault fault.Operand (whole field (positive field))) _ said is in
    let named = bound (may_label label) _ said was.2 in
    same_read field (statement.Area named.0 was.0) said
    (same_ok (statement.Area named.0 was.0) said named.2) tt
by_operation operation.End label field said is =
    let was = bound (or_fault fault.Operand (start field)) _ said is in
    let found = is_found fault.Operand (start field) was.0 was.1 in
    same_read field _ said (same_ok _ said was.2) (start_read field was.0 _ found)
by_operation (operation.Instruction mnemonic) label field said is =
    let was = bound (or_fault fault.Operand (instruction mnemonic field)) _ said is in
    let found = is_found fault.Operand (instruction mnemonic field) was.0 was.1 in
    let named = bound (may_label label) _ said was.2 in
    same_read field (statement.Instruction named.0 was.0) said
    (same_ok (statement.Instruction named.0 was.0) said named.2)
    (by_mnemonic mnemonic field was.0 found)

-- ---- a card

by_card : (card : Card) (said : Statement) → statement_on card ≡ Ok said
    → IsReadFrom (operand_field card) said
unfolding statement_on
by_card card said is = by_comment (is_comment card) is
  where
    read : Result Statement StatementFault
    read = or_fault fault.UnknownOperation (operation_in (operation_field card))
        >>= (λ o. statement_of o (label_field card) (operand_field card))

    by_read : read ≡ Ok said → IsReadFrom (operand_field card) said
    by_read e =
        let was = bound (or_fault fault.UnknownOperation (operation_in (operation_field card))) _ said e in
        by_operation was.0 (label_field card) (operand_field card) said was.2

    by_broken : (test : Bool) → (if test then Err fault.BrokenField else read) ≡ Ok said
        → IsReadFrom (operand_field card) said
    by_broken true e = absurd (cc)
    by_broken false e = by_read e

    by_comment : (test : Bool) → (if test then Ok statement.Comment
        else (if is_broken (label_field card) || is_broken (operation_field card)
        then Err fault.BrokenField else read)) ≡ Ok said → IsReadFrom (operand_field card) said
    by_comment true e = same_read (operand_field card) statement.Comment said (same_ok statement.Comment said e) tt
    by_comment false e =
        by_broken (is_broken (label_field card) || is_broken (operation_field card)) e

-- what a card of a source says was read in its operand field
pub by_line : (has_size : Bool) (card : Card) (line : Line) → line_on has_size card ≡ line
    → IsLineFrom (operand_field card) line
unfolding line_on
by_line has_size card (Err reason) is = tt
by_line has_size card (Ok said) is = by_test (has_size && is_control card) is
  where
    no_further : (line : Line) → further line ≡ Ok said → IsReadFrom (operand_field card) said
    no_further (Err fault.BrokenField) e = absurd (cc)
    no_further line e = absurd (cc)

    by_test : (test : Bool) → (if test then further (statement_on card) else statement_on card)
        ≡ Ok said → IsReadFrom (operand_field card) said
    by_test true e = no_further (statement_on card) e
    by_test false e = by_card card said e
