-- for the clause `cards` of `instructions_are_decoded`: the mnemonic and operands of a card
use Rattle.std.proofs.Common.{◌≡◌, ℕ, Bool, true, false, List, [], ◌∷◌, Option, Some, None, Result, Ok, Err, refl, subst, if◌then◌else◌}
use Rattle.std.specs.Prelude.{⊤}
use Rattle.std.specs.Option.{option_map}
use Rattle.cards.specs.declared.decks.Card.{Card}
use Rattle.autocoder_statements.specs.Characters.{begins}
use Rattle.autocoder_statements.specs.Constants.{constant}
use Rattle.autocoder_statements.specs.Expressions.{positive, expression}
use Rattle.autocoder_statements.specs.Mnemonics.{mnemonics, orders, entry, mnemonic_of, or_else, operation_named, instruction}
use Rattle.autocoder_statements.specs.Statements.{◌>>=◌, is_comment, label_field, operation_field, operand_field, operation_in, must_label, may_label, may_not_label, or_fault, whole, size, start, statement_of, statement_on}
use Rattle.autocoder_statements.specs.declared.faults.StatementFault.{StatementFault}
use Rattle.autocoder_statements.specs.declared.faults.StatementFault.TheVariants as fault
use Rattle.autocoder_statements.specs.declared.names.Name.{Name}
use Rattle.autocoder_statements.specs.declared.operations.Instruction.{Instruction}
use Rattle.autocoder_statements.specs.declared.operations.Mnemonic.{Mnemonic}
use Rattle.autocoder_statements.specs.declared.operations.Operation.{Operation}
use Rattle.autocoder_statements.specs.declared.operations.Operation.TheVariants as operation
use Rattle.autocoder_statements.specs.declared.reading.Statement.{Statement}
use Rattle.autocoder_statements.specs.declared.reading.Statement.TheVariants as statement
use Rattle.autocoder_laws.specs.Cards.{mnemonic_on}
use Rattle.autocoder_statements.proofs.Found.{mapped, bound, is_found}
use Rattle.autocoder_laws.proofs.SuitLemmas.{Entry}

abbrev Said : Type 0
Said = Result Statement StatementFault

abbrev is_mnemonic : Operation → Bool
is_mnemonic (operation.Instruction mnemonic) = true
is_mnemonic other = false

-- ---- orders say no instruction

without_label : (field : List ℕ) (said other : Statement) → may_not_label field said ≡ Ok other → said ≡ other
unfolding may_not_label
without_label field said other e = by_test _ e
  where
    by_test : (test : Bool) → (if test then Ok said else Err fault.Label) ≡ Ok other → said ≡ other
    by_test true e = cc
    by_test false e = absurd (cc)

module _ (label field : List ℕ) (name : Option Name) (spelled : Instruction) where
  abbrev said : Statement
  said = statement.Instruction name spelled

  no_instruction : (o : Operation) → is_mnemonic o ≡ false → statement_of o label field ≡ Ok said → ⊥
  unfolding statement_of
  no_instruction operation.Job h e = let same = without_label label statement.Job said e in cc
  no_instruction operation.Control h e =
      let (value, at, more) = bound (or_fault fault.Operand (whole field (size field))) _ said e in
      let same = without_label label (statement.Control value) said more in cc
  no_instruction operation.Origin h e =
      let (value, at, more) = bound (or_fault fault.Operand (whole field (expression field))) _ said e in
      let same = without_label label (statement.Origin value) said more in cc
  no_instruction operation.Equate h e =
      let (value, at, more) = bound (or_fault fault.Operand (whole field (expression field))) _ said e in
      let (own, by, last) = bound (must_label label) _ said more in cc
  no_instruction operation.MarkedConstant h e =
      let (value, at, more) = bound (or_fault fault.Operand (whole field (constant field))) _ said e in
      let (own, by, last) = bound (may_label label) _ said more in cc
  no_instruction operation.Constant h e =
      let (value, at, more) = bound (or_fault fault.Operand (whole field (constant field))) _ said e in
      let (own, by, last) = bound (may_label label) _ said more in cc
  no_instruction operation.Area h e =
      let (value, at, more) = bound (or_fault fault.Operand (whole field (positive field))) _ said e in
      let (own, by, last) = bound (may_label label) _ said more in cc
  no_instruction operation.End h e =
      let (value, at, more) = bound (or_fault fault.Operand (start field)) _ said e in cc
  no_instruction (operation.Instruction mnemonic) h e = absurd (cc)

-- ---- the table of orders has no mnemonic

abbrev AreOrders : List (List ℕ × Operation) → Type 0
AreOrders [] = ⊤
AreOrders (row ∷ rows) = (is_mnemonic row.1 ≡ false) × AreOrders rows

first_is : (row : List ℕ × Operation) (rows : List (List ℕ × Operation)) (word : List ℕ) (o : Operation) → is_mnemonic row.1 ≡ false →
    (entry rows word ≡ Some o → is_mnemonic o ≡ false) → (test : Bool) → begins row.0 word ≡ test → entry (row ∷ rows) word ≡ Some o → is_mnemonic o ≡ false
unfolding entry
first_is row rows word o first later true t e =
    let here : Some row.1 ≡ Some o = rw t at e in
    let same : row.1 ≡ o = cc in
    subst (λ x. is_mnemonic x ≡ false) same first
first_is row rows word o first later false t e = later (rw t at e)

is_order : (rows : List (List ℕ × Operation)) → AreOrders rows → (word : List ℕ) (o : Operation) → entry rows word ≡ Some o → is_mnemonic o ≡ false
unfolding entry
is_order [] all word o e = absurd (cc)
is_order (row ∷ rows) all word o e = first_is row rows word o all.0 (λ later. is_order rows all.1 word o later) (begins row.0 word) refl e

orders_are : AreOrders orders
unfolding orders
orders_are = (refl, (refl, (refl, (refl, (refl, (refl, (refl, (refl, tt))))))))

in_table : (word : List ℕ) (mnemonic : Mnemonic) (order : Option Operation) → entry orders word ≡ order →
    or_else order (option_map (λ row. operation.Instruction (mnemonic_of row)) (entry mnemonics word)) ≡ Some (operation.Instruction mnemonic) →
    (row : Entry) × (entry mnemonics word ≡ Some row) × (mnemonic_of row ≡ mnemonic)
in_table word mnemonic (Some o) at e =
    let order = is_order orders orders_are word o at in
    let same : o ≡ operation.Instruction mnemonic = cc in
    absurd (let wrong : true ≡ false = subst (λ x. is_mnemonic x ≡ false) same order in cc)
in_table word mnemonic None at e =
    let (row, found, same) = mapped (λ row. operation.Instruction (mnemonic_of row)) (entry mnemonics word) _ e in
    (row, found, cc)

named_by : (word : List ℕ) (mnemonic : Mnemonic) → operation_named word ≡ Some (operation.Instruction mnemonic) →
    (row : Entry) × (entry mnemonics word ≡ Some row) × (mnemonic_of row ≡ mnemonic)
unfolding operation_named
named_by word mnemonic e = in_table word mnemonic (entry orders word) refl e

-- ---- what a card says

pub record IsOfRow (card : Card) (spelled : Instruction) : Type 0 where
  pub row : Entry
  pub named : entry mnemonics (mnemonic_on card) ≡ Some row
  pub made : instruction (mnemonic_of row) (operand_field card) ≡ Some spelled

of_mnemonic : (card : Card) (label : Option Name) (spelled : Instruction) (mnemonic : Mnemonic) → operation_in (operation_field card) ≡ Some (operation.Instruction mnemonic) →
    statement_of (operation.Instruction mnemonic) (label_field card) (operand_field card) ≡ Ok (statement.Instruction label spelled) → IsOfRow card spelled
unfolding operation_in statement_of
of_mnemonic card label spelled mnemonic at e =
    let (row, named, same) = named_by (mnemonic_on card) mnemonic at in
    let (found, there, more) = bound (or_fault fault.Operand (instruction mnemonic (operand_field card))) _ _ e in
    let (own, by, last) = bound (may_label (label_field card)) _ _ more in
    let first : instruction mnemonic (operand_field card) ≡ Some found = is_found fault.Operand _ found there in
    record { row = row; named = named; made = rw same (cc) }

of_operation : (card : Card) (label : Option Name) (spelled : Instruction) (o : Operation) (mnemonic : Bool) → is_mnemonic o ≡ mnemonic → operation_in (operation_field card) ≡ Some o →
    statement_of o (label_field card) (operand_field card) ≡ Ok (statement.Instruction label spelled) → IsOfRow card spelled
of_operation card label spelled o false h at e = absurd (no_instruction (label_field card) (operand_field card) label spelled o h e)
of_operation card label spelled (operation.Instruction mnemonic) true h at e = of_mnemonic card label spelled mnemonic at e
of_operation card label spelled o true h at e = absurd (cc)

of_found : (card : Card) (label : Option Name) (spelled : Instruction) (found : Option Operation) → operation_in (operation_field card) ≡ found →
    (or_fault fault.UnknownOperation found >>= (λ o. statement_of o (label_field card) (operand_field card))) ≡ Ok (statement.Instruction label spelled) → IsOfRow card spelled
of_found card label spelled None at e = absurd (cc)
of_found card label spelled (Some o) at e = of_operation card label spelled o (is_mnemonic o) refl at e

pub of_card : (card : Card) (label : Option Name) (spelled : Instruction) → statement_on card ≡ Ok (statement.Instruction label spelled) → IsOfRow card spelled
unfolding statement_on
of_card card label spelled e = by_tests (is_comment card) _ e
  where
    by_tests : (comment broken : Bool) →
        (if comment then Ok statement.Comment
        else (if broken then Err fault.BrokenField
        else (or_fault fault.UnknownOperation (operation_in (operation_field card)) >>= (λ o. statement_of o (label_field card) (operand_field card)))))
        ≡ Ok (statement.Instruction label spelled) → IsOfRow card spelled
    by_tests true broken e = absurd (cc)
    by_tests false true e = absurd (cc)
    by_tests false false e = of_found card label spelled (operation_in (operation_field card)) refl e
