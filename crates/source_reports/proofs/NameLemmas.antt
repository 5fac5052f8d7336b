-- for the law of unknown names: what is told of a card that names what is not defined
use Rattle.std.proofs.Common.{◌≡◌, ℕ, ◌+◌, ◌-◌, Bool, true, false, ◌||◌, List, take, drop, Option, Some, None, Ok, if◌then◌else◌, refl, ◌∙◌, ap, subst, arith}
use Rattle.std.specs.Prelude.{nat_lt}
use Rattle.std.specs.Option.{option_map}
use Rattle.std.proofs.lemmas.Option.{option_and_then_some, same_Some}
use Rattle.cards.specs.declared.decks.Card.{Card}
use Rattle.core_store.specs.Storage.{positions_of}
use Rattle.autocoder_statements.specs.Characters.{begins_with_letter}
use Rattle.autocoder_statements.specs.Expressions.{number, base, adjustment, expression, index, address, address_with}
use Rattle.autocoder_statements.specs.Names.{name_run, name_of}
use Rattle.autocoder_statements.specs.Operands.{operand}
use Rattle.autocoder_statements.specs.Statements.{operand_field}
use Rattle.autocoder_statements.specs.declared.expressions.Adjustment.{Adjustment}
use Rattle.autocoder_statements.specs.declared.expressions.Adjustment.TheVariants.{Nothing, Plus, Minus}
use Rattle.autocoder_statements.specs.declared.expressions.Address as expressions
use Rattle.autocoder_statements.specs.declared.expressions.Base.{Base}
use Rattle.autocoder_statements.specs.declared.expressions.Base.TheVariants.{Number, Name}
use Rattle.autocoder_statements.specs.declared.expressions.Expression.{Expression}
use Rattle.autocoder_statements.specs.declared.names.Name as name
use Rattle.autocoder_statements.specs.declared.operands.Operand.{Operand}
use Rattle.autocoder_statements.specs.declared.operands.Operand.TheVariants.{Address, Literal}
use Rattle.autocoder_statements.specs.declared.operations.Instruction.{Instruction}
use Rattle.autocoder_statements.specs.declared.reading.Statement.TheVariants as statement
use Rattle.autocoder_statements.proofs.Found.{mapped}
use Rattle.autocoder_layout.specs.Layout.{Layout}
use Rattle.autocoder_layout.specs.Names.{address_of, within, base_number, value_with, value_by, value_in}
use Rattle.autocoder_layout.specs.Judging.{expression_in, expressions_of, is_unknown, has_unknown_name, names_unknown}
use Rattle.autocoder_layout.specs.Source.{Line}
use Rattle.autocoder_layout.specs.declared.names.Value.TheVariants.{Outside, At}
use Rattle.autocoder_layout.specs.declared.slots.Slot.{Slot}
use Rattle.source_reports.specs.Carets.{text_at, name_at, IsUnknownTold}
use Rattle.source_reports.specs.UnknownNames.{name_of_base, name_in, name_of_either, unknown_name}
use Rattle.source_reports.specs.Places.{length_in, column_of_second, address_column, unknown_column}
use Rattle.source_reports.proofs.OperandLemmas.{IsOperand, AreRead, read_again}
use Rattle.source_reports.proofs.CardLemmas.{IsExpression, IsLineFrom}

-- ---- the name that a text begins with

-- a text begins with a name
abbrev BeginsWith : List ℕ → name.Name → Type 0
BeginsWith text wanted = name_of (take (name_run text) text) ≡ Some wanted

-- a name that was read, as the base of an expression
abbrev as_name : ℕ → name.Name → Base × ℕ
as_name count wanted = (Name wanted, count)

-- a number that was read, as the base of an expression
abbrev as_number : ℕ × ℕ → Base × ℕ
as_number found = (Number found.0, found.1)

base_named : (text : List ℕ) (found : Base × ℕ) (wanted : name.Name) → base text ≡ Some found
    → found.0 ≡ Name wanted → BeginsWith text wanted
unfolding base
base_named text found wanted read is = by_test (begins_with_letter text) read
  where
    by_test : (test : Bool) → (if test
        then option_map (as_name (name_run text)) (name_of (take (name_run text) text))
        else option_map as_number (number text)) ≡ Some found → BeginsWith text wanted
    by_test true e =
        let was = mapped (as_name (name_run text)) (name_of (take (name_run text) text)) found e in
        let same : Name was.0 ≡ Name wanted = ap (λ (b : Base × ℕ). b.0) was.2 ∙ is in
        let own : was.0 ≡ wanted = cc in
        was.1 ∙ ap (λ w. Some w) own
    by_test false e =
        let was = mapped as_number (number text) found e in
        let same : Number was.0.0 ≡ Name wanted = ap (λ (b : Base × ℕ). b.0) was.2 ∙ is in
        absurd (cc)

expression_named : (text : List ℕ) (said : Expression) (wanted : name.Name)
    → IsExpression text said → said.base ≡ Name wanted → BeginsWith text wanted
unfolding expression
expression_named text said wanted (count, read) is =
    option_and_then_some _ (base text) (said, count) read (λ b read_base rest.
    option_and_then_some _ (adjustment (drop b.1 text)) (said, count) rest (λ a read_adjustment last.
    let made : Expression = record { base = b.0; adjustment = a.0 } in
    let same : made ≡ said = ap (λ (f : Expression × ℕ). f.0) (same_Some _ _ last) in
    base_named text b wanted read_base (ap (λ (e : Expression). e.base) same ∙ is)))

address_read : (text : List ℕ) (found : expressions.Address × ℕ) → address text ≡ Some found
    → IsExpression text found.0.expression
unfolding address
address_read text found read =
    option_and_then_some _ (expression text) found read (λ e read_expression last.
    let same : address_with e.0 e.1 (index (drop e.1 text)) ≡ found = same_Some _ _ last in
    (e.1, read_expression ∙ ap (λ x. Some (x, e.1)) (ap (λ (a : expressions.Address × ℕ). a.0.expression) same)))

-- an address that was read, as an operand
abbrev as_address : expressions.Address × ℕ → Operand × ℕ
as_address found = (Address found.0, found.1)

operand_read : (text : List ℕ) (said : expressions.Address) → IsOperand text (Address said)
    → IsExpression text said.expression
unfolding operand
operand_read text said is =
    let again = read_again is.kind text (Address said) is.count is.read in
    let was = mapped as_address (address text) (Address said, is.count) again in
    let same : Address was.0.0 ≡ Address said = ap (λ (o : Operand × ℕ). o.0) was.2 in
    let own : was.0.0 ≡ said = cc in
    subst (λ (a : expressions.Address). IsExpression text a.expression) own (address_read text was.0 was.1)

-- ---- a name that is not defined

-- the name of a base that is not defined
abbrev IsUndefined : List Slot → Base → Type 0
IsUndefined slots said = (wanted : name.Name) × (said ≡ Name wanted)
    × (address_of wanted slots ≡ None)

known_within : (size n : ℕ) → is_unknown (within size n) ≡ true → ⊥
unfolding within
known_within size n = by_test (nat_lt n size)
  where
    by_test : (test : Bool) → is_unknown (if test then At n else Outside) ≡ true → ⊥
    by_test true e = absurd (cc)
    by_test false e = absurd (cc)

known_with : (size : ℕ) (more : Adjustment) (n : ℕ) → is_unknown (value_with size more n) ≡ true → ⊥
known_with size Nothing n = known_within size n
known_with size (Plus more) n = known_within size (n + more)
known_with size (Minus less) n = by_test (nat_lt n less)
  where
    by_test : (test : Bool)
        → is_unknown (if test then Outside else within size (n - less)) ≡ true → ⊥
    by_test true e = absurd (cc)
    by_test false e = known_within size (n - less) e

undefined_base : (size : ℕ) (slots : List Slot) (more : Adjustment) (said : Base)
    → is_unknown (value_by size more (base_number slots said)) ≡ true → IsUndefined slots said
undefined_base size slots more (Number n) e = absurd (known_with size more n e)
undefined_base size slots more (Name wanted) e = by_address (address_of wanted slots) refl e
  where
    by_address : (found : Option ℕ) → address_of wanted slots ≡ found
        → is_unknown (value_by size more found) ≡ true → IsUndefined slots (Name wanted)
    by_address None is e = (wanted, refl, is)
    by_address (Some n) is e = absurd (known_with size more n e)

-- a value is unknown where the name that it begins with is not defined
pub undefined_value : (size : ℕ) (slots : List Slot) (said : Expression)
    → is_unknown (value_in size slots said) ≡ true → IsUndefined slots said.base
unfolding value_in
undefined_value size slots said e = undefined_base size slots said.adjustment said.base e

-- ---- the operands of a card

-- the name of an expression is not defined, and a text begins with it
abbrev IsNamed : List Slot → Option Expression → List ℕ → Type 0
IsNamed slots said text = (wanted : name.Name) × (name_in said ≡ Some wanted)
    × BeginsWith text wanted × (address_of wanted slots ≡ None)

expression_unknown : (size : ℕ) (slots : List Slot) (said : Expression) (text : List ℕ)
    → is_unknown (value_in size slots said) ≡ true → IsExpression text said
    → IsNamed slots (Some said) text
expression_unknown size slots said text e read =
    let was = undefined_value size slots said e in
    (was.0, ap name_of_base was.1, expression_named text said was.0 read was.1, was.2)

operand_unknown : (size : ℕ) (slots : List Slot) (said : Operand) (text : List ℕ)
    → has_unknown_name size slots (expression_in (Some said)) ≡ true → IsOperand text said
    → IsNamed slots (expression_in (Some said)) text
operand_unknown size slots (Literal characters) text e read = absurd (cc)
operand_unknown size slots (Address said) text e read =
    expression_unknown size slots said.expression text e (operand_read text said read)

first_unknown : (size : ℕ) (slots : List Slot) (first second : Option Operand) (text : List ℕ)
    → has_unknown_name size slots (expression_in first) ≡ true → AreRead text first second
    → IsNamed slots (expression_in first) text
first_unknown size slots None second text e read = absurd (cc)
first_unknown size slots (Some first) None text e read =
    operand_unknown size slots first text e read
first_unknown size slots (Some first) (Some second) text e read =
    operand_unknown size slots first text e read.0

second_unknown : (size : ℕ) (slots : List Slot) (card : Card) (first second : Option Operand)
    → has_unknown_name size slots (expression_in second) ≡ true
    → AreRead (operand_field card) first second
    → IsNamed slots (expression_in second) (text_at card (column_of_second card first second))
second_unknown size slots card first None e read = absurd (cc)
second_unknown size slots card None (Some second) e read = absurd read
second_unknown size slots card (Some first) (Some second) e read =
    let place : length_in (operand_field card) first + 1
    ≡ column_of_second card (Some first) (Some second) - 21 = omega arith in
    subst (λ n. IsNamed slots (expression_in (Some second)) (drop n (operand_field card))) place
    (operand_unknown size slots second (drop (length_in (operand_field card) first + 1) (operand_field card)) e read.1)

-- ---- a card whose names any card may define

either_true : {P : Type 0} (a b : Bool) → (a || b) ≡ true → (a ≡ true → P)
    → (a ≡ false → b ≡ true → P) → P
either_true true b e one other = one refl
either_true false b e one other = other refl e

by_instruction : (layout : Layout) (k : ℕ) (card : Card) (label : Option name.Name)
    (spelled : Instruction) → AreRead (operand_field card) spelled.first spelled.second
    → names_unknown (positions_of layout.source.size) layout.slots (Ok (statement.Instruction label spelled)) ≡ true
    → IsUnknownTold layout k card (Ok (statement.Instruction label spelled))
unfolding names_unknown expressions_of unknown_name unknown_column
by_instruction layout k card label spelled read e =
    either_true (unknown spelled.first) (unknown spelled.second) e by_first by_second
  where
    unknown : Option Operand → Bool
    unknown said = has_unknown_name (positions_of layout.source.size) layout.slots (expression_in said)

    by_first : unknown spelled.first ≡ true
        → IsUnknownTold layout k card (Ok (statement.Instruction label spelled))
    by_first is =
        let was = first_unknown (positions_of layout.source.size) layout.slots spelled.first spelled.second (operand_field card) is read in
        record {
          name = was.0;
          told = ap (λ b. name_of_either b (expression_in spelled.first) (expression_in spelled.second)) is ∙ was.1;
          over_caret = ap (λ b. name_at card (address_column card (Ok (statement.Instruction label spelled)) b (unknown spelled.second) 21)) is ∙ was.2;
          undefined = was.3;
        }

    by_second : unknown spelled.first ≡ false → unknown spelled.second ≡ true
        → IsUnknownTold layout k card (Ok (statement.Instruction label spelled))
    by_second other is =
        let was = second_unknown (positions_of layout.source.size) layout.slots card spelled.first spelled.second is read in
        record {
          name = was.0;
          told = ap (λ b. name_of_either b (expression_in spelled.first) (expression_in spelled.second)) other ∙ was.1;
          over_caret =
              ap (λ b. name_at card (address_column card (Ok (statement.Instruction label spelled)) b (unknown spelled.second) 21)) other
              ∙ ap (λ b. name_at card (address_column card (Ok (statement.Instruction label spelled)) false b 21)) is
              ∙ was.2;
          undefined = was.3;
        }

by_end : (layout : Layout) (k : ℕ) (card : Card) (said : Expression) (labelled : Bool)
    → IsExpression (operand_field card) said
    → names_unknown (positions_of layout.source.size) layout.slots (Ok (statement.End (Some said) labelled)) ≡ true
    → IsUnknownTold layout k card (Ok (statement.End (Some said) labelled))
unfolding names_unknown expressions_of unknown_name unknown_column
by_end layout k card said labelled read e =
    either_true unknown false e by_start (λ other is. absurd (cc))
  where
    unknown : Bool
    unknown = is_unknown (value_in (positions_of layout.source.size) layout.slots said)

    by_start : unknown ≡ true → IsUnknownTold layout k card (Ok (statement.End (Some said) labelled))
    by_start is =
        let was = expression_unknown (positions_of layout.source.size) layout.slots said (operand_field card) is read in
        record {
          name = was.0;
          told = ap (λ b. name_of_either b (Some said) None) is ∙ was.1;
          over_caret = ap (λ b. name_at card (address_column card (Ok (statement.End (Some said) labelled)) b false 21)) is ∙ was.2;
          undefined = was.3;
        }

-- a card with a name that no card defines
pub late_unknown : (layout : Layout) (k : ℕ) (card : Card) (line : Line)
    → IsLineFrom (operand_field card) line
    → names_unknown (positions_of layout.source.size) layout.slots line ≡ true
    → IsUnknownTold layout k card line
unfolding names_unknown expressions_of
late_unknown layout k card (Ok (statement.Instruction label spelled)) read e =
    by_instruction layout k card label spelled read e
late_unknown layout k card (Ok (statement.End (Some said) labelled)) read e =
    by_end layout k card said labelled read e
late_unknown layout k card line read e = absurd (cc)

-- ---- a card whose name an earlier card must define

-- an ORG or an EQU whose name no earlier card defines
abbrev pub IsEarlyUnknown : ℕ → List Slot → Line → Type 0
IsEarlyUnknown size earlier (Ok (statement.Origin said)) =
    is_unknown (value_in size earlier said) ≡ true
IsEarlyUnknown size earlier (Ok (statement.Equate label said)) =
    is_unknown (value_in size earlier said) ≡ true
IsEarlyUnknown size earlier other = ⊥

pub early_unknown : (layout : Layout) (k : ℕ) (card : Card) (line : Line)
    → IsLineFrom (operand_field card) line
    → IsEarlyUnknown (positions_of layout.source.size) (take k layout.slots) line
    → IsUnknownTold layout k card line
unfolding expressions_of unknown_name unknown_column
early_unknown layout k card (Ok (statement.Origin said)) read e =
    let was = expression_unknown (positions_of layout.source.size) (take k layout.slots) said (operand_field card) e read in
    record { name = was.0; told = was.1; over_caret = was.2; undefined = was.3 }
early_unknown layout k card (Ok (statement.Equate label said)) read e =
    let was = expression_unknown (positions_of layout.source.size) (take k layout.slots) said (operand_field card) e read in
    record { name = was.0; told = was.1; over_caret = was.2; undefined = was.3 }
early_unknown layout k card line read e = absurd e
