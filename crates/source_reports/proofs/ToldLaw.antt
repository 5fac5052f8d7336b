-- for the laws of the operations and the operands that a report tells
use Rattle.std.proofs.Common.{◌≡◌, ℕ, ◌≤◌, ◌==◌, Bool, true, false, List, [], Option, Some, None, if◌then◌else◌, refl, sym, ◌∙◌, ap, arith}
use Rattle.std.specs.Option.{option_map}
use Rattle.std.specs.List.{count_by, position}
use Rattle.std.proofs.lemmas.Bool.{eqb-true}
use Rattle.std.proofs.lemmas.List.Quantifiers.{position-Some}
use Rattle.std.proofs.lemmas.Option.{same_Some}
use Rattle.cards.specs.declared.decks.Card.{Card}
use Rattle.autocoder_statements.specs.Laws.{names}
use Rattle.autocoder_statements.specs.Mnemonics.{orders, mnemonics, entry, mnemonic_of, operation_named}
use Rattle.autocoder_statements.specs.declared.operand_forms.OperandForms.{OperandForms}
use Rattle.autocoder_statements.specs.Statements.{operand_field, operation_of}
use Rattle.autocoder_statements.specs.declared.operations.Operation.{Operation}
use Rattle.autocoder_statements.specs.declared.operations.Operation.TheVariants as operation
use Rattle.source_reports.specs.ExpectedOperands.{expected_text}
use Rattle.source_reports.specs.OperandHints.{card_cause, column_by, count_by_cause, wrong_column}
use Rattle.source_reports.specs.OperandStops.{stop_of}
use Rattle.source_reports.specs.OperationNames.{is_near, name_at, near_in}
use Rattle.source_reports.specs.ToldOperations.{IsOnlyNearName, AreFormsOfRow, IsCaretAtStop}
use Rattle.source_reports.specs.declared.operand_causes.Cause.{Cause}
use Rattle.source_reports.proofs.NearLaw.{only_one}

-- ---- a name that is nearly the same

at_index : (field name : List ℕ) (index : ℕ) → count_by (is_near field) names ≡ 1
    → position (is_near field) names ≡ Some index → name_at names index ≡ name
    → IsOnlyNearName field name
at_index field name index one at is =
    let known = position-Some (is_near field) names index [] at in
    record {
      index = index;
      within = known.0;
      listed = is;
      near = ap (is_near field) (sym is) ∙ known.1;
      only = λ k below near. only_one (is_near field) names index k [] one at below near;
    }

by_position : (field name : List ℕ) (found : Option ℕ) → count_by (is_near field) names ≡ 1
    → position (is_near field) names ≡ found → option_map (name_at names) found ≡ Some name
    → IsOnlyNearName field name
by_position field name None one at e = absurd (cc)
by_position field name (Some index) one at e = at_index field name index one at (same_Some _ _ e)

pub near_name_is_only : (field name : List ℕ) → near_in names field ≡ Some name
    → IsOnlyNearName field name
unfolding near_in
near_name_is_only field name e = by_test (count_by (is_near field) names == 1) refl e
  where
    by_test : (test : Bool) → (count_by (is_near field) names == 1) ≡ test
        → (if test then option_map (name_at names) (position (is_near field) names) else None)
        ≡ Some name → IsOnlyNearName field name
    by_test true one is =
        by_position field name (position (is_near field) names) (eqb-true _ _ one) refl is
    by_test false one is = absurd (cc)

-- ---- the forms of an operation

pub forms_are_of_row : (word : List ℕ) (row : ℕ × Option ℕ × OperandForms)
    → entry orders word ≡ None → entry mnemonics word ≡ Some row → AreFormsOfRow word row
unfolding operation_named expected_text
forms_are_of_row word row order mnemonic = record {
  operation = operation.Instruction (mnemonic_of row);
  named = rw (order, mnemonic) refl;
  told = refl;
}

-- ---- the caret under an operand

no_farther : (wrong : Option Cause) (count : ℕ) → count_by_cause wrong count ≤ count
no_farther None count = omega arith
no_farther (Some cause) count = omega arith

pub caret_at_stop : (card : Card) (known : Operation) → operation_of card ≡ Some known
    → IsCaretAtStop card known
unfolding wrong_column
caret_at_stop card known is =
    let stop = stop_of known (operand_field card) in
    let caret : column_by card (operation_of card) ≡ column_by card (Some known) =
    ap (column_by card) is in
    omega (arith, caret, no_farther (card_cause card known) stop.count)
