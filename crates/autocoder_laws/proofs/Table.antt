-- for `instructions_are_decoded`: the table of mnemonics beside that of meanings
use Rattle.std.proofs.Common.{◌≡◌, ℕ, Some, refl}
use Rattle.bcd.specs.Table.{glyph_of}
use Rattle.machine.specs.Branches.{condition_of, test_of}
use Rattle.machine.specs.Instructions.{is_form}
use Rattle.machine.specs.Operations.{says_nothing, names_condition, is_compared, operations, row_of}
use Rattle.machine.specs.declared.branches.Condition.{Condition}
use Rattle.machine.specs.declared.branches.PositionTest.TheVariants.{HasMark}
use Rattle.machine.specs.declared.named.Modifier.TheVariants.{Plain, OnCondition, OnCharacter, OnTest}
use Rattle.machine.specs.declared.named.Operation.{Operation}
use Rattle.machine.specs.declared.named.Operation.TheVariants.{Branch}
use Rattle.autocoder_statements.specs.Mnemonics.{mnemonics, code_of}
use Rattle.autocoder_laws.specs.Meanings.{meanings}
use Rattle.autocoder_laws.proofs.LastCharacters.{switches, tests, orders, pockets}
use Rattle.autocoder_laws.proofs.RowLemmas.{AllFit}
use Rattle.autocoder_laws.proofs.SuitLemmas.{Agrees}

-- what holds of the first row, and what holds of the others
infixr 5 ◌▸◌
abbrev ◌▸◌ : {A B C : Type 0} → A × B → C → A × B × C
row ▸ rows = (row.0, row.1, rows)

-- ---- last characters that say nothing of their own

plain : (operation : Operation) (last : ℕ) → Agrees (record { operation = operation; says = λ code. Some Plain }) says_nothing last
plain operation last = record { modifier = Plain; read = refl; meant = refl }

-- ---- last characters of the mnemonic

condition : (c : Condition) (code : ℕ) → condition_of code ≡ Some c → Agrees (record { operation = Branch; says = λ last. Some (OnCondition c) }) names_condition code
condition c code e = record { modifier = OnCondition c; read = rw e refl; meant = refl }

character : (code : ℕ) → Agrees (record { operation = Branch; says = λ last. Some (OnCharacter last) }) is_compared code
character code = record { modifier = OnCharacter code; read = refl; meant = refl }

-- ---- all rows

pub all_fit : AllFit mnemonics meanings
unfolding mnemonics meanings code_of is_form row_of operations glyph_of condition_of test_of
all_fit =
    (refl, (refl, (refl, plain _), (refl, plain _), (refl, plain _)))
    ▸ (refl, (refl, (refl, plain _), (refl, plain _), (refl, plain _)))
    ▸ (refl, (refl, (refl, plain _), (refl, plain _), (refl, plain _)))
    ▸ (refl, (refl, (refl, plain _), (refl, plain _), (refl, plain _)))
    ▸ (refl, (refl, (refl, plain _), (refl, plain _), tt))
    ▸ (refl, (refl, (refl, plain _), (refl, plain _), tt))
    ▸ (refl, (refl, (refl, plain _), (refl, plain _), tt))
    ▸ (refl, (refl, (refl, plain _), (refl, plain _), tt))
    ▸ (refl, (refl, (refl, plain _), (refl, plain _), tt))
    ▸ (refl, (refl, (refl, plain _), (refl, plain _), tt))
    ▸ (refl, (refl, (refl, plain _), (refl, plain _), tt))
    ▸ (refl, (refl, (refl, plain _), tt, tt))
    ▸ (refl, (refl, (refl, plain _), (refl, plain _), tt))
    ▸ (refl, (refl, (refl, plain _), (refl, plain _), tt))
    ▸ (refl, (refl, (refl, plain _), (refl, plain _), (refl, plain _)))
    ▸ (refl, (refl, (refl, plain _), tt, tt))
    ▸ (refl, (refl, (refl, condition _ _ refl), tt, tt))
    ▸ (refl, (refl, (refl, condition _ _ refl), tt, tt))
    ▸ (refl, (refl, (refl, condition _ _ refl), tt, tt))
    ▸ (refl, (refl, (refl, condition _ _ refl), tt, tt))
    ▸ (refl, (refl, (refl, condition _ _ refl), tt, tt))
    ▸ (refl, (refl, (refl, condition _ _ refl), tt, tt))
    ▸ (refl, (refl, (refl, condition _ _ refl), tt, tt))
    ▸ (refl, (refl, (refl, switches), tt, tt))
    ▸ (refl, (refl, (refl, λ code allowed. character code), tt, tt))
    ▸ (refl, (refl, (refl, tests), tt, tt))
    ▸ (refl, (refl, (refl, record { modifier = OnTest HasMark; read = refl; meant = refl }), tt, tt))
    ▸ (refl, (refl, (refl, plain _), (refl, plain _), tt))
    ▸ (refl, (refl, (refl, plain _), (refl, plain _), tt))
    ▸ (refl, (refl, (refl, plain _), (refl, plain _), tt))
    ▸ (refl, (refl, (refl, plain _), (refl, plain _), tt))
    ▸ (refl, (refl, (refl, plain _), (refl, plain _), tt))
    ▸ (refl, (refl, (refl, plain _), (refl, plain _), tt))
    ▸ (refl, (refl, (refl, plain _), (refl, plain _), tt))
    ▸ (refl, (refl, (refl, orders), tt, tt))
    ▸ (refl, (refl, (refl, pockets), tt, tt))
    ▸ (refl, (refl, (refl, plain _), (refl, plain _), tt))
    ▸ (refl, (refl, (refl, plain _), tt, tt))
    ▸ (refl, (refl, (refl, plain _), tt, tt))
    ▸ (refl, (refl, (refl, plain _), tt, tt))
    ▸ tt
