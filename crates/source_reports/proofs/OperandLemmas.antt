-- the operands of an instruction: how each was read, and where
use Rattle.std.proofs.Common.{◌≡◌, ℕ, ◌+◌, Bool, true, false, List, [], ◌∷◌, drop, Option, Some, None, if◌then◌else◌, refl, sym, ◌∙◌, ap, subst}
use Rattle.std.specs.Option.{option_map}
use Rattle.std.proofs.lemmas.Option.{option_and_then_some}
use Rattle.std.proofs.lemmas.List.{drop-drop}
use Rattle.autocoder_statements.specs.Characters.{run, begins, begins_with_letter, is_ended}
use Rattle.autocoder_statements.specs.Constants.{literal}
use Rattle.autocoder_statements.specs.Expressions.{number, base, expression, address}
use Rattle.autocoder_statements.specs.Mnemonics.{or_else, operands_if, operands_in, instruction, instruction_with}
use Rattle.autocoder_statements.specs.Operands.{begins_literal, operand, next_operand, operands, with_modifier, without_modifier, modifier, next_modifier}
use Rattle.autocoder_statements.specs.declared.operand_forms.OperandForm.{OperandForm}
use Rattle.autocoder_statements.specs.declared.operand_forms.OperandForm.TheVariants.{Empty, Modifier, One, OneAndModifier, Two, TwoAndModifier}
use Rattle.autocoder_statements.specs.declared.operand_forms.OperandForms.{OperandForms}
use Rattle.autocoder_statements.specs.declared.expressions.Address as expressions
use Rattle.autocoder_statements.specs.declared.operand_kinds.OperandKind.{OperandKind}
use Rattle.autocoder_statements.specs.declared.operand_kinds.OperandKind.TheVariants.{Branch, Field}
use Rattle.autocoder_statements.specs.declared.operands.Operand.{Operand}
use Rattle.autocoder_statements.specs.declared.operands.Operand.TheVariants.{Address, Literal}
use Rattle.autocoder_statements.specs.declared.operands.Operands.{Operands}
use Rattle.autocoder_statements.specs.declared.operations.Mnemonic.{Mnemonic}
use Rattle.autocoder_statements.specs.declared.operations.Instruction.{Instruction}
use Rattle.autocoder_statements.proofs.Found.{some_if, mapped}
use Rattle.source_reports.specs.Places.{kind_of, length_in}

-- ---- an operand is read again by its own kind

pub no_text : (kind : OperandKind) → operand kind [] ≡ None
unfolding operand address expression base number run begins begins_with_letter
no_text Branch = refl
no_text Field = refl

-- an address that was read, as an operand
abbrev as_address : expressions.Address × ℕ → Operand × ℕ
as_address found = (Address found.0, found.1)

-- a literal that was read, as an operand
abbrev as_literal : List ℕ × ℕ → Operand × ℕ
as_literal found = (Literal found.0, found.1)

-- an operand that was read behind a comma
abbrev behind : Operand × ℕ → Operand × ℕ
behind found = (found.0, 1 + found.1)

by_address : (text : List ℕ) (first : Operand) (count : ℕ)
    → option_map as_address (address text) ≡ Some (first, count)
    → operand (kind_of first) text ≡ Some (first, count)
unfolding operand
by_address text (Address found) count read = read
by_address text (Literal found) count read =
    let was = mapped as_address (address text) (Literal found, count) read in
    let kinds : Address was.0.0 ≡ Literal found = ap (λ (o : Operand × ℕ). o.0) was.2 in absurd (cc)

by_literal : (text : List ℕ) (first : Operand) (count : ℕ) → begins_literal text ≡ true
    → option_map as_literal (literal text) ≡ Some (first, count)
    → operand (kind_of first) text ≡ Some (first, count)
unfolding operand
by_literal text (Address found) count starts read =
    let was = mapped as_literal (literal text) (Address found, count) read in
    let kinds : Literal was.0.0 ≡ Address found = ap (λ (o : Operand × ℕ). o.0) was.2 in absurd (cc)
by_literal text (Literal found) count starts read = rw starts read

by_start : (text : List ℕ) (first : Operand) (count : ℕ) (starts : Bool)
    → begins_literal text ≡ starts
    → (if starts then option_map as_literal (literal text)
    else option_map as_address (address text)) ≡ Some (first, count)
    → operand (kind_of first) text ≡ Some (first, count)
by_start text first count true starts read = by_literal text first count starts read
by_start text first count false starts read = by_address text first count read

pub read_again : (kind : OperandKind) (text : List ℕ) (first : Operand) (count : ℕ)
    → operand kind text ≡ Some (first, count) → operand (kind_of first) text ≡ Some (first, count)
unfolding operand
read_again Branch text first count read = by_address text first count read
read_again Field text first count read =
    by_start text first count (begins_literal text) refl read

-- so its length is as it was read
length_read : (kind : OperandKind) (text : List ℕ) (first : Operand) (count : ℕ)
    → operand kind text ≡ Some (first, count) → length_in text first ≡ count
unfolding length_in
length_read kind text first count read = rw (read_again kind text first count read) refl

-- ---- the operands of an instruction

-- an operand that a text begins with
pub record IsOperand (text : List ℕ) (said : Operand) : Type 0 where
  pub kind : OperandKind
  pub count : ℕ
  pub read : operand kind text ≡ Some (said, count)

-- an operand, and another one behind it and a comma
abbrev pub ArePair : List ℕ → Operand → Operand → Type 0
ArePair text first second =
    IsOperand text first × IsOperand (drop (length_in text first + 1) text) second

-- the operands of a field were read there, the second one behind the first
abbrev pub AreRead : List ℕ → Option Operand → Option Operand → Type 0
AreRead text None None = Unit {0}
AreRead text None (Some second) = ⊥
AreRead text (Some first) None = IsOperand text first
AreRead text (Some first) (Some second) = ArePair text first second

one_read : (kind : OperandKind) (text : List ℕ) (one : Operand × ℕ) → operand kind text ≡ Some one
    → IsOperand text one.0
one_read kind text one read = record { kind = kind; count = one.1; read = read }

pair_read : (kind other : OperandKind) (text : List ℕ) (one two : Operand × ℕ)
    → operand kind text ≡ Some one → next_operand other (drop one.1 text) ≡ Some two
    → ArePair text one.0 two.0
unfolding next_operand
pair_read kind other text one two read next =
    (one_read kind text one read, by_test (begins (44 ∷ []) (drop one.1 text)) next)
  where
    from : drop (length_in text one.0 + 1) text ≡ drop 1 (drop one.1 text)
    from = ap (λ n. drop (n + 1) text) (length_read kind text one.0 one.1 read)
        ∙ sym (drop-drop 1 one.1 text)

    by_test : (test : Bool) → (if test then option_map behind
        (operand other (drop 1 (drop one.1 text))) else None) ≡ Some two
        → IsOperand (drop (length_in text one.0 + 1) text) two.0
    by_test true some =
        let was = mapped behind (operand other (drop 1 (drop one.1 text))) two some in
        let second : was.0.0 ≡ two.0 = ap (λ (o : Operand × ℕ). o.0) was.2 in
        record {
          kind = other;
          count = was.0.1;
          read = ap (operand other) from ∙ was.1
              ∙ ap (λ (o : Operand). Some (o, was.0.1)) second;
        }
    by_test false some = absurd (cc)

-- the same operands under other names
as_found : (text : List ℕ) (made found : Operands) → made ≡ found
    → AreRead text made.first made.second → AreRead text found.first found.second
as_found text made found same read =
    subst (λ (o : Operands). AreRead text o.first o.second) same read

unmodified : (text : List ℕ) (first second : Option Operand) (rest : List ℕ) (found : Operands)
    → without_modifier first second rest ≡ Some found → AreRead text first second
    → AreRead text found.first found.second
unmodified text first second rest found said read =
    as_found text _ found (some_if (is_ended rest) _ found said).1 read

modified : (text : List ℕ) (first second : Option Operand) (code : Option ℕ) (found : Operands)
    → option_map (with_modifier first second) code ≡ Some found → AreRead text first second
    → AreRead text found.first found.second
modified text first second code found said read =
    let was = mapped (with_modifier first second) code found said in
    as_found text (with_modifier first second was.0) found was.2 read

by_form : (form : OperandForm) (text : List ℕ) (found : Operands)
    → operands form text ≡ Some found → AreRead text found.first found.second
unfolding operands
by_form Empty text found said = unmodified text None None text found said tt
by_form (Modifier modifiers) text found said =
    modified text None None (modifier modifiers text) found said tt
by_form (One kind) text found said =
    option_and_then_some _ (operand kind text) found said (λ one read rest.
    unmodified text (Some one.0) None (drop one.1 text) found rest (one_read kind text one read))
by_form (OneAndModifier kind modifiers) text found said =
    option_and_then_some _ (operand kind text) found said (λ one read rest.
    modified text (Some one.0) None (next_modifier modifiers (drop one.1 text)) found rest
    (one_read kind text one read))
by_form (Two kind other) text found said =
    option_and_then_some _ (operand kind text) found said (λ one read rest.
    option_and_then_some _ (next_operand other (drop one.1 text)) found rest (λ two next last.
    unmodified text (Some one.0) (Some two.0) (drop two.1 (drop one.1 text)) found last
    (pair_read kind other text one two read next)))
by_form (TwoAndModifier kind other modifiers) text found said =
    option_and_then_some _ (operand kind text) found said (λ one read rest.
    option_and_then_some _ (next_operand other (drop one.1 text)) found rest (λ two next last.
    modified text (Some one.0) (Some two.0)
    (next_modifier modifiers (drop two.1 (drop one.1 text))) found last
    (pair_read kind other text one two read next)))

by_form_if : (form : Option OperandForm) (text : List ℕ) (found : Operands)
    → operands_if form text ≡ Some found → AreRead text found.first found.second
by_form_if None text found said = absurd (cc)
by_form_if (Some form) text found said = by_form form text found said

either_of : {A P : Type 0} (one other : Option A) (x : A) → or_else one other ≡ Some x
    → (one ≡ Some x → P) → (other ≡ Some x → P) → P
either_of None other x is by_one by_other = by_other is
either_of (Some y) other x is by_one by_other = by_one is

by_forms : (forms : OperandForms) (text : List ℕ) (found : Operands)
    → operands_in forms text ≡ Some found → AreRead text found.first found.second
unfolding operands_in
by_forms forms text found said =
    either_of (operands forms.form text) _ found said (by_form forms.form text found)
    (λ rest. either_of (operands_if forms.other text) _ found rest
    (by_form_if forms.other text found) (by_form_if forms.third text found))

-- the operands of an instruction were read in its field
pub by_mnemonic : (mnemonic : Mnemonic) (text : List ℕ) (spelled : Instruction)
    → instruction mnemonic text ≡ Some spelled → AreRead text spelled.first spelled.second
unfolding instruction
by_mnemonic mnemonic text spelled said =
    let was = mapped (instruction_with mnemonic) (operands_in mnemonic.forms text) spelled said in
    subst (λ (i : Instruction). AreRead text i.first i.second) was.2
    (by_forms mnemonic.forms text was.0 was.1)
