-- for `instructions_are_decoded`: a row of the mnemonics suits its meaning, in each of its forms
use Rattle.std.proofs.Common.{◌≡◌, ℕ, ◌+◌, ◌*◌, ◌≤◌, inl, inr, true, false, ◌&&◌, leb, Option, Some, None, refl, sym, ◌∙◌, ap, subst, arith}
use Rattle.std.specs.Prelude.{⊤, nat_lt, is_some, option_map, unwrap_or}
use Rattle.std.proofs.lemmas.Bool.{leb-true}
use Rattle.machine.specs.Instructions.{is_form}
use Rattle.machine.specs.Operations.{Last, says_nothing, Form, row_of, form_among, form_of, meant}
use Rattle.machine.specs.declared.named.Operation.{Operation}
use Rattle.machine.proofs.FormTables.{IsFormed, formed, form_is}
use Rattle.machine.specs.declared.named.Modifier as modifier
use Rattle.autocoder_statements.specs.Mnemonics.{code_of, or_else, mnemonic_of, instruction_with, present, instruction_length, IsAmong}
use Rattle.autocoder_statements.specs.Operands.{is_modifier}
use Rattle.autocoder_statements.specs.declared.operand_forms.OperandForm.{OperandForm}
use Rattle.autocoder_statements.specs.declared.operand_forms.OperandForm.TheVariants.{Empty, Modifier, One, OneAndModifier, Two, TwoAndModifier}
use Rattle.autocoder_statements.specs.declared.modifiers.Modifiers.{Modifiers}
use Rattle.autocoder_statements.specs.declared.operands.Operand.{Operand}
use Rattle.autocoder_statements.specs.declared.operands.Operands.{Operands}
use Rattle.autocoder_statements.specs.declared.operand_forms.OperandForms.{OperandForms}
use Rattle.autocoder_statements.specs.declared.operations.Instruction.{Instruction}
use Rattle.autocoder_laws.specs.Meanings.{Meaning}
use Rattle.autocoder_laws.specs.Instructions.{IsOfForm, IsAllowed, address_count, last_characters}
use Rattle.autocoder_laws.proofs.DecodingLemmas.{longest}
use Rattle.autocoder_statements.proofs.Tests.{both}

-- a last character says the same to the machine as it means
pub record Agrees (m : Meaning) (says : Last) (last : ℕ) : Type 0 where
  pub modifier : modifier.Modifier
  pub read : meant says last ≡ Some modifier
  pub meant : m.says last ≡ Some modifier

abbrev pub AgreesBy : Meaning → Last → Option ℕ → Type 0
AgreesBy m says None = (last : ℕ) → Agrees m says last
AgreesBy m says (Some code) = Agrees m says code

-- an instruction suits a meaning
pub record Suits (m : Meaning) (spelled : Instruction) : Type 0 where
  pub formed : IsFormed spelled.operation (instruction_length spelled)
  pub operation : formed.row.operation ≡ m.operation
  pub few : instruction_length spelled ≤ longest spelled.operation
  pub last : AgreesBy m formed.form.last spelled.modifier

-- ---- a row, by what computes

abbrev pub Entry : Type 0
Entry = ℕ × Option ℕ × OperandForms

-- how many characters an instruction has by its form and the fixed last character
abbrev count_by : ℕ → Option Modifiers → Option ℕ → ℕ
count_by addresses (Some modifiers) fixed = 2 + 3 * addresses
count_by addresses None (Some glyph) = 2 + 3 * addresses
count_by addresses None None = 1 + 3 * addresses

-- what the last character says in the form of so many characters
abbrev last_of : ℕ → ℕ → Last
last_of first count = unwrap_or (option_map (λ (form : Form). form.last) (form_of first count)) says_nothing

abbrev LastFits : Meaning → Last → Option Modifiers → Option ℕ → Type 0
LastFits m says (Some modifiers) fixed = (code : ℕ) → is_modifier modifiers code ≡ true → Agrees m says code
LastFits m says None (Some glyph) = Agrees m says (code_of glyph)
LastFits m says None None = (last : ℕ) → Agrees m says last

abbrev FormFits : Entry → Meaning → OperandForm → Type 0
FormFits row m form =
    let count = count_by (address_count form) (last_characters form) row.1 in
    ((is_form (code_of row.0) count && leb count (longest (code_of row.0))) ≡ true)
    × LastFits m (last_of (code_of row.0) count) (last_characters form) row.1

abbrev MayFit : Entry → Meaning → Option OperandForm → Type 0
MayFit row m None = ⊤
MayFit row m (Some form) = FormFits row m form

-- a character names this operation
abbrev Names : ℕ → Operation → Type 0
Names code operation = option_map (λ row. row.operation) (row_of code) ≡ Some operation

abbrev pub RowFits : Entry → Meaning → Type 0
RowFits row m =
    Names (code_of row.0) m.operation × FormFits row m row.2.form × MayFit row m row.2.other × MayFit row m row.2.third

-- ---- each instruction of the row

some_present : {A : Type 0} (x : Option A) → is_some x ≡ true → present x ≡ 1
some_present None e = absurd (cc)
some_present (Some a) e = refl

none_present : {A : Type 0} (x : Option A) → is_some x ≡ false → present x ≡ 0
none_present None e = refl
none_present (Some a) e = absurd (cc)

-- a form's addresses are all there
addresses : (form : OperandForm) (first second : Option Operand) → is_some first ≡ nat_lt 0 (address_count form) → is_some second ≡ nat_lt 1 (address_count form) →
    present first + present second ≡ address_count form
addresses Empty first second e f = let a = none_present first e in let b = none_present second f in omega arith
addresses (Modifier modifiers) first second e f = let a = none_present first e in let b = none_present second f in omega arith
addresses (One kind) first second e f = let a = some_present first e in let b = none_present second f in omega arith
addresses (OneAndModifier kind modifiers) first second e f = let a = some_present first e in let b = none_present second f in omega arith
addresses (Two kind other) first second e f = let a = some_present first e in let b = some_present second f in omega arith
addresses (TwoAndModifier kind other modifiers) first second e f = let a = some_present first e in let b = some_present second f in omega arith

counted : (addresses : ℕ) (lasts : Option Modifiers) (fixed last : Option ℕ) → IsAllowed lasts last →
    1 + 3 * addresses + present (or_else last (option_map code_of fixed)) ≡ count_by addresses lasts fixed
counted addresses (Some modifiers) fixed (Some code) h = omega arith
counted addresses (Some modifiers) fixed None h = absurd h
counted addresses None fixed (Some code) h = absurd h
counted addresses None (Some glyph) None h = omega arith
counted addresses None None None h = omega arith

agrees : (m : Meaning) (says : Last) (lasts : Option Modifiers) (fixed last : Option ℕ) → LastFits m says lasts fixed → IsAllowed lasts last →
    AgreesBy m says (or_else last (option_map code_of fixed))
agrees m says (Some modifiers) fixed (Some code) fits h = fits code h
agrees m says (Some modifiers) fixed None fits h = absurd h
agrees m says None fixed (Some code) fits h = absurd h
agrees m says None (Some glyph) None fits h = fits
agrees m says None None None fits h = fits

in_form : (row : Entry) (m : Meaning) (form : OperandForm) → Names (code_of row.0) m.operation → FormFits row m form →
    (operands : Operands) → IsOfForm form operands → Suits m (instruction_with (mnemonic_of row) operands)
in_form row m form e fits operands h =
    let count = count_by (address_count form) (last_characters form) row.1 in
    let tested = both (is_form (code_of row.0) count) (leb count (longest (code_of row.0))) fits.0 in
    let f : IsFormed (code_of row.0) count = formed (code_of row.0) count tested.0 in
    let few : count ≤ longest (code_of row.0) = leb-true _ _ tested.1 in
    let found : present operands.first + present operands.second ≡ address_count form = addresses form operands.first operands.second h.first h.second in
    let last : 1 + 3 * address_count form + present (or_else operands.modifier (option_map code_of row.1)) ≡ count =
    counted (address_count form) (last_characters form) row.1 operands.modifier h.last in
    let same : instruction_length (instruction_with (mnemonic_of row) operands) ≡ count = omega arith in
    let says : last_of (code_of row.0) count ≡ f.form.last = ap (λ found. unwrap_or (option_map (λ (form : Form). form.last) found) says_nothing) (form_is (code_of row.0) count f) in
    let named : Some f.row.operation ≡ Some m.operation = ap (option_map (λ row. row.operation)) (sym f.named) ∙ e in
    record {
      formed = record { row = f.row; form = f.form; named = f.named; formed = ap (form_among f.row.forms) same ∙ f.formed };
      operation = cc;
      few = omega arith;
      last = subst (λ (l : Last). AgreesBy m l (or_else operands.modifier (option_map code_of row.1))) says
          (agrees m (last_of (code_of row.0) count) (last_characters form) row.1 operands.modifier fits.1 h.last);
    }

may_suit : (row : Entry) (m : Meaning) (other : Option OperandForm) (form : OperandForm) → Names (code_of row.0) m.operation → MayFit row m other → other ≡ Some form →
    (operands : Operands) → IsOfForm form operands → Suits m (instruction_with (mnemonic_of row) operands)
may_suit row m None form e fits same operands h = absurd (cc)
may_suit row m (Some there) form e fits same operands h =
    let found : there ≡ form = cc in
    in_form row m form e (subst (FormFits row m) found fits) operands h

pub suits : (row : Entry) (m : Meaning) → RowFits row m → (form : OperandForm) → IsAmong row.2 form → (operands : Operands) → IsOfForm form operands → Suits m (instruction_with (mnemonic_of row) operands)
suits row m fits form (inl same) operands h = in_form row m form fits.0 (subst (FormFits row m) same fits.1) operands h
suits row m fits form (inr (inl same)) operands h = may_suit row m row.2.other form fits.0 fits.2 same operands h
suits row m fits form (inr (inr same)) operands h = may_suit row m row.2.third form fits.0 fits.3 same operands h
