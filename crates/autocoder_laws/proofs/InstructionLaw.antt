-- for the law `instructions_are_decoded`
use Rattle.std.proofs.Common.{◌≡◌, ℕ, ◌-◌, ◌≤◌, List, Option, Some, None, Ok, refl, sym, ◌∙◌, ap, subst, arith, length}
use Rattle.std.specs.Prelude.{slice_index}
use Rattle.cards.specs.declared.decks.Card.{Card}
use Rattle.machine.specs.Operations.{Last, row_of, form_among}
use Rattle.machine.proofs.FormTables.{IsFormed}
use Rattle.autocoder_statements.specs.Mnemonics.{mnemonics, entry, mnemonic_of, instruction_with, instruction, instruction_length, IsAmong}
use Rattle.autocoder_statements.specs.Statements.{operand_field, statement_on}
use Rattle.autocoder_statements.specs.declared.operand_forms.OperandForm.{OperandForm}
use Rattle.autocoder_statements.specs.declared.names.Name.{Name}
use Rattle.autocoder_statements.specs.declared.operands.Operands.{Operands}
use Rattle.autocoder_statements.specs.declared.operations.Instruction.{Instruction}
use Rattle.autocoder_statements.specs.declared.reading.Statement.TheVariants as statement
use Rattle.autocoder_layout.specs.Cells.{instruction_codes}
use Rattle.autocoder_layout.specs.Literals.{Characters}
use Rattle.autocoder_layout.specs.declared.slots.Slot.{Slot}
use Rattle.autocoder_laws.specs.Meanings.{Meaning, meanings}
use Rattle.autocoder_laws.specs.Cards.{mnemonic_on}
use Rattle.autocoder_laws.specs.Instructions.{IsOfForm, IsAssembledAs}
use Rattle.autocoder_laws.proofs.CardLemmas.{of_card}
use Rattle.autocoder_laws.proofs.FormLemmas.{in_forms}
use Rattle.autocoder_statements.proofs.Found.{mapped}
use Rattle.autocoder_laws.proofs.DecodingLemmas.{longest, reads}
use Rattle.autocoder_laws.proofs.RowLemmas.{meaning_of}
use Rattle.autocoder_laws.proofs.ShapeLemmas.{long, first_is, last_is}
use Rattle.autocoder_laws.proofs.SuitLemmas.{Entry, Agrees, AgreesBy, Suits, suits}
use Rattle.autocoder_laws.proofs.Table.{all_fit}

module _ (size : ℕ) (slots : List Slot) (literals : List Characters) where
  abbrev codes_of : Instruction → List ℕ
  codes_of spelled = instruction_codes size slots literals spelled

  last_agrees : (m : Meaning) (says : Last) (spelled : Instruction) (last : Option ℕ) → spelled.modifier ≡ last → AgreesBy m says last →
      Agrees m says (slice_index (codes_of spelled) (length (codes_of spelled) - 1))
  last_agrees m says spelled None e agrees = agrees _
  last_agrees m says spelled (Some code) e agrees =
      subst (Agrees m says) (sym (last_is size slots literals spelled code e)) agrees

assembled_as : (mnemonic : List ℕ) (m : Meaning) (spelled : Instruction) → entry meanings mnemonic ≡ Some m → Suits m spelled → IsAssembledAs mnemonic spelled
assembled_as mnemonic m spelled named fits size slots literals =
    let codes = instruction_codes size slots literals spelled in
    let count : length codes ≡ instruction_length spelled = long size slots literals spelled in
    let first : slice_index codes 0 ≡ spelled.operation = first_is size slots literals spelled in
    let f = fits.formed in
    let agrees = last_agrees size slots literals m f.form.last spelled spelled.modifier refl fits.last in
    let here : IsFormed (slice_index codes 0) (length codes) = record { row = f.row; form = f.form; named = ap row_of first ∙ f.named; formed = ap (form_among f.row.forms) count ∙ f.formed } in
    record {
      meaning = m;
      named = named;
      long = count;
      read = reads m codes agrees.modifier (omega arith)
          (subst (λ code. length codes ≤ longest code) (sym first) (omega (arith, fits.few)))
          here
          fits.operation
          agrees.read
          agrees.meant;
    }

pub forms_law : (mnemonic : List ℕ) (row : Entry) (form : OperandForm) (operands : Operands) → entry mnemonics mnemonic ≡ Some row → IsAmong row.2 form →
    IsOfForm form operands → IsAssembledAs mnemonic (instruction_with (mnemonic_of row) operands)
forms_law mnemonic row form operands e among h =
    let has = meaning_of mnemonics meanings all_fit mnemonic row e in
    assembled_as mnemonic has.meaning (instruction_with (mnemonic_of row) operands) has.named (suits row has.meaning has.fits form among operands h)

pub cards_law : (card : Card) (label : Option Name) (spelled : Instruction) → statement_on card ≡ Ok (statement.Instruction label spelled) →
    IsAssembledAs (mnemonic_on card) spelled
unfolding instruction
cards_law card label spelled e =
    let of = of_card card label spelled e in
    let (operands, found, same) = mapped (instruction_with (mnemonic_of of.row)) _ spelled of.made in
    let (form, among, h) = in_forms of.row.2 (operand_field card) operands found in
    subst (IsAssembledAs (mnemonic_on card)) same (forms_law (mnemonic_on card) of.row form operands of.named among h)
