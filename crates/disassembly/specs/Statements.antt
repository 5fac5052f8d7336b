-- the statement of Autocoder that has an instruction's characters
use Rattle.std.specs.Prelude.{ℕ, ◌==◌, Bool, true, false, if◌then◌else◌, List, [], ◌∷◌, drop, fold, bytes_eq, Option, Some, None, option_map}
use Rattle.bcd.specs.Table.{glyph_of, zone_of}
use Rattle.bcd.specs.declared.Zone.{Zone}
use Rattle.addresses.specs.Addresses.{Tagged, tagged, written}
use Rattle.autocoder_statements.specs.Expressions.{◌>>=◌}
use Rattle.autocoder_statements.specs.Mnemonics.{Row, mnemonics, or_else}
use Rattle.autocoder_statements.specs.Operands.{is_modifier}
use Rattle.autocoder_statements.specs.declared.modifiers.Modifiers.{Modifiers}
use Rattle.autocoder_statements.specs.declared.operand_forms.OperandForm.{OperandForm}
use Rattle.autocoder_statements.specs.declared.operand_forms.OperandForm.TheVariants.{Empty, Modifier, One, OneAndModifier, Two, TwoAndModifier}
use Rattle.disassembly.specs.declared.statements.Statement.{Statement}

-- ---- the parts of an instruction

-- an address, if it is written in these three characters with this zone as its tag
abbrev pub if_written : Zone → List ℕ → Option Tagged → Option Tagged
if_written tag three None = None
if_written tag three (Some address) =
    if bytes_eq (written tag address.base) three then Some address else None

-- the address that a text begins with, if the assembler writes it so
unfoldable pub address : List ℕ → Option Tagged
address (first ∷ second ∷ third ∷ text) =
    if_written (zone_of second) (first ∷ second ∷ third ∷ []) (tagged first second third)
address text = None

-- the one character that a text is, if an instruction that takes these may end in it
unfoldable pub last : Modifiers → List ℕ → Option ℕ
last modifiers (code ∷ []) = if is_modifier modifiers code then Some code else None
last modifiers text = None

-- whether a text is the last character that a mnemonic has of itself, or nothing if it has none
unfoldable pub is_own_last : Option ℕ → List ℕ → Bool
is_own_last None [] = true
is_own_last (Some glyph) (code ∷ []) = glyph_of code == glyph
is_own_last own text = false

-- ---- a mnemonic

-- the statement of a row's mnemonic with these addresses and this last character
abbrev pub said : Row → Option Tagged → Option Tagged → Option ℕ → Statement
said row first second last =
    record { name = row.0; first = first; second = second; last = last }

-- the statement with these addresses, if the rest is the mnemonic's own last character, or nothing
abbrev pub said_before : Row → Option Tagged → Option Tagged → List ℕ → Option Statement
said_before row first second text =
    if is_own_last row.1.1 text then Some (said row first second None) else None

-- the statement of a row's mnemonic that has these characters behind its operation, in this form
unfoldable pub in_form : Row → OperandForm → List ℕ → Option Statement
in_form row Empty text = said_before row None None text
in_form row (Modifier modifiers) text =
    option_map (λ code. said row None None (Some code)) (last modifiers text)
in_form row (One kind) text = do
  first ← address text
  said_before row (Some first) None (drop 3 text)
in_form row (OneAndModifier kind modifiers) text = do
  first ← address text
  option_map (λ code. said row (Some first) None (Some code)) (last modifiers (drop 3 text))
in_form row (Two kind other) text = do
  first ← address text
  second ← address (drop 3 text)
  said_before row (Some first) (Some second) (drop 3 (drop 3 text))
in_form row (TwoAndModifier kind other modifiers) text = do
  first ← address text
  second ← address (drop 3 text)
  option_map (λ code. said row (Some first) (Some second) (Some code))
      (last modifiers (drop 3 (drop 3 text)))

-- the statement in a form, if there is a form
abbrev pub in_form_if : Row → Option OperandForm → List ℕ → Option Statement
in_form_if row None text = None
in_form_if row (Some form) text = in_form row form text

-- the statement in one of the forms of a row's mnemonic
unfoldable pub in_forms : Row → List ℕ → Option Statement
in_forms row text = or_else (in_form row row.1.2.form text)
    (or_else (in_form_if row row.1.2.other text) (in_form_if row row.1.2.third text))

-- the statement of a row's mnemonic that has these characters
unfoldable pub of_row : Row → List ℕ → Option Statement
of_row row [] = None
of_row row (code ∷ text) = if glyph_of code == row.1.0 then in_forms row text else None

-- the statement of the last of these rows that has one with these characters
unfoldable pub of_rows : List Row → List ℕ → Option Statement
of_rows rows word = fold (λ found row. or_else (of_row row word) found) None rows

-- the statement of Autocoder that has these characters, if there is one; of a mnemonic with a last
-- character of its own before one that takes it
unfoldable pub statement_of : List ℕ → Option Statement
statement_of word = of_rows mnemonics word
