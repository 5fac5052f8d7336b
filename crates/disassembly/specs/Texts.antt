-- how a statement is written
use Rattle.std.specs.Prelude.{ℕ, ◌==◌, nat_lt, Bool, false, if◌then◌else◌, List, [], ◌∷◌, ◌++◌, find, codes, Option, Some, None, option_map, option_and_then, option_to_list}
use Rattle.bcd.specs.Table.{byte}
use Rattle.addresses.specs.Addresses.{Tagged}
use Rattle.addresses.specs.declared.tagged.IndexLocation.{IndexLocation}
use Rattle.addresses.specs.declared.tagged.IndexLocation.TheVariants.{First, Second, Third}
use Rattle.autocoder_statements.specs.Laws.{digits_of}
use Rattle.autocoder_statements.specs.Mnemonics.{code_of}
use Rattle.autocoder_statements.specs.Statements.{word}
use Rattle.autocoder_statements.specs.declared.names.Name.{Name}
use Rattle.autocoder_layout.specs.declared.slots.Definition.{Definition}
use Rattle.autocoder_layout.specs.declared.slots.Slot.{Slot}
use Rattle.autocoder.specs.Listing.{glyphs_of}
use Rattle.source_reports.specs.OperationNames.{shown_name}
use Rattle.disassembly.specs.declared.statements.Statement.{Statement}

-- ---- addresses

-- whether a definition, if there is one, is at this address
abbrev pub is_at : ℕ → Option Definition → Bool
is_at address None = false
is_at address (Some definition) = definition.address == address

-- the name of the first card that defines one at just this address
unfoldable pub name_at : List Slot → ℕ → Option Name
name_at slots address =
    option_and_then (λ slot. option_map (λ definition. definition.name) slot.defines)
    (find (λ slot. is_at address slot.defines) slots)

-- how many digits the number of an address has: three, or four or five where it needs them
abbrev pub digit_count : ℕ → ℕ
digit_count number = if nat_lt number 1000 then 3 else (if nat_lt number 10000 then 4 else 5)

-- a number in at least three digits
abbrev pub number_text : ℕ → List ℕ
number_text number = digits_of (digit_count number) number

-- an address by its name, or by its number if it has none
abbrev pub base_text : ℕ → Option Name → List ℕ
base_text number None = number_text number
base_text number (Some name) = word name.characters

-- the characters of `&`, `X` and a digit, with which an index location is named
abbrev pub index_text : List ℕ → List ℕ
index_text digit = code_of (byte (codes "&")) ∷ code_of (byte (codes "X"))
    ∷ code_of (byte digit) ∷ []

-- an address with the index location that it names, or without one
abbrev pub tagged_text : List Slot → ℕ → Option IndexLocation → List ℕ
tagged_text slots number None = base_text number (name_at slots number)
tagged_text slots number (Some First) = number_text number ++ index_text (codes "1")
tagged_text slots number (Some Second) = number_text number ++ index_text (codes "2")
tagged_text slots number (Some Third) = number_text number ++ index_text (codes "3")

-- an address, by the first name of these cards that is just there if it has no index location
unfoldable pub address_text : List Slot → Tagged → List ℕ
address_text slots address = tagged_text slots address.base address.index

-- ---- statements

-- a text behind a comma
abbrev pub behind_comma : List ℕ → List ℕ
behind_comma text = code_of (byte (codes ",")) ∷ text

-- a second address, if there is one
abbrev pub next_address : List Slot → Option Tagged → List ℕ
next_address slots None = []
next_address slots (Some address) = behind_comma (address_text slots address)

-- a last character behind addresses, if there is one
abbrev pub next_last : Option ℕ → List ℕ
next_last None = []
next_last (Some code) = behind_comma (code ∷ [])

-- what stands in the operand field: addresses and a last character, with commas between them
abbrev pub operands_by : List Slot → Option Tagged → Option Tagged → Option ℕ → List ℕ
operands_by slots None second last = option_to_list last
operands_by slots (Some first) second last =
    address_text slots first ++ next_address slots second ++ next_last last

-- the characters of a statement's operand field, with the names that these cards define
unfoldable pub operand_text : List Slot → Statement → List ℕ
operand_text slots statement =
    operands_by slots statement.first statement.second statement.last

-- a text behind a blank, if there is one
abbrev pub behind_blank : List ℕ → List ℕ
behind_blank [] = []
behind_blank (glyph ∷ text) = byte (codes " ") ∷ glyph ∷ text

-- a statement as it is shown: its mnemonic, a blank and its operands
unfoldable pub statement_text : List Slot → Statement → List ℕ
statement_text slots statement =
    shown_name statement.name ++ behind_blank (glyphs_of (operand_text slots statement))
