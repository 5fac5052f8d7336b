-- the positions that texts name
use Rattle.std.specs.Prelude.{ℕ, ◌≡◌, ◌<◌, ◌≤◌, ◌==◌, if◌then◌else◌, List, length, All, Option, Some, None, option_and_then}
use Rattle.addresses.specs.declared.tagged.IndexLocation.{IndexLocation}
use Rattle.autocoder.specs.Listing.{glyphs_of}
use Rattle.autocoder_layout.specs.Names.{value_in}
use Rattle.autocoder_layout.specs.declared.names.Value.{Value}
use Rattle.autocoder_layout.specs.declared.names.Value.TheVariants.{Unknown, Outside, At}
use Rattle.autocoder_layout.specs.declared.slots.Slot.{Slot}
use Rattle.autocoder_statements.specs.Expressions.{address}
use Rattle.autocoder_statements.specs.declared.expressions.Address.{Address}

-- the position that a value is, if it is one
abbrev pub position_at : Value → Option ℕ
position_at Unknown = None
position_at Outside = None
position_at (At position) = Some position

-- the position below 16000 that an address without this index location names
abbrev pub position_by : List Slot → Address → Option IndexLocation → Option ℕ
position_by slots address None = position_at (value_in 16000 slots address.expression)
position_by slots address (Some index) = None

-- the position that characters name: they are a number or a name, with a number added or taken
-- away, and nothing more
unfoldable pub position_named : List Slot → List ℕ → Option ℕ
position_named slots text = option_and_then
    (λ found. if found.1 == length text then position_by slots found.0 found.0.index else None)
    (address text)

-- a text names this position: it is the glyphs of characters that name it, of at most 52, as many as
-- an operand field has
pub record NamesPosition (slots : List Slot) (text : List ℕ) (position : ℕ) : Type 0 where
  pub characters : List ℕ
  pub short : length characters ≤ 52
  pub are_characters : All (λ code. code < 64) characters
  pub text_is : text ≡ glyphs_of characters
  pub named : position_named slots characters ≡ Some position
