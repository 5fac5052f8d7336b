-- the cards of a source, and the statement on each
use Rattle.std.specs.Prelude.{ℕ, ◌+◌, ◌<◌, Bool, true, false, ◌&&◌, ◌||◌, if◌then◌else◌, List, [], ◌∷◌, length, take, find, position, Option, Some, None, Result, Ok, Err, IfOk, is_some, slice_index_or}
use Rattle.cards.specs.declared.decks.Card.{Card}
use Rattle.core_store.specs.declared.sizes.Size.{Size}
use Rattle.core_store.specs.declared.sizes.Size.TheVariants.{Positions4000}
use Rattle.autocoder_statements.specs.Statements.{operation_of, statement_on}
use Rattle.autocoder_statements.specs.Ranges.{IsStatementInRange}
use Rattle.autocoder_statements.specs.declared.faults.StatementFault.{StatementFault}
use Rattle.autocoder_statements.specs.declared.faults.StatementFault.TheVariants as fault
use Rattle.autocoder_statements.specs.declared.operations.Operation.{Operation}
use Rattle.autocoder_statements.specs.declared.operations.Operation.TheVariants as operation
use Rattle.autocoder_statements.specs.declared.reading.Statement.{Statement}
use Rattle.autocoder_statements.specs.declared.reading.Statement.TheVariants as statement

-- the statement on a card, or its lowest fault
abbrev pub Line : Type 0
Line = Result Statement StatementFault

-- ---- where the source ends

-- whether an operation is END
abbrev pub is_the_end : Option Operation → Bool
is_the_end (Some operation.End) = true
is_the_end other = false

-- whether a card ends the source, whatever its faults
unfoldable pub is_end : Card → Bool
is_end card = is_the_end (operation_of card)

-- the number of the first END card, counted from 0, if there is one
abbrev pub end_of : List Card → Option ℕ
end_of cards = position is_end cards

-- whether there is an END card
abbrev pub has_end : List Card → Bool
has_end cards = is_some (end_of cards)

-- the cards up to and including the one of this number, or all
abbrev pub up_to : List Card → Option ℕ → List Card
up_to cards None = cards
up_to cards (Some end) = take (end + 1) cards

-- the source of a deck: its cards up to and including the first END card
unfoldable pub source_of : List Card → List Card
source_of cards = up_to cards (end_of cards)

-- ---- the size

-- whether an operation is CTL
abbrev pub is_the_control : Option Operation → Bool
is_the_control (Some operation.Control) = true
is_the_control other = false

-- whether a card is a CTL card, which has the size of storage, whatever its faults
unfoldable pub is_control : Card → Bool
is_control card = is_the_control (operation_of card)

-- the size of storage on a CTL card; 4000 if the card has a fault
abbrev pub size_in : Line → Size
size_in (Ok (statement.Control size)) = size
size_in other = Positions4000

-- the size of storage by the first CTL card, or 4000 if there is none
abbrev pub size_by : Option Card → Size
size_by None = Positions4000
size_by (Some card) = size_in (statement_on card)

-- the size of storage of a source, by its first CTL card
unfoldable pub size_of : List Card → Size
size_of source = size_by (find is_control source)

-- ---- the statement on each card

-- a further CTL card: a fault of its operand, unless its fields are broken
abbrev pub further : Line → Line
further (Err fault.BrokenField) = Err fault.BrokenField
further other = Err fault.Operand

-- the statement on a card or its lowest fault, by whether an earlier card was a CTL card
unfoldable pub line_on : Bool → Card → Line
line_on has_size card = if has_size && is_control card then further (statement_on card)
    else statement_on card

-- the statement on each card or its lowest fault, by whether an earlier card was a CTL card
unfoldable pub lines_of : Bool → List Card → List Line
lines_of has_size [] = []
lines_of has_size (card ∷ cards) =
    line_on has_size card ∷ lines_of (has_size || is_control card) cards

-- a source, read: the size of its storage, the line of each card, and whether it has an END card
pub record Source : Type 0 where
  pub size : Size
  pub lines : List Line
  pub is_ended : Bool

-- these cards, read as a source
abbrev pub source_read : List Card → Source
source_read cards = record {
  size = size_of cards;
  lines = lines_of false cards;
  is_ended = has_end cards;
}

-- the line of a comment
abbrev pub silent : Line
silent = Ok statement.Comment

-- the numbers and texts of a line's statement are in range
abbrev pub IsInRange : Line → Type 0
IsInRange line = IfOk line IsStatementInRange

-- the numbers and texts of all lines' statements are in range
abbrev pub AreInRange : List Line → Type 0
AreInRange lines = (k : ℕ) → k < length lines → IsInRange (slice_index_or lines k silent)
