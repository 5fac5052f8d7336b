-- the heading that a source gives itself
use Rattle.std.specs.Prelude.{ℕ, ◌≡◌, Bool, true, false, List, Option, Some, None, find}
use Rattle.std.specs.Str.{IsTrimAsciiEnd}
use Rattle.cards.specs.declared.Card.{Card}
use Rattle.autocoder_statements.specs.Statements.{operand_field, operation_of}
use Rattle.autocoder_statements.specs.declared.operations.Operation.{Operation}
use Rattle.autocoder_statements.specs.declared.operations.Operation.TheVariants.{Job}
use Rattle.autocoder.specs.Listing.{glyphs_of}

-- whether an operation is that of a heading
abbrev pub heads : Option Operation → Bool
heads (Some Job) = true
heads other = false

-- whether a card is a JOB card
unfoldable pub is_job : Card → Bool
is_job card = heads (operation_of card)

-- the first JOB card of some cards
abbrev pub job_card : List Card → Option Card
job_card cards = find is_job cards

-- this is what cards give as their heading: the operand field of the first JOB card, without the
-- blanks at its end; nothing where there is none
abbrev pub HasHeading : List Card → Option (List ℕ) → Type 0
HasHeading cards None = job_card cards ≡ None
HasHeading cards (Some text) = (card : Card) × (job_card cards ≡ Some card)
    × IsTrimAsciiEnd (glyphs_of (operand_field card)) text
