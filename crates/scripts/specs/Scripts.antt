-- scripts: the commands in their bytes, and the first line that has none
use Rattle.std.specs.Prelude.{String, ℕ, ◌≡◌, ◌≢◌, ◌+◌, ◌<◌, ◌≤◌, ◌⊎◌, ⊤, List, [], ◌∷◌, ◌++◌, All, length}
use Rattle.cards.specs.declared.decks.Card.{Card}
use Rattle.std.specs.declared.alloc.Global.{Global}
use Rattle.cards.specs.declared.faults.CardError.{CardError}
use Rattle.cards.specs.declared.faults.CardError.TheVariants.{NoMemory}
use Rattle.cards.specs.declared.faults.CardFault.{CardFault}
use Rattle.cards.specs.Decks.{IsCard, IsDeck}
use Rattle.cards.specs.Files.{text_of as deck_text}
use Rattle.office.specs.declared.commands.Command.{Command}
use Rattle.office.specs.declared.commands.Command.TheVariants.{Submit}
use Rattle.office.specs.declared.commands.Contents.{Contents}
use Rattle.scripts.specs.declared.faults.ScriptFault.{ScriptFault}
use Rattle.scripts.specs.declared.faults.ScriptFault.TheVariants as fault
use Rattle.scripts.specs.declared.headings.Heading.{Heading}
use Rattle.scripts.specs.declared.meanings.Meaning.{Meaning}
use Rattle.scripts.specs.declared.meanings.Meaning.TheVariants as said
use Rattle.scripts.specs.Commands.{IsMeantBy}
use Rattle.scripts.specs.Lines.{BeginsWithLine}
use Rattle.scripts.specs.Words.{AreWords, words_of}

-- the most bytes of a script
abbrev pub most_bytes : ℕ
most_bytes = 4000000

-- the bytes begin with a line that says this, and the rest follows
pub record BeginsWith (bytes : List ℕ) (it : Meaning) (rest : List ℕ) : Type 0 where
  pub line : List ℕ
  pub begins : BeginsWithLine bytes line rest
  pub words : AreWords (words_of line)
  pub says : IsMeantBy (words_of line) it

-- ---- a command

-- the bytes begin with the text of a deck of so many cards, and the rest follows
abbrev pub BeginsWithDeck : List ℕ → List Card → ℕ → List ℕ → Type 0
BeginsWithDeck bytes deck count rest =
    IsDeck deck × (length deck ≡ count) × (bytes ≡ deck_text deck ++ rest)

-- the heading of the submission of these contents
abbrev pub heading_for : String Global → ℕ → Contents → Heading
heading_for customer number contents = record {
  customer = customer;
  number = number;
  kind = contents.kind;
  size = contents.size;
  switches = contents.switches;
  cards = length contents.deck;
}

-- the bytes after a heading begin with the cards of its submission, and the rest follows; heading
-- and cards are so many lines
abbrev pub EndsSubmission : Heading → List ℕ → Command → ℕ → List ℕ → Type 0
EndsSubmission heading bytes (Submit customer number contents) lines rest =
    (heading ≡ heading_for customer number contents)
    × BeginsWithDeck bytes contents.deck heading.cards rest × (lines ≡ 1 + heading.cards)
EndsSubmission heading bytes other lines rest = ⊥

-- the bytes begin with a command, which takes so many lines, and the rest follows
abbrev pub Begins : List ℕ → Command → ℕ → List ℕ → Type 0
Begins bytes (Submit customer number contents) lines rest =
    (heading : Heading) × (after : List ℕ) × BeginsWith bytes (said.Heading heading) after
    × EndsSubmission heading after (Submit customer number contents) lines rest
Begins bytes other lines rest = BeginsWith bytes (said.Command other) rest × (lines ≡ 1)

-- the bytes begin with these commands, which take so many lines, and the rest follows
abbrev pub Leads : List ℕ → List Command → ℕ → List ℕ → Type 0
Leads bytes [] lines rest = (lines ≡ 0) × (bytes ≡ rest)
Leads bytes (command ∷ commands) lines rest =
    (first : ℕ) × (others : ℕ) × (after : List ℕ) × Begins bytes command first after
    × Leads after commands others rest × (lines ≡ first + others)

-- the bytes are no more than a script may have
abbrev pub AreNotTooMany : List ℕ → Type 0
AreNotTooMany bytes = length bytes ≤ most_bytes

-- the bytes, which are not too many, are a script of these commands
abbrev pub IsScriptOf : List ℕ → List Command → Type 0
IsScriptOf bytes commands = AreNotTooMany bytes × (lines : ℕ) × Leads bytes commands lines []

-- ---- a bad line

-- a fault with the number of its line raised by the number of lines before it
abbrev pub later : ℕ → ScriptFault → ScriptFault
later lines (fault.BadLine number) = fault.BadLine (lines + number)
later lines other = other

-- the fault of a script for an error in the card of this number
abbrev pub fault_of_error : CardError → ℕ → ScriptFault
fault_of_error NoMemory card = fault.NoMemory
fault_of_error other card = fault.BadLine card

-- the bytes do not begin with the text of a card
abbrev pub HasNoCard : List ℕ → Type 0
HasNoCard bytes = (card : Card) → (rest : List ℕ) → IsCard card
    → bytes ≢ deck_text (card ∷ []) ++ rest

-- of so many cards the one of this number is missing or faulty, and all before it are cards
pub record HasBadCard (bytes : List ℕ) (count : ℕ) (number : ℕ) : Type 0 where
  pub cards : List Card
  pub rest : List ℕ
  pub are : All IsCard cards
  pub before : bytes ≡ deck_text cards ++ rest
  pub fewer : length cards < count
  pub none : HasNoCard rest
  pub place : number ≡ length cards + 1

-- the fault of a script for a fault among its cards
abbrev pub fault_of : CardFault → ScriptFault
fault_of card = fault_of_error card.error card.card

-- the fault is a bad line among the first 2001, as many as a heading and a full deck have
abbrev pub IsNear : ScriptFault → Type 0
IsNear (fault.BadLine number) = number ≤ 2001
IsNear other = ⊤

-- the fault among so many cards, by its card's number from 1, or want of memory
abbrev pub HasFaultOfCards : List ℕ → ℕ → ScriptFault → Type 0
HasFaultOfCards bytes count (fault.BadLine number) = HasBadCard bytes count number
HasFaultOfCards bytes count fault.TooLong = ⊥
HasFaultOfCards bytes count fault.NoMemory = ⊤

-- the fault among the so many cards of a submission, by its line, where the heading is line 1
abbrev pub HasFaultAfter : List ℕ → ℕ → ScriptFault → Type 0
HasFaultAfter bytes count (fault.BadLine number) =
    (card : ℕ) × (number ≡ 1 + card) × HasBadCard bytes count card
HasFaultAfter bytes count fault.TooLong = ⊥
HasFaultAfter bytes count fault.NoMemory = ⊤

-- the bytes do not begin with a line that is a command or a heading
abbrev pub SaysNothing : List ℕ → Type 0
SaysNothing bytes = (it : Meaning) → (rest : List ℕ) → it ≢ said.Nothing → ¬ BeginsWith bytes it rest

-- the bytes begin with the heading of a submission, and the card on the line of this number is bad
pub record HasBadDeck (bytes : List ℕ) (number : ℕ) : Type 0 where
  pub heading : Heading
  pub after : List ℕ
  pub heads : BeginsWith bytes (said.Heading heading) after
  pub card : ℕ
  pub bad : HasBadCard after heading.cards card
  pub place : number ≡ 1 + card

-- the line of this number, which belongs to the first command in the bytes, is bad
abbrev pub IsBadHere : List ℕ → ℕ → Type 0
IsBadHere bytes number =
    (bytes ≢ []) × (((number ≡ 1) × SaysNothing bytes) ⊎ HasBadDeck bytes number)

-- why the bytes do not begin with a command: a bad line, or want of memory
abbrev pub IsFaultHere : List ℕ → ScriptFault → Type 0
IsFaultHere bytes (fault.BadLine number) = IsBadHere bytes number
IsFaultHere bytes fault.TooLong = ⊥
IsFaultHere bytes fault.NoMemory = ⊤

-- the line of this number is the first bad one of the bytes
pub record IsBadAt (bytes : List ℕ) (number : ℕ) : Type 0 where
  pub commands : List Command
  pub lines : ℕ
  pub rest : List ℕ
  pub leads : Leads bytes commands lines rest
  pub line : ℕ
  pub bad : IsBadHere rest line
  pub place : number ≡ lines + line

-- why the bytes are no script: too many bytes; or, if they are not too many, a bad line; or want of
-- memory
abbrev pub IsFaultOf : List ℕ → ScriptFault → Type 0
IsFaultOf bytes (fault.BadLine number) = AreNotTooMany bytes × IsBadAt bytes number
IsFaultOf bytes fault.TooLong = most_bytes < length bytes
IsFaultOf bytes fault.NoMemory = ⊤
