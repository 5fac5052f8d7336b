-- what a line of a script says
use Rattle.std.specs.Prelude.{ℕ, ◌≡◌, List, [], ◌∷◌, Option, Some, None, codes, string_bytes}
use Rattle.office.specs.declared.commands.Command.{Command}
use Rattle.office.specs.declared.commands.Command.TheVariants.{Submit, Job as OnJob, Jobs, Queue}
use Rattle.office.specs.declared.commands.JobCommand.{JobCommand}
use Rattle.office.specs.declared.commands.JobCommand.TheVariants.{Slice, Start, Hold, Release, Collect, Standing, Cards, Lines}
use Rattle.scripts.specs.declared.meanings.Meaning.{Meaning}
use Rattle.scripts.specs.declared.meanings.Meaning.TheVariants as said
use Rattle.scripts.specs.declared.headings.Heading.{Heading}
use Rattle.texts.specs.Numbers.{IsNumberOf}
use Rattle.texts.specs.Switches.{AreSwitchesOf}
use Rattle.scripts.specs.Texts.{IsCountOf, IsKindOf, text_of}
use Rattle.scripts.specs.Words.{AreWords, words_of}

-- the verb and the words after the job's number are those of this command on a job
abbrev pub AreJobWords : List ℕ → List (List ℕ) → JobCommand → Type 0
AreJobWords verb after (Slice limit) =
    (verb ≡ codes "slice") × (word : List ℕ) × (after ≡ word ∷ []) × IsNumberOf (text_of word) limit
AreJobWords verb after (Start switches) =
    (verb ≡ codes "start") × (word : List ℕ) × (after ≡ word ∷ [])
    × AreSwitchesOf (text_of word) switches
AreJobWords verb after Hold = (verb ≡ codes "hold") × (after ≡ [])
AreJobWords verb after Release = (verb ≡ codes "release") × (after ≡ [])
AreJobWords verb after Collect = (verb ≡ codes "collect") × (after ≡ [])
AreJobWords verb after Standing = (verb ≡ codes "standing") × (after ≡ [])
AreJobWords verb after (Cards from) = ⊥
AreJobWords verb after Lines = ⊥

-- the command on a job with this verb and these words after the job's number, or none
abbrev pub AreFound : List ℕ → List (List ℕ) → Option JobCommand → Type 0
AreFound verb after (Some command) = AreJobWords verb after command
AreFound verb after None = (command : JobCommand) → ¬ AreJobWords verb after command

-- the words of a line are a verb, a customer, a number and the command's other words
pub record SaysJob (words : List (List ℕ)) (customer : List ℕ) (number : ℕ)
    (command : JobCommand) : Type 0 where
  pub verb : List ℕ
  pub name : List ℕ
  pub numeral : List ℕ
  pub after : List (List ℕ)
  pub are : words ≡ verb ∷ name ∷ numeral ∷ after
  pub customer_is : customer ≡ text_of name
  pub number_is : IsNumberOf (text_of numeral) number
  pub command_is : AreJobWords verb after command

-- the words of a line are this command, which is no submission
abbrev pub Says : List (List ℕ) → Command → Type 0
Says words (Submit customer number contents) = ⊥
Says words (OnJob customer number command) = SaysJob words (string_bytes customer) number command
Says words (Jobs customer) =
    (name : List ℕ) × (words ≡ codes "jobs" ∷ name ∷ []) × (string_bytes customer ≡ text_of name)
Says words Queue = words ≡ codes "queue" ∷ []

-- the words of a line are the heading of a submission: customer, number, kind, size, switches and
-- the number of cards
pub record IsHeading (words : List (List ℕ)) (heading : Heading) : Type 0 where
  pub name : List ℕ
  pub numeral : List ℕ
  pub kind : List ℕ
  pub size : List ℕ
  pub switches : List ℕ
  pub count : List ℕ
  pub are : words ≡ codes "submit" ∷ name ∷ numeral ∷ kind ∷ size ∷ switches ∷ count ∷ []
  pub customer_is : string_bytes heading.customer ≡ text_of name
  pub number_is : IsNumberOf (text_of numeral) heading.number
  pub kind_is : IsKindOf kind heading.kind
  pub size_is : IsNumberOf (text_of size) heading.size
  pub switches_are : AreSwitchesOf (text_of switches) heading.switches
  pub count_is : IsCountOf count heading.cards

-- what the words of a line say: a command, a heading, or nothing if they are neither
abbrev pub IsMeantBy : List (List ℕ) → Meaning → Type 0
IsMeantBy words (said.Command command) = Says words command
IsMeantBy words (said.Heading heading) = IsHeading words heading
IsMeantBy words said.Nothing =
    ((command : Command) → ¬ Says words command) × ((heading : Heading) → ¬ IsHeading words heading)

-- what a line says by its words, which are separated by one blank each
abbrev pub IsMeantIn : List ℕ → Meaning → Type 0
IsMeantIn line said.Nothing = AreWords (words_of line) → IsMeantBy (words_of line) said.Nothing
IsMeantIn line it = AreWords (words_of line) × IsMeantBy (words_of line) it
