-- the requests that targets and bodies make
use Rattle.std.specs.Prelude.{ℕ, ◌≡◌, ◌≢◌, List, string_bytes}
use Rattle.cards.specs.Decks.{IsDeck}
use Rattle.cards.specs.Faults.{IsFirstFault, out_of_memory}
use Rattle.cards.specs.Files.{file_of, text_of}
use Rattle.cards.specs.declared.faults.CardFault.{CardFault}
use Rattle.http_messages.specs.declared.targets.Target.{Target}
use Rattle.http_messages.specs.declared.targets.Target.TheVariants as target
use Rattle.texts.specs.declared.names.JobName.{JobName}
use Rattle.office.specs.declared.commands.Command.TheVariants as command
use Rattle.office.specs.declared.commands.Contents.{Contents}
use Rattle.office.specs.declared.commands.JobCommand.{JobCommand}
use Rattle.office.specs.declared.commands.Kind.{Kind}
use Rattle.units.specs.declared.switches.Switches.{Switches}
use Rattle.http_messages.specs.declared.request.Request.{Request}
use Rattle.http_messages.specs.declared.request.Request.TheVariants as request

-- the customer and the number are those of this job
abbrev pub IsNamed : JobName → List ℕ → ℕ → Type 0
IsNamed job customer number = (customer ≡ job.customer.now) × (number ≡ job.number)

-- the contents have this kind, size and switches, and their deck is the one of this text
pub record AreContents (kind : Kind) (size : ℕ) (switches : Switches) (text : List ℕ)
    (contents : Contents) : Type 0 where
  pub kind_is : contents.kind ≡ kind
  pub size_is : contents.size ≡ size
  pub switches_are : contents.switches ≡ switches
  pub deck : IsDeck contents.deck
  pub text_is : text ≡ text_of contents.deck

-- the first fault of a text as a deck
abbrev pub IsTextFault : List ℕ → CardFault → Type 0
IsTextFault text fault = (form : _) × (text_of ≡ file_of form) × IsFirstFault form text fault

-- the request submits this job with the deck of this text, or is refused for the first fault of the
-- text
abbrev pub IsSubmission : JobName → Kind → ℕ → Switches → List ℕ → Request → Type 0
IsSubmission job kind size switches text (request.Asks (command.Submit customer number contents)) =
    IsNamed job (string_bytes customer) number × AreContents kind size switches text contents
IsSubmission job kind size switches text (request.BadDeck fault) = IsTextFault text fault
IsSubmission job kind size switches text other = ⊥

-- the request is this command on this job
abbrev pub IsOnJob : JobName → JobCommand → Request → Type 0
IsOnJob job c (request.Asks (command.Job customer number d)) =
    IsNamed job (string_bytes customer) number × (d ≡ c)
IsOnJob job c other = ⊥

-- the request is for the list of this customer's jobs
abbrev pub AsksOfJobs : List ℕ → Request → Type 0
AsksOfJobs customer (request.Asks (command.Jobs name)) = string_bytes name ≡ customer
AsksOfJobs customer other = ⊥

-- the request is what the target asks for, with this body
abbrev pub IsAskedBy : Target → List ℕ → Request → Type 0
IsAskedBy (target.Submission job kind size switches) body r =
    IsSubmission job kind size switches body r
IsAskedBy (target.Job job c) body r = IsOnJob job c r
IsAskedBy (target.Jobs customer) body r = AsksOfJobs customer.now r
IsAskedBy target.Queue body r = r ≡ request.Asks command.Queue

-- the request is refused for this fault of its deck, which is not want of memory
abbrev pub IsBadDeck : CardFault → Request → Type 0
IsBadDeck fault r = (r ≡ request.BadDeck fault) × (fault ≢ out_of_memory)
