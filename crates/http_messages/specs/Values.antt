-- the bodies of replies as JSON, with the members of each object by their names
use Rattle.std.specs.Prelude.{ℕ, List, Bool, codes}
use Rattle.autocoder_layout.specs.declared.card_faults.CardFault.{CardFault}
use Rattle.cards.specs.Numbers.{card_error_number}
use Rattle.cards.specs.declared.faults.CardFault as deck
use Rattle.autocoder_layout.specs.Faults.{fault_number}
use Rattle.office.specs.Queued.{QueuedJob}
use Rattle.office.specs.declared.lists.JobLine.{JobLine}
use Rattle.machine.specs.declared.standings.StandingAt.{StandingAt}
use Rattle.office.specs.declared.summaries.Summary.{Summary}
use Rattle.serde_json.specs.Data.{Data, boolean, string, number, unsigned, object, Members, member, no_members, array}
use Rattle.serde_json.specs.View.{items_of}
use Rattle.machine.specs.Standings.{standing_words}

-- the members of an object with a number as the first
abbrev pub count : List ℕ → ℕ → Members → Members
count name n rest = member name (number (unsigned n)) rest

-- the members of an object with a truth value as the first
abbrev pub truth : List ℕ → Bool → Members → Members
truth name value rest = member name (boolean value) rest

-- the members of an object with a string as the first
abbrev pub text : List ℕ → List ℕ → Members → Members
text name words rest = member name (string words) rest

-- the members of an object with a list as the first
abbrev pub list : List ℕ → List Data → Members → Members
list name things rest = member name (array (items_of things)) rest

-- the JSON object of a reply that has only its name
abbrev pub reply_data : List ℕ → Data
reply_data name = object (text (codes "reply") name no_members)

-- the JSON object of `taken`: how many cards were loaded
abbrev pub taken_data : ℕ → Data
taken_data cards =
    object (count (codes "cards") cards (text (codes "reply") (codes "taken") no_members))

-- the JSON object of `ran`: how many instructions were executed, and the job's standing
abbrev pub ran_data : ℕ → StandingAt → Data
ran_data executed standing =
    object (count (codes "executed") executed
    (text (codes "reply") (codes "ran")
    (text (codes "standing") (standing_words standing) no_members)))

-- the JSON object of `collected`: how many cards and lines the job has made
abbrev pub collected_data : ℕ → ℕ → Data
collected_data cards lines =
    object (count (codes "cards") cards
    (count (codes "lines") lines
    (text (codes "reply") (codes "collected") no_members)))

-- the JSON object of the reply to `standing`: a job's standing, flags and counts
abbrev pub summary_data : Summary → Data
summary_data job =
    object (count (codes "cards") job.cards
    (truth (codes "collected") job.collected
    (count (codes "granted") job.granted
    (truth (codes "held") job.held
    (count (codes "lines") job.lines
    (text (codes "reply") (codes "standing")
    (text (codes "standing") (standing_words job.standing) no_members)))))))

-- the JSON object of a job in the list of a customer's jobs
abbrev pub job_data : JobLine → Data
job_data job =
    object (truth (codes "collected") job.collected
    (truth (codes "held") job.held
    (count (codes "number") job.number
    (text (codes "standing") (standing_words job.standing) no_members))))

-- the JSON object of a job in the queue
abbrev pub queued_data : QueuedJob → Data
queued_data job =
    object (text (codes "customer") job.customer (count (codes "number") job.number no_members))

-- the JSON object of a source's fault: its card and its number
abbrev pub fault_data : CardFault → Data
fault_data f =
    object (count (codes "card") f.card (count (codes "fault") (fault_number f.fault) no_members))

-- the JSON object with the list of a customer's jobs
abbrev pub jobs_data : List Data → Data
jobs_data jobs = object (list (codes "jobs") jobs (text (codes "reply") (codes "jobs") no_members))

-- the JSON object with the list of the jobs in the queue
abbrev pub queue_data : List Data → Data
queue_data jobs =
    object (list (codes "queue") jobs (text (codes "reply") (codes "queue") no_members))

-- the JSON object of the refusal of a source, with its faults
abbrev pub faults_data : List Data → Data
faults_data faults = object (list (codes "faults") faults (count (codes "refusal") 16 no_members))

-- the JSON object of a refusal with this number
abbrev pub refusal_data : ℕ → Data
refusal_data n = object (count (codes "refusal") n no_members)

-- the JSON object of a fault in a deck's text: its card, its column and its number
abbrev pub deck_fault_data : deck.CardFault → Data
deck_fault_data f =
    object (count (codes "card") f.card
    (count (codes "column") f.column
    (count (codes "deck") (card_error_number f.error) no_members)))
