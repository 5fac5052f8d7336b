-- the bodies of replies
use Rattle.std.specs.Prelude.{ℕ, List, ◌++◌, Bool, if◌then◌else◌, codes, decimal, map}
use Rattle.std.specs.List.{join_with_byte}
use Rattle.autocoder_layout.specs.declared.card_faults.CardFault.{CardFault}
use Rattle.bcd.specs.Table.{byte}
use Rattle.cards.specs.Files.{punch_file_of}
use Rattle.cards.specs.Numbers.{card_error_number}
use Rattle.cards.specs.declared.faults.CardFault as deck
use Rattle.json.specs.Print.{quoted}
use Rattle.autocoder_layout.specs.Faults.{fault_number}
use Rattle.machine.specs.Standings.{standing_words}
use Rattle.office.specs.Numbers.{refusal_number}
use Rattle.office.specs.Queued.{QueuedJob}
use Rattle.office.specs.declared.lists.JobLine.{JobLine}
use Rattle.office.specs.declared.refusals.Refusal.{Refusal}
use Rattle.office.specs.declared.refusals.Refusal.TheVariants as refusal
use Rattle.office.specs.declared.replies.Reply.{Reply}
use Rattle.office.specs.declared.replies.Reply.TheVariants as reply
use Rattle.office.specs.declared.summaries.Summary.{Summary}
use Rattle.units.specs.Listing.{rendered}

-- a truth value in JSON
abbrev pub truth : Bool → List ℕ
truth value = if value then codes "true" else codes "false"

-- the elements of a JSON list, with a comma between each two
abbrev pub listed : List (List ℕ) → List ℕ
listed = join_with_byte (byte (codes ","))

-- a job in the list of a customer's jobs, in JSON
abbrev pub job_text : JobLine → List ℕ
job_text job =
    codes "{\"collected\":" ++ truth job.collected
    ++ codes ",\"held\":" ++ truth job.held
    ++ codes ",\"number\":" ++ decimal job.number
    ++ codes ",\"standing\":\"" ++ standing_words job.standing ++ codes "\"}"

-- a job in the queue, in JSON
abbrev pub queued_text : QueuedJob → List ℕ
queued_text job =
    codes "{\"customer\":" ++ quoted job.customer
    ++ codes ",\"number\":" ++ decimal job.number ++ codes "}"

-- a fault of a source, in JSON: the card's number and the fault's number
abbrev pub fault_text : CardFault → List ℕ
fault_text f =
    codes "{\"card\":" ++ decimal f.card
    ++ codes ",\"fault\":" ++ decimal (fault_number f.fault) ++ codes "}"

-- the body of the reply to `standing`: the job's standing, flags and counts
abbrev pub summary_body : Summary → List ℕ
summary_body job =
    codes "{\"cards\":" ++ decimal job.cards
    ++ codes ",\"collected\":" ++ truth job.collected
    ++ codes ",\"granted\":" ++ decimal job.granted
    ++ codes ",\"held\":" ++ truth job.held
    ++ codes ",\"lines\":" ++ decimal job.lines
    ++ codes ",\"reply\":\"standing\",\"standing\":\"" ++ standing_words job.standing
    ++ codes "\"}"

-- the body of a refusal: its number, and for a source with faults the faults
abbrev pub refusal_body : Refusal → List ℕ
refusal_body (refusal.Assembly faults) =
    codes "{\"faults\":[" ++ listed (map fault_text faults) ++ codes "],\"refusal\":16}"
refusal_body other = codes "{\"refusal\":" ++ decimal (refusal_number other) ++ codes "}"

-- the body of a reply: JSON, but a punch file for cards and printed lines for lines
abbrev pub body_of : Reply → List ℕ
body_of (reply.Taken cards) = codes "{\"cards\":" ++ decimal cards ++ codes ",\"reply\":\"taken\"}"
body_of (reply.Ran executed standing) =
    codes "{\"executed\":" ++ decimal executed
    ++ codes ",\"reply\":\"ran\",\"standing\":\"" ++ standing_words standing ++ codes "\"}"
body_of reply.Started = codes "{\"reply\":\"started\"}"
body_of reply.Held = codes "{\"reply\":\"held\"}"
body_of reply.Released = codes "{\"reply\":\"released\"}"
body_of (reply.Collected cards lines) =
    codes "{\"cards\":" ++ decimal cards ++ codes ",\"lines\":" ++ decimal lines
    ++ codes ",\"reply\":\"collected\"}"
body_of (reply.Standing job) = summary_body job
body_of (reply.Cards cards) = punch_file_of cards
body_of (reply.Lines lines) = rendered lines
body_of (reply.Jobs jobs) =
    codes "{\"jobs\":[" ++ listed (map job_text jobs) ++ codes "],\"reply\":\"jobs\"}"
body_of (reply.Queue jobs) =
    codes "{\"queue\":[" ++ listed (map queued_text jobs) ++ codes "],\"reply\":\"queue\"}"
body_of (reply.Refused reason) = refusal_body reason

-- the body for a fault in a deck's text: its card, its column and its number
abbrev pub deck_fault_body : deck.CardFault → List ℕ
deck_fault_body f =
    codes "{\"card\":" ++ decimal f.card ++ codes ",\"column\":" ++ decimal f.column
    ++ codes ",\"deck\":" ++ decimal (card_error_number f.error) ++ codes "}"
