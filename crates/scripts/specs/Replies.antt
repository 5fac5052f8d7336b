-- the line of each reply
use Rattle.std.specs.Prelude.{ℕ, List, [], ◌∷◌, ◌++◌, Bool, if◌then◌else◌, codes, decimal}
use Rattle.std.specs.List.{flat_map}
use Rattle.cards.specs.Files.{line_feed}
use Rattle.autocoder_layout.specs.declared.card_faults.CardFault.{CardFault}
use Rattle.autocoder_layout.specs.Faults.{fault_number}
use Rattle.machine.specs.Standings.{standing_words}
use Rattle.office.specs.Numbers.{refusal_number}
use Rattle.office.specs.Queued.{QueuedJob}
use Rattle.office.specs.declared.lists.JobLine.{JobLine}
use Rattle.office.specs.declared.refusals.Refusal.{Refusal}
use Rattle.office.specs.declared.refusals.Refusal.TheVariants as refusal
use Rattle.office.specs.declared.replies.Reply.{Reply}
use Rattle.office.specs.declared.replies.Reply.TheVariants as reply
use Rattle.office.specs.declared.summaries.Summary.{Summary}
use Rattle.scripts.specs.declared.faults.ScriptFault.{ScriptFault}
use Rattle.scripts.specs.declared.faults.ScriptFault.TheVariants as fault

-- a flag as a digit: 1 if it is set, else 0
abbrev pub truth : Bool → List ℕ
truth value = if value then codes "1" else codes "0"

-- a job's flags, the instructions granted and the counts of its cards and lines, as a reply prints
-- them
abbrev pub made_words : Summary → List ℕ
made_words job =
    codes " held " ++ truth job.held
    ++ codes " collected " ++ truth job.collected
    ++ codes " granted " ++ decimal job.granted
    ++ codes " cards " ++ decimal job.cards
    ++ codes " lines " ++ decimal job.lines

-- the reply to `standing`: the job's standing, flags and counts
abbrev pub summary_words : Summary → List ℕ
summary_words job = codes "standing " ++ standing_words job.standing ++ made_words job

-- a job in the list of a customer's jobs: a blank and its number
abbrev pub job_words : JobLine → List ℕ
job_words job = codes " " ++ decimal job.number

-- a job in the queue: a blank, its customer, a slash and its number
abbrev pub queued_words : QueuedJob → List ℕ
queued_words job = codes " " ++ job.customer ++ codes "/" ++ decimal job.number

-- a fault of a source: a blank, the card's number, a colon and the fault's number
abbrev pub fault_words : CardFault → List ℕ
fault_words f = codes " " ++ decimal f.card ++ codes ":" ++ decimal (fault_number f.fault)

-- a refusal: its number, and for a source with faults the faults
abbrev pub refusal_words : Refusal → List ℕ
refusal_words (refusal.Assembly faults) = codes "refused 16" ++ flat_map fault_words faults
refusal_words other = codes "refused " ++ decimal (refusal_number other)

-- a reply as a script's run prints it; cards and lines are replies to no command of a script, and
-- empty
abbrev pub reply_words : Reply → List ℕ
reply_words (reply.Taken cards) = codes "taken " ++ decimal cards
reply_words (reply.Ran executed standing) =
    codes "ran " ++ decimal executed ++ codes " " ++ standing_words standing
reply_words reply.Started = codes "started"
reply_words reply.Held = codes "held"
reply_words reply.Released = codes "released"
reply_words (reply.Collected cards lines) =
    codes "collected " ++ decimal cards ++ codes " " ++ decimal lines
reply_words (reply.Standing job) = summary_words job
reply_words (reply.Cards cards) = []
reply_words (reply.Lines lines) = []
reply_words (reply.Jobs jobs) = codes "jobs" ++ flat_map job_words jobs
reply_words (reply.Queue jobs) = codes "queue" ++ flat_map queued_words jobs
reply_words (reply.Refused reason) = refusal_words reason

-- these words with a line feed after them
abbrev pub line_of : List ℕ → List ℕ
line_of words = words ++ line_feed ∷ []

-- the line that a reply is printed on
abbrev pub reply_line : Reply → List ℕ
reply_line it = line_of (reply_words it)

-- the line that a refusal is printed on
abbrev pub refusal_line : Refusal → List ℕ
refusal_line reason = line_of (refusal_words reason)

-- the line that a fault of the bureau is printed on, with its number
abbrev pub fault_line : ℕ → List ℕ
fault_line number = line_of (codes "fault " ++ decimal number)

-- the line that is printed for bytes that are no script
abbrev pub bad_line : ScriptFault → List ℕ
bad_line (fault.BadLine number) = line_of (codes "bad line " ++ decimal number)
bad_line fault.TooLong = line_of (codes "bad size")
bad_line fault.NoMemory = fault_line 1
