-- the commands of one customer among all, and the replies to them
use Rattle.std.specs.Prelude.{ℕ, Bool, false, List, [], ◌∷◌, filter, map, if◌then◌else◌, bytes_eq, string_bytes}
use Rattle.office.specs.Office.{own}
use Rattle.office.specs.declared.commands.Command.{Command}
use Rattle.office.specs.declared.commands.Command.TheVariants.{Submit, Job as OnJob, Jobs, Queue}
use Rattle.office.specs.declared.replies.Reply.{Reply}
use Rattle.bureau_laws.specs.Headline.{Round}
use Rattle.bureau_laws.specs.KeptRounds.{KeptRound, Answer}

-- whether a command is of this customer; the queue is asked for by the operator, of no customer
abbrev pub names : List ℕ → Command → Bool
names customer (Submit name number contents) = bytes_eq (string_bytes name) customer
names customer (OnJob name number c) = bytes_eq (string_bytes name) customer
names customer (Jobs name) = bytes_eq (string_bytes name) customer
names customer Queue = false

-- the commands of this customer among all, in order
abbrev pub commands_of : List ℕ → List Command → List Command
commands_of customer = filter (names customer)

-- the replies to this customer's commands, among the replies to all
abbrev pub replies_to : List ℕ → List Command → List Reply → List Reply
replies_to customer [] replies = []
replies_to customer (command ∷ commands) [] = []
replies_to customer (command ∷ commands) (reply ∷ replies) =
    if names customer command then reply ∷ replies_to customer commands replies else
    replies_to customer commands replies

-- ---- over rounds

-- a round with this customer's commands alone, and the replies to them
abbrev pub own_round : List ℕ → Round → Round
own_round customer round = record {
  given = commands_of customer round.given;
  replies = replies_to customer round.given round.replies;
  files = round.files;
}

-- a kept round with this customer's commands alone, what was kept of them, and the customer's own
-- part of the office
abbrev pub own_kept : List ℕ → KeptRound → KeptRound
own_kept customer k = record {
  round = own_round customer k.round;
  office = own customer k.office;
  kept = commands_of customer k.kept;
}

-- an answer with the customer's own part of the office in the place of the office
abbrev pub own_answer : List ℕ → Answer → Answer
own_answer customer it =
    record { command = it.command; before = own customer it.before; reply = it.reply }

-- the answers to this customer's commands among all, each with the customer's own part of the
-- office
abbrev pub answers_to : List ℕ → List Answer → List Answer
answers_to customer all = map (own_answer customer) (filter (λ it. names customer it.command) all)
