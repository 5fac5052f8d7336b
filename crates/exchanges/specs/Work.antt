-- what a script and an exchange tell of the commands that were carried out
use Rattle.std.specs.Prelude.{◌≡◌, ◌⊎◌, ℕ, List, [], ◌∷◌, Option, length}
use Rattle.office.specs.declared.commands.Command.{Command}
use Rattle.office.specs.declared.replies.Reply.{Reply}
use Rattle.ledger.specs.Working.{carried_out}
use Rattle.http_messages.specs.Replies.{HasLinesInOrder, reply_bytes, status_of}
use Rattle.http_messages.specs.declared.fixed.Fault.TheVariants as fault
use Rattle.http_messages.specs.declared.request.Request.{Request}
use Rattle.http_messages.specs.declared.request.Request.TheVariants as request
use Rattle.exchanges.specs.Ending.{IsNotRun, ReadAs}
use Rattle.exchanges.specs.Answers.{IsAnswer, IsOfFault}
use Rattle.exchanges.specs.Exchanges.{EndsWith, WasRead}
use Rattle.exchanges.specs.Running.{IsCount, TellsReplies, fault_of}
use Rattle.exchanges.specs.declared.exchange_ends.Exchange.{Exchange}
use Rattle.exchanges.specs.declared.script_ends.Scripted.{Scripted}

-- what a script's result tells: no command was carried out; or those of the reader's bytes were, up
-- to its end, and the lines of these replies written
abbrev pub TellsScript : Option (List ℕ) → Option (List ℕ) → Option (List ℕ) → Scripted
    → List Command → List Reply → Type 0
TellsScript remaining written now it done replies =
    ((done ≡ []) × (replies ≡ []) × IsNotRun it remaining written now)
    ⊎ ((commands : List Command) × ReadAs remaining commands
    × IsCount it.ended it.acknowledged (length commands)
    × (done ≡ carried_out commands it.acknowledged (fault_of it.ended))
    × TellsReplies it replies written now)

-- the command that a request asks for, if it asks for one
abbrev pub asked_by : Request → List Command
asked_by (request.Asks command) = command ∷ []
asked_by other = []

-- the answer has the reply's status, and its bytes, if its lines are in the order of printing
abbrev pub IsReplyOf : Reply → ℕ → List ℕ → Type 0
IsReplyOf reply status bytes =
    (status ≡ status_of reply) × (HasLinesInOrder reply → bytes ≡ reply_bytes reply)

-- what an answer tells: nothing was carried out, since the request asks for no command or memory
-- ran out; or its command met fault 2; or it was replied to, and the answer is the reply, or fault 3
-- if there was no memory for it
abbrev pub TellsAnswer : Request → ℕ → List ℕ → List Command → List Reply → Type 0
TellsAnswer r status bytes [] replies =
    (replies ≡ []) × (((asked_by r ≡ []) × IsAnswer r [] status bytes)
    ⊎ IsOfFault fault.NoMemory status bytes)
TellsAnswer r status bytes (command ∷ more) [] =
    (asked_by r ≡ command ∷ more) × IsOfFault fault.Store status bytes
TellsAnswer r status bytes (command ∷ more) (reply ∷ others) =
    (asked_by r ≡ command ∷ more) × (others ≡ [])
    × (IsReplyOf reply status bytes ⊎ IsOfFault fault.NoMemoryForReply status bytes)

-- what an answer tells of the request in the reader's bytes; no memory for reading it is told as
-- fault 1
abbrev pub TellsRead : Option (List ℕ) → ℕ → List ℕ → List Command → List Reply → Type 0
TellsRead input status bytes done replies =
    ((r : Request) × WasRead input r × TellsAnswer r status bytes done replies)
    ⊎ ((done ≡ []) × (replies ≡ []) × IsOfFault fault.NoMemory status bytes)

-- what an exchange tells by the answer that was written, of which only a part may have been; where
-- the reader failed, nothing was carried out and nothing written
abbrev pub TellsExchange : Option (List ℕ) → Option (List ℕ) → Option (List ℕ) → Exchange
    → List Command → List Reply → Type 0
TellsExchange input old_writer new_writer it done replies =
    EndsWith (λ status bytes. TellsRead input status bytes done replies)
    ((done ≡ []) × (replies ≡ [])) old_writer new_writer it
