-- the answer to each request
use Rattle.std.specs.Prelude.{ℕ, ◌≡◌, List, [], ◌⊎◌}
use Rattle.http_messages.specs.Fixed.{fault_bytes, fault_status}
use Rattle.http_messages.specs.Replies.{deck_fault_bytes, refused_bytes, reply_bytes, status_of}
use Rattle.http_messages.specs.declared.fixed.Fault.{Fault}
use Rattle.http_messages.specs.declared.fixed.Fault.TheVariants as fault
use Rattle.http_messages.specs.declared.request.Request.{Request}
use Rattle.http_messages.specs.declared.request.Request.TheVariants as request
use Rattle.office.specs.Office.{Office, attempted, limit_of as command_limit, take}
use Rattle.office.specs.declared.replies.Reply.{Reply}

-- an answer: its status, its bytes, and the office after it
pub record Answer : Type 0 where
  pub status : ℕ
  pub bytes : List ℕ
  pub next : Office

-- the answer with the reply of a command, and the office after the command
abbrev pub replied : Office × Reply → Answer
replied done = record { status = status_of done.1; bytes = reply_bytes done.1; next = done.0 }

-- the answer to a request: for a command its reply; any other answer leaves the office as it is
abbrev pub answer_of : Request → Office → Answer
answer_of (request.Refused status) office =
    record { status = status; bytes = refused_bytes status; next = office }
answer_of (request.BadDeck fault) office =
    record { status = 400; bytes = deck_fault_bytes fault; next = office }
answer_of (request.Asks command) office = replied (take command office)

-- how many instructions a request attempts in this office
abbrev pub attempted_for : Request → Office → ℕ
attempted_for (request.Asks command) office = attempted command office
attempted_for other office = 0

-- the most instructions that a request may attempt, whatever the office
abbrev pub limit_of : Request → ℕ
limit_of (request.Asks command) = command_limit command
limit_of other = 0

-- this status and these bytes are those of the answer to a request
abbrev pub IsAnswer : Request → Office → ℕ → List ℕ → Type 0
IsAnswer r office status bytes =
    (status ≡ (answer_of r office).status) × (bytes ≡ (answer_of r office).bytes)

-- this status and these bytes are those of the answer for a fault
abbrev pub IsOfFault : Fault → ℕ → List ℕ → Type 0
IsOfFault f status bytes = (status ≡ fault_status f) × (bytes ≡ fault_bytes f)

-- the answer of a broken bureau: to a command fault 2, to any other request the usual answer or
-- fault 1
abbrev pub AnswersBroken : Request → ℕ → List ℕ → Type 0
AnswersBroken (request.Asks command) status bytes = IsOfFault fault.Store status bytes
AnswersBroken other status bytes =
    IsAnswer other [] status bytes ⊎ IsOfFault fault.NoMemory status bytes
