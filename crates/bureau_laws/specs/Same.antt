-- when two requests, commands or statuses are the same
use Rattle.std.specs.Prelude.{ℕ, ◌≡◌, ◌⊎◌, ⊤, List, [], ◌∷◌, string_bytes}
use Rattle.http_messages.specs.declared.targets.Target.{Target}
use Rattle.http_messages.specs.declared.targets.Target.TheVariants as target
use Rattle.texts.specs.declared.names.JobName.{JobName}
use Rattle.office.specs.declared.commands.Command.{Command}
use Rattle.office.specs.declared.commands.Command.TheVariants as command
use Rattle.http_messages.specs.declared.request.Request.{Request}
use Rattle.http_messages.specs.declared.request.Request.TheVariants as request

-- a status with which bytes that begin with no head are refused: 400 or 431
abbrev pub IsHeadless : ℕ → Type 0
IsHeadless status = (status ≡ 400) ⊎ (status ≡ 431)

-- two statuses are equal, or both are of bytes that begin with no head
abbrev pub IsSameStatus : ℕ → ℕ → Type 0
IsSameStatus one other = (one ≡ other) ⊎ (IsHeadless one × IsHeadless other)

-- two names are of the same job: customers and numbers are equal
abbrev pub IsSameJob : JobName → JobName → Type 0
IsSameJob one other = (one.customer.now ≡ other.customer.now) × (one.number ≡ other.number)

-- two targets ask for the same: customers, numbers and all else are equal
abbrev pub IsSameTarget : Target → Target → Type 0
IsSameTarget (target.Submission job kind size switches) (target.Submission name form positions up) =
    IsSameJob job name × (kind ≡ form) × (size ≡ positions) × (switches ≡ up)
IsSameTarget (target.Job job command) (target.Job name other) =
    IsSameJob job name × (command ≡ other)
IsSameTarget (target.Jobs customer) (target.Jobs name) = customer.now ≡ name.now
IsSameTarget target.Queue target.Queue = ⊤
IsSameTarget one other = ⊥

-- two commands are the same: customers, numbers and all else are equal
abbrev pub IsSameCommand : Command → Command → Type 0
IsSameCommand (command.Submit customer number contents) (command.Submit name place handed) =
    (string_bytes customer ≡ string_bytes name) × (number ≡ place) × (contents ≡ handed)
IsSameCommand (command.Job customer number c) (command.Job name place d) =
    (string_bytes customer ≡ string_bytes name) × (number ≡ place) × (c ≡ d)
IsSameCommand (command.Jobs customer) (command.Jobs name) =
    string_bytes customer ≡ string_bytes name
IsSameCommand command.Queue command.Queue = ⊤
IsSameCommand one other = ⊥

-- two lists are of the same commands, in the same order
abbrev pub AreSameCommands : List Command → List Command → Type 0
AreSameCommands [] [] = ⊤
AreSameCommands (one ∷ ones) (other ∷ others) =
    IsSameCommand one other × AreSameCommands ones others
AreSameCommands ones others = ⊥

-- two requests are the same: refused with the same status, with the same fault in the deck's text,
-- or for the same command
abbrev pub IsSameRequest : Request → Request → Type 0
IsSameRequest (request.Refused status) (request.Refused other) = IsSameStatus status other
IsSameRequest (request.BadDeck fault) (request.BadDeck other) = fault ≡ other
IsSameRequest (request.Asks one) (request.Asks other) = IsSameCommand one other
IsSameRequest one other = ⊥
