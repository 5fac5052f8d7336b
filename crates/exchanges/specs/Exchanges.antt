-- how an exchange may end
use Rattle.std.specs.Prelude.{ℕ, Bool, ◌≡◌, ◌⊎◌, ◌<◌, List, Option, length, take, IfSome, IsTrue, ⊤}
use Rattle.std.specs.Io.KnownBytes.{Appends, Keeps}
use Rattle.machine.specs.Run.{risen}
use Rattle.sqlite.specs.Held.{Held, state}
use Rattle.sqlite.specs.State.{HasCleanDisk}
use Rattle.sqlite.specs.Tree.{Trees}
use Rattle.sqlite_trees.specs.declared.store.Store.{Ghosts}
use Rattle.office_tables.specs.Standing.{LeftAs, Stands}
use Rattle.office.specs.Meters.{RisenAtMost}
use Rattle.office.specs.Office.{Office, attempted, take as after}
use Rattle.office.specs.declared.commands.Command.{Command}
use Rattle.http_messages.specs.Fixed.{fault_bytes, fault_status}
use Rattle.http_messages.specs.declared.fixed.Fault.{Fault}
use Rattle.http_messages.specs.declared.fixed.Fault.TheVariants as fault
use Rattle.http_messages.specs.Requests.{IsRequestOf}
use Rattle.http_messages.specs.declared.request.Request.{Request}
use Rattle.http_messages.specs.declared.request.Request.TheVariants as request
use Rattle.exchanges.specs.Answers.{AnswersBroken, IsAnswer, IsOfFault, answer_of}
use Rattle.exchanges.specs.Answers.{attempted_for, limit_of}
use Rattle.exchanges.specs.declared.exchange_ends.Exchange.{Exchange}
use Rattle.exchanges.specs.declared.exchange_ends.Exchange.TheVariants as exchange

-- this is the request in the bytes of the reader, if those are known
abbrev pub WasRead : Option (List ℕ) → Request → Type 0
WasRead input r = IfSome input (λ bytes. IsRequestOf bytes r)

-- an exchange ends with a status and bytes for which `Comes` holds, all of them or only a part of
-- them written; or the reader failed, nothing was written, and `Unread` holds
abbrev pub EndsWith : (ℕ → List ℕ → Type 0) → Type 0 → Option (List ℕ) → Option (List ℕ)
    → Exchange → Type 0
EndsWith Comes Unread old_writer new_writer (exchange.Answered status sent) =
    (bytes : List ℕ) × Comes status bytes × (sent ≡ length bytes)
    × Appends old_writer new_writer bytes
EndsWith Comes Unread old_writer new_writer exchange.ReadFailed =
    Keeps old_writer new_writer × Unread
EndsWith Comes Unread old_writer new_writer (exchange.WriteFailed sent) =
    (status : ℕ) × (bytes : List ℕ) × Comes status bytes × (sent < length bytes)
    × Appends old_writer new_writer (take sent bytes)

-- the status and the bytes that a broken bureau answers to the bytes of a reader
abbrev pub ComesOfBroken : Option (List ℕ) → ℕ → List ℕ → Type 0
ComesOfBroken input status bytes =
    ((r : Request) × WasRead input r × AnswersBroken r status bytes)
    ⊎ IsOfFault fault.NoMemory status bytes

-- an exchange with a broken bureau ends with its answer, or the reader or the writer failed
abbrev pub EndsBroken : Option (List ℕ) → Option (List ℕ) → Option (List ℕ) → Exchange → Type 0
EndsBroken input = EndsWith (ComesOfBroken input) ⊤

-- the exchange may have ended with the answer for this fault
abbrev pub MayEndWith : Fault → Exchange → Type 0
MayEndWith f (exchange.Answered status sent) =
    (status ≡ fault_status f) × (sent ≡ length (fault_bytes f))
MayEndWith f exchange.ReadFailed = ⊥
MayEndWith f (exchange.WriteFailed sent) = sent < length (fault_bytes f)

-- the meter has risen by at most as many ticks as the request that was read may attempt, or by none
abbrev pub TicksForRead : Option (List ℕ) → ℕ → ℕ → Type 0
TicksForRead input meter risen_meter =
    ((r : Request) × WasRead input r × RisenAtMost (limit_of r) meter risen_meter)
    ⊎ (risen_meter ≡ meter)

module _ {S : Type 0} (g : Ghosts S) (new : Held S) (is_broken : Bool) (meter risen_meter : ℕ)
    (office : Office) where
  -- the tables represent this office, and the meter has risen by so many ticks
  abbrev pub Leaves : Office → ℕ → Type 0
  Leaves next often = Stands (state g new) next × (risen_meter ≡ risen meter often)

  -- the request has this answer, and the tables represent the office after it
  abbrev pub IsAnswered : Request → ℕ → List ℕ → Type 0
  IsAnswered r status bytes =
      IsAnswer r office status bytes × Leaves (answer_of r office).next (attempted_for r office)

  -- a crash leaves tables that represent the office before the command or the one after it
  abbrev pub LeavesEither : Command → Type 0
  LeavesEither command =
      (db : Trees) → (state g new).may_leave db
      → LeftAs db office ⊎ LeftAs db (after command office).0

  -- the tables and the meter after a fault of a command: after fault 1 the office as before, after
  -- fault 2 a broken bureau, after fault 3, no memory for the reply, the office after the command
  abbrev pub Faults : Command → Fault → Type 0
  Faults command fault.NoMemory =
      Stands (state g new) office × RisenAtMost (attempted command office) meter risen_meter
  Faults command fault.Store =
      IsTrue is_broken × LeavesEither command
      × RisenAtMost (attempted command office) meter risen_meter
  Faults command fault.NoMemoryForReply = Leaves (after command office).0 (attempted command office)

  -- the tables and the meter after a fault that is answered in place of the request's answer
  abbrev pub FaultsFor : Request → Fault → Type 0
  FaultsFor (request.Refused status) f = ⊥
  FaultsFor (request.BadDeck deck) f = (f ≡ fault.NoMemory) × Leaves office 0
  FaultsFor (request.Asks command) f = Faults command f

  -- the status and the bytes are the request's answer, or that of a fault which came in its place
  abbrev pub ComesTo : Request → ℕ → List ℕ → Type 0
  ComesTo r status bytes =
      IsAnswered r status bytes ⊎ ((f : Fault) × IsOfFault f status bytes × FaultsFor r f)

module _ {S : Type 0} (g : Ghosts S) (old new : Held S) (was_broken is_broken : Bool)
    (meter risen_meter : ℕ) where
  -- nothing was carried out
  abbrev pub IsUntouched : Type 0
  IsUntouched = (new ≡ old) × (is_broken ≡ was_broken) × (risen_meter ≡ meter)

  -- in each office that the tables represented, the request has this answer, or the answer of a
  -- fault which came in its place
  abbrev pub ComesInEach : Request → ℕ → List ℕ → Type 0
  ComesInEach r status bytes = HasCleanDisk (state g new) → (office : Office)
      → Stands (state g old) office
      → ComesTo g new is_broken meter risen_meter office r status bytes

  -- the status and the bytes are what the request in the reader's bytes is answered, or those of
  -- fault 1 if memory ran out for reading it
  abbrev pub Comes : Option (List ℕ) → ℕ → List ℕ → Type 0
  Comes input status bytes =
      ((r : Request) × WasRead input r × ComesInEach r status bytes)
      ⊎ (IsOfFault fault.NoMemory status bytes × IsUntouched)

  -- an exchange ends with such an answer, or the reader or the writer failed
  abbrev pub Ends : Option (List ℕ) → Option (List ℕ) → Option (List ℕ) → Exchange → Type 0
  Ends input = EndsWith (Comes input) IsUntouched
