-- how the run of a script ended
use Rattle.std.specs.Prelude.{◌≡◌, ◌≢◌, ◌⊎◌, ◌<◌, ℕ, false, List, [], Option, length}
use Rattle.office.specs.declared.commands.Command.{Command}
use Rattle.scripts.specs.Reading.{IsReadOf}
use Rattle.scripts.specs.Replies.{bad_line, fault_line}
use Rattle.scripts.specs.Scripts.{IsFaultOf, IsScriptOf}
use Rattle.scripts.specs.Sending.{WritesPart}
use Rattle.scripts.specs.declared.faults.ScriptFault.{ScriptFault}
use Rattle.scripts.specs.declared.faults.ScriptFault.TheVariants as fault
use Rattle.exchanges.specs.Running.{IsCount, RunLeaves, RunStands, RunTicks, Runs}
use Rattle.exchanges.specs.Steps.{Sends, SendsSome}
use Rattle.exchanges.specs.declared.script_ends.ScriptEnd.TheVariants as ended
use Rattle.exchanges.specs.declared.script_ends.Scripted.{Scripted}
use Rattle.sqlite.specs.Held.{Held}
use Rattle.sqlite_trees.specs.declared.store.Store.{Ghosts}
use Rattle.ledger_tables.specs.declared.faults.Fault.TheVariants.{NoMemory, Store}

-- the bytes that were read are the script of these commands
abbrev pub ReadAs : Option (List ℕ) → List Command → Type 0
ReadAs remaining commands = (text : List ℕ) × IsReadOf remaining text × IsScriptOf text commands

-- the bytes that were read are no script, for this reason
abbrev pub ReadBad : Option (List ℕ) → ScriptFault → Type 0
ReadBad remaining reason = (text : List ℕ) × IsReadOf remaining text × IsFaultOf text reason

-- the line with the reason why the bytes are no script was written whole; or in part, and the
-- writer failed
abbrev pub TurnsDown : ScriptFault → Scripted → Option (List ℕ) → Option (List ℕ) → Type 0
TurnsDown reason it written now =
    ((it.ended ≡ ended.Bad) × Sends (bad_line reason) written now 0 it.sent)
    ⊎ ((it.ended ≡ ended.WriteFailed) × WritesPart (bad_line reason) written now 0 it.sent)

-- no command was replied to, and so none refused
abbrev pub HasNoReply : Scripted → Type 0
HasNoReply it = (it.acknowledged ≡ 0) × (it.refused ≡ false)

-- memory ran out: the line of fault 1 was written, or a beginning of it
abbrev pub GivesUp : Scripted → Option (List ℕ) → Option (List ℕ) → Type 0
GivesUp it written now =
    (it.ended ≡ ended.Fault NoMemory) × SendsSome (fault_line 1) written now 0 it.sent

-- the reader failed, and nothing was written
abbrev pub IsUnread : Scripted → Option (List ℕ) → Option (List ℕ) → Type 0
IsUnread it written now = (it.ended ≡ ended.ReadFailed) × (it.sent ≡ 0) × (now ≡ written)

-- the bytes are no script, and the line with the reason was written, or a part of it
abbrev pub IsBad : Scripted → Option (List ℕ) → Option (List ℕ) → Option (List ℕ) → Type 0
IsBad it remaining written now =
    (reason : ScriptFault) × (reason ≢ fault.NoMemory) × ReadBad remaining reason
    × TurnsDown reason it written now

-- no command was applied: the reader failed, memory ran out, or the bytes are no script
abbrev pub IsNotRun : Scripted → Option (List ℕ) → Option (List ℕ) → Option (List ℕ) → Type 0
IsNotRun it remaining written now =
    HasNoReply it
    × (IsUnread it written now ⊎ (GivesUp it written now ⊎ IsBad it remaining written now))

module _ {S : Type 0} (g : Ghosts S) (old new : Held S) (meter risen_meter : ℕ) where
  -- no command was applied, and so nothing changed
  abbrev pub AppliesNone : Scripted → Option (List ℕ) → Option (List ℕ) → Option (List ℕ) → Type 0
  AppliesNone it remaining written now =
      (new ≡ old) × (risen_meter ≡ meter) × IsNotRun it remaining written now

  -- the bytes are a script, and its commands were carried out up to its end
  abbrev pub CarriesOut : Scripted → Option (List ℕ) → Option (List ℕ) → Option (List ℕ) → Type 0
  CarriesOut it remaining written now =
      (commands : List Command) × ReadAs remaining commands
      × IsCount it.ended it.acknowledged (length commands)
      × Runs g old new commands it written now × RunStands g old new commands it
      × RunLeaves g old new commands it × RunTicks g old new commands it meter risen_meter

  -- a script ended with no command applied, or its commands were carried out
  abbrev pub Ends : Scripted → Option (List ℕ) → Option (List ℕ) → Option (List ℕ) → Type 0
  Ends it remaining written now =
      AppliesNone it remaining written now ⊎ CarriesOut it remaining written now

-- the commands of a script that a broken bureau was handed: the first met fault 2, and its line was
-- written, or a beginning of it; or there is none
abbrev pub StopsAtFirst : List Command → Scripted → Option (List ℕ) → Option (List ℕ) → Type 0
StopsAtFirst commands it written now =
    HasNoReply it
    × (((commands ≡ []) × (it.ended ≡ ended.Whole) × (it.sent ≡ 0) × (now ≡ written))
    ⊎ ((0 < length commands) × (it.ended ≡ ended.Fault Store)
    × SendsSome (fault_line 2) written now 0 it.sent))

-- the end of a script that a broken bureau was handed
abbrev pub IsEndOfBroken : Scripted → Option (List ℕ) → Option (List ℕ) → Option (List ℕ) → Type 0
IsEndOfBroken it remaining written now =
    IsNotRun it remaining written now
    ⊎ ((commands : List Command) × ReadAs remaining commands
    × StopsAtFirst commands it written now)
