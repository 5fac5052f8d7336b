-- the run of a script's commands
use Rattle.std.specs.Prelude.{◌≡◌, ◌+◌, ◌<◌, ◌≤◌, ℕ, List, ◌++◌, Option, Some, None, length, take as beginning_of}
use Rattle.std.specs.List.{flat_map, list_any}
use Rattle.office.specs.Office.{Office, fold}
use Rattle.office.specs.declared.commands.Command.{Command}
use Rattle.office.specs.declared.replies.Reply.{Reply}
use Rattle.ledger.specs.Shifting.{LeavesBeginning, StandsAfter, TicksWithin}
use Rattle.office_tables.specs.Standing.{Stands}
use Rattle.std.specs.Io.KnownBytes.{Appends}
use Rattle.scripts.specs.Replies.{fault_line, reply_line}
use Rattle.scripts.specs.Sending.{WritesPart, counted}
use Rattle.exchanges.specs.Steps.{Sends, is_refusal}
use Rattle.exchanges.specs.declared.script_ends.ScriptEnd.{ScriptEnd}
use Rattle.exchanges.specs.declared.script_ends.ScriptEnd.TheVariants as ended
use Rattle.exchanges.specs.declared.script_ends.Scripted.{Scripted}
use Rattle.sqlite.specs.Held.{Held, state}
use Rattle.sqlite.specs.State.{HasCleanDisk}
use Rattle.sqlite_trees.specs.declared.store.Store.{Ghosts}
use Rattle.ledger_tables.specs.Faults.{fault_number}
use Rattle.ledger_tables.specs.declared.faults.Fault.{Fault}

-- the lines of these replies, one after the other
abbrev pub reply_lines : List Reply → List ℕ
reply_lines = flat_map reply_line

-- the replies to the first so many commands
abbrev pub replies_to : ℕ → List Command → Office → List Reply
replies_to count commands office = (fold (beginning_of count commands) office).1

-- the office after the first so many commands
abbrev pub office_after : ℕ → List Command → Office → Office
office_after count commands office = (fold (beginning_of count commands) office).0

-- the fault that ended it, if a fault did
abbrev pub fault_of : ScriptEnd → Option Fault
fault_of (ended.Fault fault) = Some fault
fault_of other = None

-- the first bytes were written whole and then a beginning of the second, and the bytes were counted
abbrev pub SendsBegun : List ℕ → List ℕ → Option (List ℕ) → Option (List ℕ) → ℕ → ℕ → Type 0
SendsBegun front back old new before after =
    (count : ℕ) × (count ≤ length back) × Appends old new (front ++ beginning_of count back)
    × (after ≡ counted (before + (length front + count)))

-- the bytes written: the lines of all replies, and after a fault its line or a beginning of it; or
-- only a part of the lines, if the writer failed
abbrev pub HasWritten : ScriptEnd → List ℕ → Option (List ℕ) → Option (List ℕ) → ℕ → ℕ → Type 0
HasWritten ended.WriteFailed lines old new before after = WritesPart lines old new before after
HasWritten (ended.Fault fault) lines old new before after =
    SendsBegun lines (fault_line (fault_number fault)) old new before after
HasWritten other lines old new before after = Sends lines old new before after

-- how many commands were replied to: all, fewer if one met a fault, or at most all if the writer
-- failed
abbrev pub IsCount : ScriptEnd → ℕ → ℕ → Type 0
IsCount ended.Whole count all = count ≡ all
IsCount (ended.Fault fault) count all = count < all
IsCount ended.WriteFailed count all = count ≤ all
IsCount other count all = ⊥

-- a script's result tells of these replies: how many they are, whether one is a refusal, and the
-- bytes that were written of them
pub record TellsReplies (it : Scripted) (replies : List Reply) (written now : Option (List ℕ))
    : Type 0 where
  pub count : length replies ≡ it.acknowledged
  pub refused : it.refused ≡ list_any is_refusal replies
  pub text : HasWritten it.ended (reply_lines replies) written now 0 it.sent

module _ {S : Type 0} (g : Ghosts S) (old new : Held S) (commands : List Command)
    (it : Scripted) where
  -- the run of the commands: its replies and what is told of them; if the tables represented an
  -- office, the replies are that office's
  pub record Runs (written now : Option (List ℕ)) : Type 0 where
    pub replies : List Reply
    pub told : TellsReplies it replies written now
    pub are : HasCleanDisk (state g new) → (office : Office) → Stands (state g old) office
        → replies ≡ replies_to it.acknowledged commands office

  -- unless fault 2 came, the tables represent the office after the commands that were replied to
  abbrev pub RunStands : Type 0
  RunStands = StandsAfter g old new commands it.acknowledged (fault_of it.ended)

  -- a crash leaves tables of the office after a beginning of the given commands that holds every
  -- one that was replied to
  abbrev pub RunLeaves : Type 0
  RunLeaves = LeavesBeginning g old new commands it.acknowledged (fault_of it.ended)

  -- the meter has risen by the instructions that the commands with replies attempt, and by at most
  -- those of the command that met a fault
  abbrev pub RunTicks : ℕ → ℕ → Type 0
  RunTicks = TicksWithin g old new commands it.acknowledged (fault_of it.ended)
