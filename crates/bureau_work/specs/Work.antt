-- what work with a bureau tells of the commands that were carried out
use Rattle.std.specs.Prelude.{◌≡◌, ◌⊎◌, ℕ, Bool, true, false, List, [], ◌∷◌, Option, Result, Ok, Err, IfErr, IfOk, string_bytes, Vec}
use Rattle.std.specs.declared.alloc.Global.{Global}
use Rattle.std.specs.List.{AllByRecursion}
use Rattle.std.specs.Io.KnownBytes.{Keeps}
use Rattle.cards.specs.Files.{punch_file_of}
use Rattle.units.specs.Listing.{IsRising, rendered}
use Rattle.exchanges.specs.Work.{TellsScript}
use Rattle.exchanges.specs.declared.script_ends.ScriptEnd.{ScriptEnd}
use Rattle.exchanges.specs.declared.script_ends.ScriptEnd.TheVariants as ended
use Rattle.exchanges.specs.declared.script_ends.Scripted.{Scripted}
use Rattle.ledger_tables.specs.declared.faults.Fault.TheVariants.{NoMemory, Store}
use Rattle.ledger_tables.specs.declared.openings.OpenFault.TheVariants as opening
use Rattle.office.specs.declared.commands.Command.{Command}
use Rattle.office.specs.declared.commands.Command.TheVariants.{Job as OnJob}
use Rattle.office.specs.declared.commands.JobCommand.{JobCommand}
use Rattle.office.specs.declared.commands.JobCommand.TheVariants.{Cards, Lines}
use Rattle.office.specs.declared.replies.Reply.{Reply}
use Rattle.office.specs.declared.replies.Reply.TheVariants as reply
use Rattle.office.specs.Numbers.{refusal_number}
use Rattle.office.specs.declared.stackers.Stacker.{Stacker}
use Rattle.bureau_work.specs.declared.exporting.Part.{Part}
use Rattle.bureau_work.specs.declared.exporting.Part.TheVariants as part
use Rattle.bureau_work.specs.declared.outcomes.Outcome.{Outcome}
use Rattle.bureau_work.specs.declared.outcomes.Outcome.TheVariants as outcome

-- the bytes that a writer has, if they are known
abbrev pub Bytes : Type 0
Bytes = Option (List ℕ)

-- the outcome after a script that ended so, with a refusal or without one, and with so many
-- commands acknowledged: what went wrong is on the output but for fault 2
abbrev pub outcome_by : ScriptEnd → Bool → ℕ → Outcome
outcome_by ended.Whole true acknowledged = outcome.Shown
outcome_by ended.Whole false acknowledged = outcome.Done
outcome_by ended.Bad refused acknowledged = outcome.Shown
outcome_by (ended.Fault NoMemory) refused acknowledged = outcome.Shown
outcome_by (ended.Fault Store) refused acknowledged = outcome.Stopped acknowledged
outcome_by ended.ReadFailed refused acknowledged = outcome.Device
outcome_by ended.WriteFailed refused acknowledged = outcome.Device

-- the outcome after a script with this result
abbrev pub outcome_of : Scripted → Outcome
outcome_of it = outcome_by it.ended it.refused it.acknowledged

-- a script's file could not be opened; or the script was carried out, its lines are on the output,
-- and the outcome is that of its end, unless the output could not be flushed
abbrev pub TellsApply : Bytes → Bytes → Outcome → List Command → List Reply → Type 0
TellsApply old new own done replies =
    ((own ≡ outcome.Device) × (done ≡ []) × (replies ≡ []) × (new ≡ old))
    ⊎ ((it : Scripted) × (input : Bytes) × (between : Bytes)
    × TellsScript input old between it done replies × Keeps between new
    × ((own ≡ outcome_of it) ⊎ (own ≡ outcome.Device)))

-- the command is this one on the job of this name
abbrev pub IsOnJob : List ℕ → ℕ → JobCommand → Command → Type 0
IsOnJob customer number c (OnJob name place it) =
    (string_bytes name ≡ customer) × (place ≡ number) × (it ≡ c)
IsOnJob customer number c other = ⊥

-- each command that was carried out is this one on the job of this name
abbrev pub TellsAsked : List ℕ → ℕ → JobCommand → List Command → List Reply → Type 0
TellsAsked customer number c done replies = AllByRecursion (IsOnJob customer number c) done

-- the query for a part of what a job has made: for its cards from a stacker, or for its lines
abbrev pub query_for : Part → JobCommand
query_for (part.Cards from) = Cards from
query_for part.Lines = Lines

-- the command is a query for the job's cards, from some stacker, or for its lines
abbrev pub AsksForMade : List ℕ → ℕ → Command → Type 0
AsksForMade customer number it =
    ((from : Stacker) × IsOnJob customer number (Cards from) it)
    ⊎ IsOnJob customer number Lines it

-- each command that was carried out is such a query
abbrev pub TellsExport : List ℕ → ℕ → List Command → List Reply → Type 0
TellsExport customer number done replies = AllByRecursion (AsksForMade customer number) done

-- these bytes were made, or there was no memory
abbrev pub AreMade : List ℕ → Result (Vec ℕ Global) Outcome → Type 0
AreMade bytes made = IfOk made (λ file. file.items ≡ bytes)
    × IfErr made (λ own. own ≡ outcome.Fault opening.NoMemory)

-- the file for a reply: the cards as a punch file, the lines as a listing, no bytes for a reply of
-- another sort; and of a refusal none, and it is the outcome
abbrev pub IsFileFor : Reply → Result (Vec ℕ Global) Outcome → Type 0
IsFileFor (reply.Refused reason) made = made ≡ Err (outcome.Refused (refusal_number reason))
IsFileFor (reply.Cards cards) made = AreMade (punch_file_of cards) made
IsFileFor (reply.Lines lines) made = IsRising lines → AreMade (rendered lines) made
IsFileFor other made = AreMade [] made

-- some commands were carried out and replied to, of which this is told
pub record IsWork (Tells : List Command → List Reply → Type 0) : Type 0 where
  pub commands : List Command
  pub replies : List Reply
  pub told : Tells commands replies
