-- one command of a script
use Rattle.std.specs.Prelude.{◌≡◌, ◌≢◌, ◌+◌, ◌≤◌, ℕ, Bool, true, false, List, Option, length, take}
use Rattle.std.specs.Io.KnownBytes.{Appends}
use Rattle.machine.specs.Run.{risen}
use Rattle.office.specs.Meters.{RisenAtMost}
use Rattle.office.specs.Office.{Office}
use Rattle.office.specs.declared.replies.Reply.{Reply}
use Rattle.office.specs.declared.replies.Reply.TheVariants as reply
use Rattle.office_tables.specs.Standing.{Stands}
use Rattle.scripts.specs.Replies.{fault_line, reply_line}
use Rattle.scripts.specs.Sending.{WritesPart, counted}
use Rattle.exchanges.specs.declared.steps.Step.{Step}
use Rattle.exchanges.specs.declared.steps.Step.TheVariants as step
use Rattle.sqlite.specs.Held.{Held, state}
use Rattle.sqlite.specs.State.{HasCleanDisk}
use Rattle.sqlite_trees.specs.declared.store.Store.{Ghosts}
use Rattle.ledger_tables.specs.Faults.{fault_number}
use Rattle.ledger_tables.specs.declared.faults.Fault.{Fault}
use Rattle.ledger_tables.specs.declared.faults.Fault.TheVariants.{Store}

-- whether a reply is a refusal
abbrev pub is_refusal : Reply → Bool
is_refusal (reply.Refused reason) = true
is_refusal other = false

-- the bytes were written whole and counted
abbrev pub Sends : List ℕ → Option (List ℕ) → Option (List ℕ) → ℕ → ℕ → Type 0
Sends bytes old new before after =
    Appends old new bytes × (after ≡ counted (before + length bytes))

-- a beginning of the bytes, or all of them, was written and counted
abbrev pub SendsSome : List ℕ → Option (List ℕ) → Option (List ℕ) → ℕ → ℕ → Type 0
SendsSome bytes old new before after =
    (count : ℕ) × (count ≤ length bytes) × Appends old new (take count bytes)
    × (after ≡ counted (before + count))

module _ {S : Type 0} (g : Ghosts S) (old new : Held S) where
  -- if the tables represented an office, this is its reply to the change, and they represent the
  -- office after it
  abbrev pub IsReplyTo : (Office → Office × Reply) → Reply → Type 0
  IsReplyTo change reply = HasCleanDisk (state g new) → (office : Office)
      → Stands (state g old) office
      → (reply ≡ (change office).1) × Stands (state g new) (change office).0

  -- after a fault that is not fault 2, the tables represent the same office as before
  abbrev pub KeepsUnless : Fault → Type 0
  KeepsUnless fault = fault ≢ Store → HasCleanDisk (state g new) → (office : Office)
      → Stands (state g old) office → Stands (state g new) office

  -- the bureau replied, and the reply's line was written, or a part of it; or a fault came, and its
  -- line was written, or a beginning of it
  abbrev pub IsStep : Step → (Office → Office × Reply) → Option (List ℕ) → Option (List ℕ)
      → ℕ → ℕ → Type 0
  IsStep (step.Replied refused) change written now before after =
      (reply : Reply) × IsReplyTo change reply × (refused ≡ is_refusal reply)
      × Sends (reply_line reply) written now before after
  IsStep (step.Unwritten refused) change written now before after =
      (reply : Reply) × IsReplyTo change reply × (refused ≡ is_refusal reply)
      × WritesPart (reply_line reply) written now before after
  IsStep (step.Faulted fault) change written now before after =
      KeepsUnless fault
      × SendsSome (fault_line (fault_number fault)) written now before after

  -- the meter has risen by so many ticks, or by at most as many if a fault came
  abbrev pub StepTicks : Step → ℕ → ℕ → ℕ → Type 0
  StepTicks (step.Faulted fault) often meter risen_meter = RisenAtMost often meter risen_meter
  StepTicks other often meter risen_meter = risen_meter ≡ risen meter often

  -- if the tables represented an office, the meter has risen by the ticks of that office's command
  abbrev pub TicksTo : Step → (Office → ℕ) → ℕ → ℕ → Type 0
  TicksTo it often meter risen_meter = HasCleanDisk (state g new) → (office : Office)
      → Stands (state g old) office → StepTicks it (often office) meter risen_meter
