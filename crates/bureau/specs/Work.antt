-- what the subcommands on a bureau's file tell of the commands that were carried out
use Rattle.std.specs.Prelude.{◌≡◌, ◌⊎◌, ℕ, List, Option, IfErr, IfOk}
use Rattle.sqlite_disk.specs.declared.Disk.{Ghosts}
use Rattle.sqlite.specs.Recovery.{Image}
use Rattle.ledger_files.specs.Rounds.{IsRound, MayLeaveClosed}
use Rattle.ledger_files.specs.Unfinished.{IsUnfinished}
use Rattle.ledger_tables.specs.declared.openings.OpenFault.{OpenFault}
use Rattle.office.specs.declared.commands.Command.{Command}
use Rattle.office.specs.declared.replies.Reply.{Reply}
use Rattle.bureau_work.specs.Outcomes.{closing_with}
use Rattle.bureau_work.specs.Visits.{AreUnknown, IsMissed, IsUnknown, TellsServe}
use Rattle.bureau_work.specs.Work.{Bytes, IsWork, TellsApply}
use Rattle.bureau_work.specs.declared.outcomes.Outcome.{Outcome}
use Rattle.bureau_work.specs.declared.outcomes.Outcome.TheVariants as outcome
use Rattle.bureau_work.specs.declared.ports.Port.{Port}
use Rattle.bureau.specs.Outcomes.{with_file}
use Rattle.bureau.specs.declared.ended.Ended.{Ended}

-- the outcome of a subcommand: that of its work, or the fault if the file could not be opened, or
-- closed
abbrev pub outcome_in : {D : Type 0} {g : Ghosts D} → Ended D g → Outcome
outcome_in ended = with_file ended.file ended.work

-- the subcommand's work with the bureau of these files, by its own outcome: the files were closed,
-- and it is a round from them to whatever a crash leaves; or they were not, and no work was done,
-- or it tells this
abbrev pub HasEndedFrom : {D : Type 0} {g : Ghosts D} → Image → Ended D g → Type 0
    → (List Command → List Reply → Type 0) → Type 0
HasEndedFrom files ended Idle Tells =
    IfOk ended.file (λ closed. IsRound files (MayLeaveClosed closed) Tells)
    × IfErr ended.file (IsUnfinished files Idle Tells)

-- the clients of a port were served, so many of them, to this outcome
abbrev pub TellsPort : ℕ → Outcome → List Command → List Reply → Type 0
TellsPort count own done replies = (before after : Option Port)
    × TellsServe (λ b a. AreUnknown) (λ b a. IsMissed) (λ b a. IsUnknown) count own before after
    done replies

-- no script was applied: nothing is on the output
abbrev pub HasNotApplied : Outcome → Bytes → Bytes → Type 0
HasNotApplied own old new = (own ≡ outcome.Done) × (new ≡ old)

-- a script was applied to the bureau in a file, with this outcome and with these bytes on the
-- output, whatever came of the file then; or the file could not be opened, and nothing is on the
-- output
abbrev pub HasApplied : Outcome → Bytes → Bytes → Type 0
HasApplied it old new =
    ((fault : OpenFault) × (it ≡ outcome.Fault fault) × (new ≡ old))
    ⊎ ((own : Outcome) × ((it ≡ own) ⊎ ((fault : OpenFault) × (it ≡ closing_with fault own)))
    × IsWork (TellsApply old new own))
