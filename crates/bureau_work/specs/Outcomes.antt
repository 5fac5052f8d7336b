-- the outcomes of work with a bureau
use Rattle.std.specs.Prelude.{ℕ, List, [], ◌∷◌, ◌++◌, Option, codes, decimal}
use Rattle.std.specs.Io.KnownBytes.{Appends, Keeps}
use Rattle.cards.specs.Files.{line_feed}
use Rattle.command_line.specs.declared.statuses.Status.{Status}
use Rattle.command_line.specs.declared.statuses.Status.TheVariants as status
use Rattle.ledger_tables.specs.Versions.{opening_number}
use Rattle.ledger_tables.specs.declared.openings.OpenFault.{OpenFault}
use Rattle.ledger_tables.specs.declared.openings.OpenFault.TheVariants as opening
use Rattle.bureau_work.specs.declared.outcomes.Outcome.{Outcome}
use Rattle.bureau_work.specs.declared.outcomes.Outcome.TheVariants as outcome

-- the exit status of an outcome: 3 if the bureau's file could not be used, 1 if anything else went
-- wrong
abbrev pub status_of : Outcome → Status
status_of outcome.Done = status.Done
status_of outcome.Shown = status.NotDone
status_of (outcome.Stopped acknowledged) = status.Unusable
status_of (outcome.Refused number) = status.NotDone
status_of (outcome.Fault opening.NoMemory) = status.NotDone
status_of (outcome.Fault opening.Store) = status.Unusable
status_of (outcome.Fault opening.NotABureau) = status.Unusable
status_of (outcome.Fault (opening.Old version)) = status.Unusable
status_of outcome.Device = status.NotDone

-- the outcome where the bureau's file could not be opened, or closed at the end: this fault, unless
-- a fault came before
abbrev pub closing_with : OpenFault → Outcome → Outcome
closing_with fault (outcome.Fault earlier) = outcome.Fault earlier
closing_with fault (outcome.Stopped acknowledged) = outcome.Stopped acknowledged
closing_with fault other = outcome.Fault fault

-- this line was printed, with a line feed
abbrev pub IsLine : List ℕ → Option (List ℕ) → Option (List ℕ) → Type 0
IsLine line old new = Appends old new (line ++ line_feed ∷ [])

-- what was printed on the standard error: one line, but nothing if all was done or the output has
-- what went wrong
abbrev pub HasShown : Outcome → Option (List ℕ) → Option (List ℕ) → Type 0
HasShown outcome.Done old new = Keeps old new
HasShown outcome.Shown old new = Keeps old new
HasShown (outcome.Stopped acknowledged) old new =
    IsLine (codes "acknowledged " ++ decimal acknowledged) old new
HasShown (outcome.Refused number) old new = IsLine (codes "refused " ++ decimal number) old new
HasShown (outcome.Fault fault) old new =
    IsLine (codes "fault " ++ decimal (opening_number fault)) old new
HasShown outcome.Device old new = IsLine (codes "fault device") old new
