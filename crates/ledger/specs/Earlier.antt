-- jobs whose cards and lines are only in the tables
use Rattle.machine.specs.Earlier.{with_earlier, without_outputs, IsBehind}
use Rattle.machine.specs.Run.{lines_of}
use Rattle.office.specs.Jobs.{Job, picture}
use Rattle.office.specs.Kept.{Kept, kept_of}

-- a job with its machine, which has none of the cards and lines that the job has made
abbrev pub kept_alone : Job → Kept
kept_alone job = record (kept_of job) { machine = without_outputs (picture job) }

-- such a job later on, with the cards and lines that it had made earlier
abbrev pub with_outputs_of : Job → Kept → Kept
with_outputs_of earlier kept = record kept {
  machine =
      with_earlier (picture earlier).works.units.punch.cards (lines_of (picture earlier)) kept.machine;
}

-- such a job later on: its machine counts the cards and lines that it had made earlier
abbrev pub HasCounted : Job → Kept → Type 0
HasCounted earlier kept =
    IsBehind (picture earlier).works.units.punch.cards (lines_of (picture earlier)) kept.machine
