-- a job whose row and contents were read, run again
use Rattle.std.specs.Prelude.{◌≡◌, ℕ, pos, true, List, [], ◌∷◌, Result, IfOk, IfErr}
use Rattle.cards.specs.declared.decks.Card.{Card}
use Rattle.core_store.specs.Storage.{positions_of}
use Rattle.units.specs.declared.profiles.Profile.{Profile}
use Rattle.machine.specs.Run.{State}
use Rattle.office.specs.Jobs.{Job, picture}
use Rattle.texts.specs.Names.{is_customer, is_number}
use Rattle.office.specs.Office.{Entry}
use Rattle.office.specs.declared.stretches.Stretch.{Stretch}
use Rattle.ledger_rows.specs.Columns.{truth}
use Rattle.sqlite.specs.Order.{Row, column}
use Rattle.sqlite.specs.Tree.{Trees}
use Rattle.sqlite.specs.declared.types.Value.TheVariants.{Blob, Int, Text}
use Rattle.ledger_tables.specs.Tables.{job_row}
use Rattle.office_tables.specs.Standing.{named, CanBeKept}
use Rattle.office.specs.Numbers.{kind_number}
use Rattle.job_checks.specs.Kept.{IsKept, IsNamed}
use Rattle.job_checks.specs.Outcomes.{IsAsItRan}
use Rattle.job_checks.specs.Tables.{AreRowsOfJob, TableRows}
use Rattle.job_checks.specs.declared.reports.JobReport.{JobReport}
use Rattle.job_checks.specs.declared.submitted.Numbers.{Numbers}

-- the row of a job of this name with these numbers, and with these bytes of its deck and of the
-- deck that it loads
abbrev pub row_of : List ℕ → ℕ → Numbers → List ℕ → List ℕ → Row
row_of customer number it deck loaded = Text customer ∷ Int (pos number)
    ∷ Int (pos (kind_number it.kind)) ∷ Int (pos (positions_of it.size)) ∷ Blob deck
    ∷ Blob loaded ∷ Int (pos (truth it.held)) ∷ Int (pos (truth it.collected)) ∷ []

-- the kind, the size and the flags of a job
abbrev pub numbers_of : Job → Numbers
numbers_of job = record {
  kind = job.kind;
  size = job.size;
  held = job.held;
  collected = job.collected;
}

-- the entry of this name with these numbers, this deck and profile, and these stretches
abbrev pub entry_of : List ℕ → ℕ → Numbers → List Card → Profile → List Stretch → Entry
entry_of customer number it deck profile stretches = record {
  customer = customer;
  number = number;
  job = record {
    kind = it.kind;
    size = it.size;
    deck = deck;
    profile = profile;
    stretches = stretches;
    held = it.held;
    collected = it.collected;
  };
}

-- the entry of this name with this job
abbrev pub told_entry : List ℕ → ℕ → Job → Entry
told_entry customer number job = record { customer = customer; number = number; job = job }

-- the entry has a name that a job may have, its job can be kept, and its machine has come to this
-- state
pub record HasComeTo (e : Entry) (m : State) : Type 0 where
  pub named : IsNamed e
  pub can : CanBeKept e.job
  pub machine : m ≡ picture e.job

-- the row is that of the entry's job, whose other rows are kept too
pub record HasRunAs (rows : TableRows) (it : Row) (e : Entry) : Type 0 where
  pub row : it ≡ job_row (named e)
  pub kept : IsKept rows e

-- the row begins with a name that a job may have
pub record IsNameOf (it : Row) (customer : List ℕ) (number : ℕ) : Type 0 where
  pub text : column it 0 ≡ Text customer
  pub int : column it 1 ≡ Int (pos number)
  pub lawful_text : is_customer customer ≡ true
  pub lawful_int : is_number number ≡ true

-- the row is that of the entry's job, which has a name that a job may have
pub record HasRun (rows : TableRows) (it : Row) (e : Entry) : Type 0 where
  pub named : IsNamed e
  pub run : HasRunAs rows it e

-- the same, and the job's other rows are those of the tables
pub record RunsIn (db : Trees) (it : Row) (e : Entry) : Type 0 where
  pub row : it ≡ job_row (named e)
  pub named : IsNamed e
  pub kept : (rows : TableRows) → AreRowsOfJob db e.customer e.number rows → IsKept rows e

-- what came of the job of a row of `jobs`: its entry if it ran so, else what is told of it, and
-- then no entry ran so
pub record IsFound (db : Trees) (it : Row) (found : Result Entry JobReport) : Type 0 where
  pub run : IfOk found (RunsIn db it)
  pub told : IfErr found (λ report. ¬ IsAsItRan report.outcome)
  pub other : IfErr found (λ report. (e : Entry) → ¬ RunsIn db it e)
