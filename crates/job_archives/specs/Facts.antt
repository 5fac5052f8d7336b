-- what a job's archive says, read back
use Rattle.std.specs.Prelude.{ℕ, Bool, List, map}
use Rattle.core_store.specs.declared.sizes.Size.{Size}
use Rattle.units.specs.declared.pockets.Pocket.{Pocket}
use Rattle.units.specs.declared.profiles.Profile.{Profile}
use Rattle.office.specs.Jobs.{cards_by}
use Rattle.office.specs.Office.{Entry}
use Rattle.office.specs.declared.commands.Kind.{Kind}
use Rattle.office.specs.declared.stretches.Stretch.{Stretch}
use Rattle.office_tables.specs.Standing.{CanBeKept}
use Rattle.job_checks.specs.Kept.{IsNamed}

-- what a record says of a job: its name, its kind, size and profile, its stretches and flags, and
-- the pockets of the cards that it has punched
pub record Facts : Type 0 where
  pub customer : List ℕ
  pub number : ℕ
  pub kind : Kind
  pub size : Size
  pub profile : Profile
  pub stretches : List Stretch
  pub held : Bool
  pub collected : Bool
  pub pockets : List Pocket

-- these facts of an entry's job
abbrev pub facts_of : Entry → Facts
facts_of e = record {
  customer = e.customer;
  number = e.number;
  kind = e.job.kind;
  size = e.job.size;
  profile = e.job.profile;
  stretches = e.job.stretches;
  held = e.job.held;
  collected = e.job.collected;
  pockets = map (λ c. c.pocket) (cards_by e.job);
}

-- the entry can be archived: its job has a name that a job may have, and can be kept
pub record IsFiled (e : Entry) : Type 0 where
  pub named : IsNamed e
  pub can : CanBeKept e.job
