-- what a command makes of a job
use Rattle.std.proofs.Common.{◌≡◌, ℕ, ◌+◌, ◌<◌, ◌≤◌, nat_lt, length, Bool, true, false, Option, None, Some, refl, sym, ap, arith}
use Rattle.std.proofs.lemmas.Bool.Decides.{nat_tests}
use Rattle.machine.specs.Run.{State, after, started}
use Rattle.machine.specs.Standings.{goes_on, is_at_halt, standing_at}
use Rattle.machine.specs.declared.standings.Standing.{Standing}
use Rattle.machine.specs.declared.standings.Standing.TheVariants as standing
use Rattle.units.specs.Switches.{seven}
use Rattle.units.specs.declared.switches.Switches.{Switches}
use Rattle.office.specs.Limits.{most_granted}
use Rattle.office.specs.Jobs.{Job, picture, sliced_job, started_job}
use Rattle.office.specs.Kept.{Kept, kept_of, summary_of, job_refusal, changed, taken_unless, take_kept, changed_job, job_unless, job_after}
use Rattle.office.specs.declared.commands.JobCommand.{JobCommand}
use Rattle.office.specs.declared.commands.JobCommand.TheVariants.{Slice, Start}
use Rattle.office.specs.declared.summaries.Summary.{Summary}
use Rattle.office.specs.declared.refusals.Refusal.{Refusal}

-- ---- what is known of a command that isn't refused

pub more_fits_by : (limit : ℕ) (job : Summary) → job_refusal (Slice limit) job ≡ None → job.granted + limit ≤ most_granted
more_fits_by limit job none = go job.collected refl job.held refl (goes_on job.standing) refl (nat_lt most_granted (job.granted + limit)) refl
  where
    go : (a : Bool) → job.collected ≡ a → (b : Bool) → job.held ≡ b → (c : Bool) → goes_on job.standing ≡ c → (d : Bool) → nat_lt most_granted (job.granted + limit) ≡ d → job.granted + limit ≤ most_granted
    go true one b two c three d four = absurd (let e = rw one at none in cc)
    go false one true two c three d four = absurd (let e = rw (one, two) at none in cc)
    go false one false two false three d four = absurd (let e = rw (one, two, three) at none in cc)
    go false one false two true three true four = absurd (let e = rw (one, two, three, four) at none in cc)
    go false one false two true three false four = grind (arith, nat_tests)

at_halt_by : (switches : Switches) (job : Summary) → job_refusal (Start switches) job ≡ None → is_at_halt job.standing ≡ true
at_halt_by switches job none = go job.collected refl job.held refl (is_at_halt job.standing) refl
  where
    go : (a : Bool) → job.collected ≡ a → (b : Bool) → job.held ≡ b → (c : Bool) → is_at_halt job.standing ≡ c → is_at_halt job.standing ≡ true
    go true one b two c three = absurd (let e = rw one at none in cc)
    go false one true two c three = absurd (let e = rw (one, two) at none in cc)
    go false one false two false three = absurd (let e = rw (one, two, three) at none in cc)
    go false one false two true three = three

halted_at : (at : Standing) (i : ℕ) → is_at_halt (standing_at at i) ≡ true → at ≡ standing.Halted
halted_at standing.Running i is = absurd (let e = is in cc)
halted_at standing.Halted i is = refl
halted_at (standing.Checked check) i is = absurd (let e = is in cc)

-- a machine that is started stands at a halt
pub halted_by : (switches : Switches) (k : Kept) → job_refusal (Start switches) (summary_of k) ≡ None → k.machine.standing ≡ standing.Halted
halted_by switches k none = halted_at k.machine.standing k.machine.works.registers.i (at_halt_by switches (summary_of k) none)

-- ---- the machine goes with the stretches

abbrev pub GoesOnSliced : Type 0
GoesOnSliced = (job : Job) (limit : ℕ) → 0 < length job.stretches → picture (sliced_job limit job) ≡ after (picture job) limit

abbrev pub GoesOnStarted : Type 0
GoesOnStarted = (job : Job) (switches : Switches) → picture (started_job switches job) ≡ started (picture job) switches

module _ (sliced : GoesOnSliced) (started_is : GoesOnStarted) where
  changes : (c : JobCommand) (job : Job) → 0 < length job.stretches → changed c (kept_of job) ≡ kept_of (changed_job c job)
  changes (Slice limit) job some = ap (λ (m : State). let k : Kept = record { stretches = (sliced_job limit job).stretches; held = job.held; collected = job.collected; machine = m } in k) (sym (sliced job limit some))
  changes (Start switches) job some = ap (λ (m : State). let k : Kept = record { stretches = (started_job (seven switches) job).stretches; held = job.held; collected = job.collected; machine = m } in k) (sym (started_is job (seven switches)))
  changes other job some = refl

  pub acts : (c : JobCommand) (job : Job) → 0 < length job.stretches → (take_kept c (kept_of job)).0 ≡ kept_of (job_after c job)
  acts c job some = go (job_refusal c (summary_of (kept_of job)))
    where
      go : (o : Option Refusal) → (taken_unless c (kept_of job) o).0 ≡ kept_of (job_unless c job o)
      go (Some reason) = refl
      go None = changes c job some
