-- What is shown of a job, and commands that need no more.
use Rattle.std.proofs.Common.{◌≡◌, ◌≤◌, ◌-◌, ◌^◌, ℕ, min, List, map, Bool, true, Option, None, Some, refl, sym, ap, subst, ◌∙◌, arith}
use Rattle.office.specs.Jobs.{Job, granted, picture, IsJob}
use Rattle.machine.specs.Standings.{standing_of}
use Rattle.office.specs.Kept.{Kept, kept_of, summary_of, job_refusal, is_query, answered, changed_job, attempts_unless, taken_unless, take_kept, job_unless, job_after, flag_command, on_flags}
use Rattle.office.specs.Limits.{most_granted}
use Rattle.office.specs.Office.{Office, job_of, with_job, commanded, attempted_of}
use Rattle.office.specs.declared.commands.JobCommand.{JobCommand}
use Rattle.office.specs.declared.commands.JobCommand.TheVariants.{Standing as Tell, Cards, Lines}
use Rattle.office.specs.declared.flags.FlagCommand.{FlagCommand}
use Rattle.office.specs.declared.flags.FlagCommand.TheVariants.{Hold, Release, Collect, Standing}
use Rattle.office.specs.declared.flags.NewFlags.{NewFlags}
use Rattle.office.specs.declared.stackers.Stacker.{Stacker}
use Rattle.office.specs.declared.refusals.Refusal.{Refusal}
use Rattle.office.specs.declared.replies.Reply.{Reply}
use Rattle.office.specs.declared.replies.Reply.TheVariants as reply
use Rattle.office.specs.declared.summaries.Summary.{Summary}
use Rattle.machine.specs.declared.standings.StandingAt.{StandingAt}
use Rattle.ledger_tables.specs.Tables.{AreDistinct}
use Rattle.ledger_rows.specs.Progress.{progress_of}
use Rattle.ledger.specs.Saving.{flagged_job}
use Rattle.sqlite.specs.State.{State}
use Rattle.office_tables.specs.Standing.{named, StandsIn, Served}
use Rattle.ledger.proofs.Replies.{command_done}
use Rattle.ledger.proofs.SavingChanges.{same_job, unchanged_saved}

-- what was granted is told as it is
pub granted_fits : (job : Job) (n : ℕ) → granted job.stretches ≤ most_granted → n ≡ min (granted job.stretches) (2 ^ 32 - 1) → n ≡ granted job.stretches
granted_fits job n fits is = omega (arith, fits, is)

pub summary_is : (standing : StandingAt) (held collected : Bool) (granted_to cards lines : ℕ) (job : Job) → standing ≡ standing_of (picture job) → held ≡ job.held → collected ≡ job.collected → granted_to ≡ granted job.stretches
    → cards ≡ (progress_of (picture job)).cards → lines ≡ (progress_of (picture job)).lines
    → ◌≡◌ {A = Summary} (record { standing = standing; held = held; collected = collected; granted = granted_to; cards = cards; lines = lines }) (summary_of (kept_of job))
summary_is standing held collected granted_to cards lines job one two three four five six = rw (one, two, three, four, five, six)

-- a job with other flags is a job
pub flagged_is : (held collected : Bool) (job : Job) → IsJob job → IsJob (flagged_job held collected job)
flagged_is held collected job it = record { deck = it.deck; card = it.card; faultless = it.faultless; loaded = it.loaded; stretches = it.stretches; halts = it.halts }

-- a refused command changes nothing
pub refused_as : (customer : List ℕ) (number : ℕ) (c : JobCommand) (reason : Refusal) (summary : Summary) (office : Office) (old : Job) → AreDistinct (map named office) → job_of customer number office ≡ Some old → summary ≡ summary_of (kept_of old) → job_refusal c summary ≡ Some reason
    → commanded customer number c office (job_of customer number office) ≡ (office, reply.Refused reason)
refused_as customer number c reason summary office old distinct is shown refused =
    let why : job_refusal c (summary_of (kept_of old)) ≡ Some reason = subst (λ job. job_refusal c job ≡ Some reason) shown refused in
    let stays : job_after c old ≡ old = ap (job_unless c old) why in
    let whole : with_job customer number (job_after c old) office ≡ office = ap (λ (j : Job). with_job customer number j office) stays ∙ same_job customer number old office distinct is in
    let told : (take_kept c (kept_of old)).1 ≡ reply.Refused reason = ap (λ (o : Option Refusal). (taken_unless c (kept_of old) o).1) why in
    ap (commanded customer number c office) is ∙ ap (λ (o : Office). let both : Office × Reply = (o, (take_kept c (kept_of old)).1) in both) whole ∙ ap (λ (r : Reply). let both : Office × Reply = (office, r) in both) told

-- ---- commands that need no more than the summary

replied : (f : FlagCommand) (k : Kept) → (on_flags f (summary_of k)).reply ≡ answered (flag_command f) k
replied Hold k = refl
replied Release k = refl
replied Collect k = refl
replied Standing k = refl

flagged : (f : FlagCommand) (job : Job) → changed_job (flag_command f) job ≡ (let new : NewFlags = on_flags f (summary_of (kept_of job)) in flagged_job new.held new.collected job)
flagged Hold job = refl
flagged Release job = refl
flagged Collect job = refl
flagged Standing job = refl

-- one that is let through replies so
pub flags_replied : (f : FlagCommand) (job : Job) (summary : Summary) (new : NewFlags) → summary ≡ summary_of (kept_of job) → new ≡ on_flags f summary → job_refusal (flag_command f) summary ≡ None → new.reply ≡ (take_kept (flag_command f) (kept_of job)).1
flags_replied f job summary new shown is none =
    ap (λ (n : NewFlags). n.reply) (is ∙ ap (on_flags f) shown) ∙ replied f (kept_of job)
    ∙ sym (ap (λ (o : Option Refusal). (taken_unless (flag_command f) (kept_of job) o).1) (sym (ap (job_refusal (flag_command f)) shown) ∙ none))

-- and the job has these flags after it
pub flags_set : (f : FlagCommand) (job : Job) (summary : Summary) (new : NewFlags) → summary ≡ summary_of (kept_of job) → new ≡ on_flags f summary → flagged_job new.held new.collected job ≡ changed_job (flag_command f) job
flags_set f job summary new shown is = ap (λ (n : NewFlags). flagged_job n.held n.collected job) (is ∙ ap (on_flags f) shown) ∙ sym (flagged f job)

-- a query leaves the job as it is
pub query_leaves : (c : JobCommand) (job : Job) → is_query c ≡ true → changed_job c job ≡ job
query_leaves Tell job query = refl
query_leaves (Cards from) job query = refl
query_leaves Lines job query = refl
query_leaves other job query = absurd (let e = query in cc)

-- what the tables and the reply are after one that is let through
module _ (new : State) (customer : List ℕ) (number : ℕ) (f : FlagCommand) (summary : Summary) (to : NewFlags) (office : Office) (old : Job)
    (found : job_of customer number office ≡ Some old) (shown : summary ≡ summary_of (kept_of old)) (free : job_refusal (flag_command f) summary ≡ None) (is : to ≡ on_flags f summary) where
  let_through : job_refusal (flag_command f) (summary_of (kept_of old)) ≡ None
  let_through = sym (ap (job_refusal (flag_command f)) shown) ∙ free

  pub query_served : is_query (flag_command f) ≡ true → StandsIn new office → Served new (λ all. commanded customer number (flag_command f) all (job_of customer number all)) office to.reply
  query_served query stands =
      command_done new customer number (flag_command f) to.reply office old found (flags_replied f old summary to shown is free) let_through
      (unchanged_saved new customer number (flag_command f) old office (query_leaves (flag_command f) old query) found stands)

  pub flags_served : StandsIn new (with_job customer number (flagged_job to.held to.collected old) office) → Served new (λ all. commanded customer number (flag_command f) all (job_of customer number all)) office to.reply
  flags_served stands =
      command_done new customer number (flag_command f) to.reply office old found (flags_replied f old summary to shown is free) let_through
      (subst (λ (j : Job). StandsIn new (with_job customer number j office)) (flags_set f old summary to shown is) stands)

-- nothing is attempted
pub flags_attempt_none : (f : FlagCommand) (job : Option Job) → attempted_of (flag_command f) job ≡ 0
flags_attempt_none f None = refl
flags_attempt_none f (Some job) = go f (job_refusal (flag_command f) (summary_of (kept_of job)))
  where
    go : (f : FlagCommand) (o : Option Refusal) → attempts_unless (flag_command f) (kept_of job) o ≡ 0
    go f (Some reason) = refl
    go Hold None = refl
    go Release None = refl
    go Collect None = refl
    go Standing None = refl

-- a query attempts nothing
pub cards_attempt_none : (from : Stacker) (job : Option Job) → attempted_of (Cards from) job ≡ 0
cards_attempt_none from None = refl
cards_attempt_none from (Some job) = refl

pub lines_attempt_none : (job : Option Job) → attempted_of Lines job ≡ 0
lines_attempt_none None = refl
lines_attempt_none (Some job) = refl
