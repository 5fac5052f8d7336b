-- Jobs whose cards and lines are only in the tables.
use Rattle.std.proofs.Common.{◌≡◌, ℕ, true, length, Option, None, Some, refl, sym, ap, subst, ◌∙◌}
use Rattle.machine.proofs.EarlierSteps.{after_along, behind_after, attempts_along, executed_along, put_back, left_behind}
use Rattle.machine.specs.Earlier.{with_earlier, without_outputs, IsBehind}
use Rattle.machine.specs.Run.{State, started, after, attempts, executed, lines_of}
use Rattle.machine.specs.Standings.{standing_of}
use Rattle.machine.specs.declared.standings.StandingAt.{StandingAt}
use Rattle.office.specs.Jobs.{Job, granted_more, one_more, picture, IsJob}
use Rattle.office.specs.Kept.{Kept, kept_of, summary_of, job_refusal, answered, changed, changed_job, taken_unless, take_kept, job_unless, job_after, attempts_of, attempts_unless, attempted_on, drive_command}
use Rattle.office.specs.Office.{Office}
use Rattle.office.specs.declared.commands.JobCommand.{JobCommand}
use Rattle.office.specs.declared.commands.JobCommand.TheVariants as command
use Rattle.office.specs.declared.drives.Drive.{Drive}
use Rattle.office.specs.declared.drives.Drive.TheVariants.{Slice, Start}
use Rattle.office.specs.declared.refusals.Refusal.{Refusal}
use Rattle.office.specs.declared.replies.Reply.TheVariants as reply
use Rattle.texts.specs.declared.names.JobName.{JobName}
use Rattle.units.specs.Switches.{seven}
use Rattle.units.specs.declared.switches.Switches.{Switches}
use Rattle.ledger.specs.Earlier.{kept_alone, with_outputs_of, HasCounted}
use Rattle.ledger.specs.Saving.{job_in, IsAfter}
use Rattle.office_tables.proofs.ReadingLemmas.{picture_before}
use Rattle.ledger.proofs.Replies.{ActOnPictures, KeepJobs}

module _ (old : Job) where
  abbrev m : State
  m = picture old

  counted : IsBehind m.works.units.punch.cards (lines_of m) (without_outputs m)
  counted = left_behind m (picture_before old)

  whole : with_earlier m.works.units.punch.cards (lines_of m) (without_outputs m) ≡ m
  whole = put_back m (picture_before old)

  whole_run : (limit : ℕ) → with_earlier m.works.units.punch.cards (lines_of m) (after (without_outputs m) limit) ≡ after m limit
  whole_run limit = sym (after_along m.works.units.punch.cards (lines_of m) (without_outputs m) limit counted) ∙ ap (λ (t : State). after t limit) whole

  same_attempts_in : (limit : ℕ) → attempts (without_outputs m) limit ≡ attempts m limit
  same_attempts_in limit = sym (attempts_along m.works.units.punch.cards (lines_of m) (without_outputs m) limit counted) ∙ ap (λ (t : State). attempts t limit) whole

  same_executed_in : (limit : ℕ) → executed (without_outputs m) limit ≡ executed m limit
  same_executed_in limit = sym (executed_along m.works.units.punch.cards (lines_of m) (without_outputs m) limit counted) ∙ ap (λ (t : State). executed t limit) whole

  -- with the cards and lines in front it is what the command makes of the whole job
  changed_whole : (d : Drive) → with_outputs_of old (changed (drive_command d) (kept_alone old)) ≡ changed (drive_command d) (kept_of old)
  changed_whole (Slice limit) = ap (λ (t : State). let k : Kept = record { stretches = granted_more limit old.stretches; held = old.held; collected = old.collected; machine = t } in k) (whole_run limit)
  changed_whole (Start switches) = ap (λ (t : State). let k : Kept = record { stretches = one_more (seven switches) old.stretches; held = old.held; collected = old.collected; machine = started t (seven switches) } in k) whole

  -- the cards and lines are still counted
  still_counted : (d : Drive) → HasCounted old (changed (drive_command d) (kept_alone old))
  still_counted (Slice limit) = behind_after m.works.units.punch.cards (lines_of m) (without_outputs m) limit counted
  still_counted (Start switches) = counted

  same_refusal : (d : Drive) → job_refusal (drive_command d) (summary_of (kept_alone old)) ≡ job_refusal (drive_command d) (summary_of (kept_of old))
  same_refusal (Slice limit) = refl
  same_refusal (Start switches) = refl

  same_answer : (d : Drive) → answered (drive_command d) (kept_alone old) ≡ answered (drive_command d) (kept_of old)
  same_answer (Slice limit) =
      let standing : standing_of (after (without_outputs m) limit) ≡ standing_of (after m limit) = ap standing_of (whole_run limit) in
      ap (λ n. reply.Ran n (standing_of (after (without_outputs m) limit))) (same_executed_in limit) ∙ ap (λ (s : StandingAt). reply.Ran (executed m limit) s) standing
  same_answer (Start switches) = refl

  same_attempts_of : (d : Drive) → attempts_of (drive_command d) (kept_alone old) ≡ attempts_of (drive_command d) (kept_of old)
  same_attempts_of (Slice limit) = same_attempts_in limit
  same_attempts_of (Start switches) = refl

  -- the reply is the one to the whole job
  pub same_reply : (d : Drive) → (take_kept (drive_command d) (kept_alone old)).1 ≡ (take_kept (drive_command d) (kept_of old)).1
  same_reply d = go (job_refusal (drive_command d) (summary_of (kept_alone old))) ∙ ap (λ (o : Option Refusal). (taken_unless (drive_command d) (kept_of old) o).1) (same_refusal d)
    where
      go : (o : Option Refusal) → (taken_unless (drive_command d) (kept_alone old) o).1 ≡ (taken_unless (drive_command d) (kept_of old) o).1
      go (Some reason) = refl
      go None = same_answer d

  -- as many instructions are attempted
  pub same_attempts : (d : Drive) → attempted_on (drive_command d) (kept_alone old) ≡ attempted_on (drive_command d) (kept_of old)
  same_attempts d = go (job_refusal (drive_command d) (summary_of (kept_alone old))) ∙ ap (λ (o : Option Refusal). attempts_unless (drive_command d) (kept_of old) o) (same_refusal d)
    where
      go : (o : Option Refusal) → attempts_unless (drive_command d) (kept_alone old) o ≡ attempts_unless (drive_command d) (kept_of old) o
      go (Some reason) = refl
      go None = same_attempts_of d

  -- what a command that is let through makes of the job
  pub is_after : ActOnPictures → KeepJobs → (name : JobName) (d : Drive) (k : Kept) (office : Office) → job_in name office ≡ Some old → IsJob old → k ≡ (take_kept (drive_command d) (kept_alone old)).0 → job_refusal (drive_command d) (summary_of (kept_of old)) ≡ None → IsAfter name k (drive_command d) old office
  is_after act keep name d k office found it is none =
      let free : job_refusal (drive_command d) (summary_of (kept_alone old)) ≡ None = same_refusal d ∙ none in
      let made : k ≡ changed (drive_command d) (kept_alone old) = is ∙ ap (λ (o : Option Refusal). (taken_unless (drive_command d) (kept_alone old) o).0) free in
      let stays : job_after (drive_command d) old ≡ changed_job (drive_command d) old = ap (job_unless (drive_command d) old) none in
      let goes : changed (drive_command d) (kept_of old) ≡ kept_of (changed_job (drive_command d) old) = sym (ap (λ (o : Option Refusal). (taken_unless (drive_command d) (kept_of old) o).0) none) ∙ act (drive_command d) old it.stretches.begun ∙ ap (λ (j : Job). kept_of j) stays in
      record {
        found = found;
        made = made;
        counted = subst (HasCounted old) (sym made) (still_counted d);
        is = ap (with_outputs_of old) made ∙ changed_whole d ∙ goes;
        job = subst IsJob stays (keep (drive_command d) old it);
      }

-- a command leaves a machine its size
module _ (law : (m : State) (count : ℕ) → length (after m count).works.storage ≡ length m.works.storage) where
  changed_size : (d : Drive) (k : Kept) → length (changed (drive_command d) k).machine.works.storage ≡ length k.machine.works.storage
  changed_size (Slice limit) k = law k.machine limit
  changed_size (Start switches) k = refl

  pub same_size : (d : Drive) (k : Kept) → length (take_kept (drive_command d) k).0.machine.works.storage ≡ length k.machine.works.storage
  same_size d k = go (job_refusal (drive_command d) (summary_of k))
    where
      go : (o : Option Refusal) → length (taken_unless (drive_command d) k o).0.machine.works.storage ≡ length k.machine.works.storage
      go (Some reason) = refl
      go None = changed_size d k
