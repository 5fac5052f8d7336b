use Rattle.std.proofs.Common.{◌≡◌, refl, ap, ◌∙◌}
use Rattle.office.specs.Kept.{Kept, answered, changed, flag_command, on_flags, summary_of}
use Rattle.office.specs.declared.flags.FlagCommand.{FlagCommand}
use Rattle.office.specs.declared.flags.FlagCommand.TheVariants.{Hold, Release, Collect, Standing}
use Rattle.office.specs.declared.flags.NewFlags.{NewFlags}
use Rattle.office.proofs.jobs.Job.set_flags.Goals as goal

-- a job with these flags
abbrev flagged : Kept → NewFlags → Kept
flagged k flags = record k { held = flags.held; collected = flags.collected }

-- the flags that a command sets are those of the job after it
set : (command : FlagCommand) (k : Kept) → flagged k (on_flags command (summary_of k)) ≡ changed (flag_command command) k
set Hold k = refl
set Release k = refl
set Collect k = refl
set Standing k = refl

replied : (command : FlagCommand) (k : Kept) → (on_flags command (summary_of k)).reply ≡ answered (flag_command command) k
replied Hold k = refl
replied Release k = refl
replied Collect k = refl
replied Standing k = refl

pub returns-clause-reply : goal.returns-clause-reply
returns-clause-reply g c =
    ap (λ (f : NewFlags). f.reply) (c.on_flags-flags.ensures ∙ ap (on_flags c.args.command) c.summary.ensures) ∙ replied c.args.command c.args.self.now

pub returns-clause-job : goal.returns-clause-job
returns-clause-job g c =
    ap (λ (k : Kept). flagged k c.on_flags-flags.result) c.self.view_is
    ∙ (ap (flagged c.args.self.now) (c.on_flags-flags.ensures ∙ ap (on_flags c.args.command) c.summary.ensures) ∙ set c.args.command c.args.self.now)
