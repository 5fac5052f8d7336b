use Rattle.std.proofs.Common.{◌≡◌, subst, rules}
use Rattle.office.specs.New.{IsWhyNot}
use Rattle.job_checks.proofs.LoadedLemmas.{loads_as, refused_for}
use Rattle.job_checks.proofs.again.loaded_for.Goals as goal

pub returns-in_ok-copy-in-Ok-clause-loads : goal.returns-in_ok-copy-in-Ok-clause-loads
returns-in_ok-copy-in-Ok-clause-loads c =
    let same : c.in_ok-copy-in-Ok.field-0 ≡ c.in-Ok.job.machine.works.units.hopper.deck = search rules in
    loads_as c.args.contents.now c.in-Ok.job c.in_ok-copy-in-Ok.field-0 c.commands_keep_jobs.ensures.new c.in-Ok.ensures.job same

pub returns-in-Err-Refused-clause-refused : goal.returns-in-Err-Refused-clause-refused
returns-in-Err-Refused-clause-refused c = λ _ size loaded is. refused_for c.args.contents.now c.in-Err-Refused.reason size loaded (subst (IsWhyNot c.args.contents.now) c.in-Err-Refused.field-0-is c.in-Err-Refused.ensures.refused) is
