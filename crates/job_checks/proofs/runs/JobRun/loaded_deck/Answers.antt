use Rattle.std.proofs.Common.{ap, ◌∙◌}
use Rattle.machine.specs.Run.{State}
use Rattle.office_tables.proofs.ReadingLemmas.{picture_deck}
use Rattle.job_checks.proofs.runs.JobRun.loaded_deck.Goals as goal

pub returns : goal.returns
returns c =
    ap (λ (s : State). s.works.units.hopper.deck) (c.behind-self.view_is ∙ c.machine.ensures.picture)
    ∙ picture_deck c.runs_only_add.ensures.deck c.args.self.now.job
