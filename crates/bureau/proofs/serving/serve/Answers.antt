use Rattle.std.proofs.Common.{◌≡◌, ap}
use Rattle.sqlite.specs.WalFiles.{image_at}
use Rattle.bureau_work.specs.declared.outcomes.Outcome.TheVariants as outcome
use Rattle.bureau.specs.Work.{TellsPort}
use Rattle.bureau.proofs.WorkLemmas.{ended_from, round_so, unfinished_so}
use Rattle.bureau.proofs.serving.serve.Goals as goal

pub returns : goal.returns
returns g c =
    let own = c.with_bureau-file.new.work.outcome in
    ended_from (image_at g.S.Start) c.new.result _ _ _ (λ own. own ≡ outcome.Done) (TellsPort c.args.count) c.new.ensures (λ same. ap (λ w. w.outcome) same.0)
    (round_so (image_at g.S.Start) _ (TellsPort c.args.count own) (λ cs rs told. (_, _, told)) _ c.with_bureau-file.ensures.round)
    (unfinished_so (image_at g.S.Start) _ _ (TellsPort c.args.count own) (λ cs rs told. (_, _, told)) _ c.with_bureau-file.ensures.unfinished)
