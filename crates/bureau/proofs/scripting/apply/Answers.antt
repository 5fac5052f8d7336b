use Rattle.std.proofs.Common.{ap}
use Rattle.sqlite.specs.WalFiles.{image_at}
use Rattle.bureau_work.specs.Work.{TellsApply}
use Rattle.bureau.specs.Work.{HasNotApplied}
use Rattle.bureau.proofs.WorkLemmas.{ended_from}
use Rattle.bureau.proofs.scripting.apply.Goals as goal

pub returns : goal.returns
returns g c =
    let old = g.W.Write.contents c.args.output.now in
    let new = g.W.Write.contents c.with_bureau-file.new.output in
    ended_from (image_at g.S.Start) c.new.result _ _ _ (λ own. HasNotApplied own old new) (λ own. TellsApply old new own) c.new.ensures (λ same. (ap (λ w. w.outcome) same.0, same.1))
    c.with_bureau-file.ensures.round c.with_bureau-file.ensures.unfinished
