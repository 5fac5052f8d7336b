use Rattle.std.proofs.Common.{subst, sym}
use Rattle.bureau.specs.Work.{HasApplied}
use Rattle.bureau.proofs.WorkLemmas.{applied_so}
use Rattle.bureau.proofs.AnswerLemmas.{ended_script}
use Rattle.bureau.proofs.apply_script.Goals as goal

pub returns : goal.returns
returns g c =
    let old = g.W.Write.contents c.args.output.now in
    let new = g.W.Write.contents c.apply-ended.new.output in
    ended_script c.show_outcome.result c.outcome.result old new (g.E.Write.contents c.args.errors.now) (g.E.Write.contents c.show_outcome.new.errors)
    (subst (λ it. HasApplied it old new) (sym c.outcome.ensures) (applied_so _ old new c.apply-ended.result c.apply-ended.ensures)) c.show_outcome.ensures
