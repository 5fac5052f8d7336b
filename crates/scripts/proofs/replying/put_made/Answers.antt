use Rattle.std.proofs.Common.{List, ℕ, subst}
use Rattle.scripts.specs.Sending.{Writes}
use Rattle.scripts.proofs.SendingLemmas.{made_pieces}
use Rattle.scripts.proofs.replying.put_made.Goals as goal

pub returns : goal.returns
returns g c =
    subst (λ (l : List ℕ). Writes l (g.W.Write.contents c.args.writer.now) (g.W.Write.contents c.put_all.new.writer) c.args.sent.now c.put_all.new.sent c.put_all.result)
    (made_pieces _ _ _ _ _ c.args.job.now c.truth.ensures c.truth-2.ensures c.from.ensures c.from-2.ensures c.from-3.ensures) c.put_all.ensures
