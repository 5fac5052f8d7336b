use Rattle.std.proofs.Common.{List, ℕ, [], ◌∷◌, codes, subst}
use Rattle.scripts.specs.Replies.{made_words}
use Rattle.scripts.specs.Sending.{Writes, WritesPart}
use Rattle.scripts.proofs.SendingLemmas.{joined, part_first, writes_after}
use Rattle.scripts.proofs.replying.put_summary.Goals as goal

pub returns-in-Ok : goal.returns-in-Ok
returns-in-Ok g c =
    subst (λ (l : List ℕ). Writes l (g.W.Write.contents c.args.writer.now) (g.W.Write.contents c.put_made.new.writer) c.args.sent.now c.put_made.new.sent c.put_made.result)
    (joined (codes "standing ") _ _ (made_words c.args.job.now) (10 ∷ []) c.standing.ensures)
    (writes_after _ _ _ _ _ _ _ _ c.put_made.result c.in-Ok.ensures.0 c.in-Ok.ensures.1 c.put_made.ensures)

pub returns-in-Err : goal.returns-in-Err
returns-in-Err g c =
    subst (λ (l : List ℕ). WritesPart l (g.W.Write.contents c.args.writer.now) (g.W.Write.contents c.put_all.new.writer) c.args.sent.now c.put_all.new.sent)
    (joined (codes "standing ") _ _ (made_words c.args.job.now) (10 ∷ []) c.standing.ensures)
    (part_first _ _ _ _ _ _ c.in-Err.ensures)
