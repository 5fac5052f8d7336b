use Rattle.std.proofs.Common.{[], ◌∷◌, ◌∙◌, codes}
use Rattle.scripts.specs.Replies.{fault_words}
use Rattle.scripts.proofs.SendingLemmas.{fault_item, part_of_list}
use Rattle.scripts.proofs.replying.put_faults.Goals as goal

pub returns-in-Err-put_all : goal.returns-in-Err-put_all
returns-in-Err-put_all g c =
    part_of_list fault_words (codes "refused 16") (10 ∷ []) c.args.faults.now c.loop-at.at-index _ _ _ _ _ _ _ _ c.loop-at-test.true
    (fault_item _ _ _ c.from.ensures (c.from-in-loop-at.ensures ∙ c.number.ensures))
    c.loop-at.invariant.0 c.loop-at.invariant.1 c.in-Err-put_all.ensures
