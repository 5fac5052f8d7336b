use Rattle.std.proofs.Common.{subst, ◌∙◌, ap}
use Rattle.card_texts.specs.Punching.{faults_of}
use Rattle.card_texts.specs.Taking.{IsFound, is_tried, signed}
use Rattle.card_texts.proofs.TakingLemmas.{told_faults}
use Rattle.card_texts.proofs.taking.take.Goals as goal

pub returns-in_ok-faults-in-None-clause-untaken : goal.returns-in_ok-faults-in-None-clause-untaken
returns-in_ok-faults-in-None-clause-untaken c =
    told_faults c.args.rules.now c.args.named c.args.bytes.now c.told_signs-signs.result c.in_ok-faults-in-None.faults.items
    c.told_signs-signs.ensures
    (subst (IsFound c.args.rules.now c.args.bytes.now (is_tried c.args.named)) c.in-None.is c.in_ok-reading.ensures.found)
    (c.in_ok-faults-in-None.ensures.faults ∙ ap (λ r. faults_of (signed r c.told_signs-signs.result) c.args.bytes.now) c.in_ok-reading.ensures.rules)
