use Rattle.card_texts.specs.Taking.{is_way}
use Rattle.card_texts.specs.declared.taking.Way.TheVariants.{Punch, Binary}
use Rattle.card_texts.proofs.TakingLemmas.{binary_tried, joined_found, joined_untaken, punch_tried}
use Rattle.card_texts.proofs.taking.card_reading.Goals as goal

pub returns-clause-found : goal.returns-clause-found
returns-clause-found c = λ rules. joined_found rules c.args.bytes.now (is_way Punch) (is_way Binary)
    c.in_ok-punched.punched c.in_ok-binary.binary c.one_of.result
    (c.in_ok-punched.ensures.found rules) (c.in_ok-binary.ensures.found rules) c.one_of.ensures

pub returns-clause-untaken : goal.returns-clause-untaken
returns-clause-untaken c = λ rules named. joined_untaken rules c.args.bytes.now (is_way Punch) (is_way Binary)
    named c.in_ok-punched.punched c.in_ok-binary.binary c.one_of.result (punch_tried named) (binary_tried named)
    (c.in_ok-punched.ensures.found rules) (c.in_ok-binary.ensures.found rules) c.one_of.ensures
