use Rattle.std.proofs.Common.{subst}
use Rattle.card_texts.specs.Taking.{IsFound, is_text_tried}
use Rattle.card_texts.specs.declared.rules.Signs.TheVariants.{Bureau, Simh}
use Rattle.card_texts.proofs.TakingLemmas.{joined_found, joined_untaken, one_text_tried}
use Rattle.card_texts.proofs.taking.any_text_reading.Goals as goal

pub returns-clause-found : goal.returns-clause-found
returns-clause-found c =
    let simh = subst (λ r. IsFound r c.args.bytes.now (is_text_tried c.args.named Simh) c.in_ok-simh.simh) c.in_ok-glyphs.ensures.rules c.in_ok-simh.ensures.found in
    joined_found c.args.rules.now c.args.bytes.now (is_text_tried c.args.named Bureau) (is_text_tried c.args.named Simh)
    c.in_ok-glyphs.glyphs c.in_ok-simh.simh c.one_of.result c.in_ok-glyphs.ensures.found simh c.one_of.ensures

pub returns-clause-untaken : goal.returns-clause-untaken
returns-clause-untaken c =
    let simh = subst (λ r. IsFound r c.args.bytes.now (is_text_tried c.args.named Simh) c.in_ok-simh.simh) c.in_ok-glyphs.ensures.rules c.in_ok-simh.ensures.found in
    joined_untaken c.args.rules.now c.args.bytes.now (is_text_tried c.args.named Bureau) (is_text_tried c.args.named Simh)
    c.args.named c.in_ok-glyphs.glyphs c.in_ok-simh.simh c.one_of.result (one_text_tried c.args.named Bureau) (one_text_tried c.args.named Simh)
    c.in_ok-glyphs.ensures.found simh c.one_of.ensures
