use Rattle.std.proofs.lemmas.Result.{IfOk-weaker, err_from_is_err_and}
use Rattle.card_texts.specs.Taking.{is_card_way, is_text_way, is_tried}
use Rattle.card_texts.proofs.TakingLemmas.{all_tried, card_tried, found_by, in_both, joined_found, joined_untaken, text_tried, tried_all}
use Rattle.card_texts.proofs.taking.find.Goals as goal

pub returns-clause-found : goal.returns-clause-found
returns-clause-found c =
    let joined = joined_found c.args.rules.now c.args.bytes.now is_card_way (is_text_way c.args.named)
    c.in_ok-cards.cards c.in_ok-text.text c.one_of.result
    (c.in_ok-cards.ensures.found c.args.rules.now) c.in_ok-text.ensures.found c.one_of.ensures in
    IfOk-weaker c.one_of.result _ _ (found_by c.args.rules.now c.args.bytes.now
    (in_both c.args.rules.now c.args.bytes.now is_card_way (is_text_way c.args.named)) (is_tried c.args.named)
    (all_tried c.args.named) (tried_all c.args.named)) joined

pub returns-clause-untaken : goal.returns-clause-untaken
returns-clause-untaken c =
    joined_untaken c.args.rules.now c.args.bytes.now is_card_way (is_text_way c.args.named)
    c.args.named c.in_ok-cards.cards c.in_ok-text.text c.one_of.result (card_tried c.args.named) (text_tried c.args.named)
    (c.in_ok-cards.ensures.found c.args.rules.now) c.in_ok-text.ensures.found c.one_of.ensures

pub returns-in_err-cards-clause-untaken : goal.returns-in_err-cards-clause-untaken
returns-in_err-cards-clause-untaken c =
    let returned = err_from_is_err_and c.from_residual.result c.from_residual.ensures.1 in
    rw (returned.1, returned.2) (c.in_err-cards.ensures.untaken c.args.rules.now c.args.named)
