use Rattle.std.proofs.Common.{◌+◌, ◌∙◌, drop, refl}
use Rattle.std.proofs.lemmas.List.{drop_more}
use Rattle.card_tools.specs.Comparing.{only_from}
use Rattle.card_tools.proofs.CardsShown.{all_done, only_on}
use Rattle.card_tools.proofs.comparing.push_only.Goals as goal

pub loop-index-preserved : goal.loop-index-preserved
loop-index-preserved c =
    let left = drop_more c.args.cards.now c.loop-index.index _ c.loop-index-test.true in
    rw (c.in_ok-push.ensures.items, c.in_ok-extend_from_slice.ensures.items, c.in_ok-push_numbered.ensures)
    (only_on c.args.words.now (c.loop-index.index + 1) _ (drop (c.loop-index.index + 1) c.args.cards.now) (drop c.loop-index.index c.args.cards.now) c.loop-index.text.items left
    ∙ c.loop-index.invariant)

pub returns : goal.returns
unfolding only_from
returns c =
    all_done (only_from c.args.words.now (c.loop-index.index + 1)) c.args.cards.now c.loop-index.index _ _ c.loop-index-test.false refl c.loop-index.invariant
