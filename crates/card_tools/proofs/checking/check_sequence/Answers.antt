use Rattle.std.proofs.Common.{◌+◌, ◌∙◌, drop, refl, arith}
use Rattle.card_tools.specs.Checking.{told_from}
use Rattle.card_tools.proofs.CardsShown.{all_done, last_short, left_from, told_on}
use Rattle.card_tools.proofs.checking.check_sequence.Goals as goal

pub loop-index-preserved : goal.loop-index-preserved
loop-index-preserved c =
    let left = left_from c.args.cards.now c.loop-index.index c.index-cards-index.result c.loop-index-test.true c.index-cards-index.is in
    record {
      told = rw (c.in_ok-push_told.ensures, c.last_of-before.ensures, c.number_columns-columns.ensures.columns)
          (told_on c.loop-index.before.now (c.loop-index.index + 1) c.index-cards-index.result (drop (c.loop-index.index + 1) c.args.cards.now) (drop c.loop-index.index c.args.cards.now) c.loop-index.text.items left
          ∙ c.loop-index.invariant.told);
      short = rw c.last_of-before.ensures (last_short c.loop-index.before.now c.number_columns-columns.result.now c.loop-index.invariant.short (omega (arith, c.number_columns-columns.ensures.eight)));
    }

pub returns : goal.returns
unfolding told_from
returns c =
    all_done (told_from c.loop-index.before.now (c.loop-index.index + 1)) c.args.cards.now c.loop-index.index _ _ c.loop-index-test.false refl c.loop-index.invariant.told
