use Rattle.std.proofs.Common.{◌+◌, ◌<◌, ◌∙◌, drop, length, arith}
use Rattle.std.proofs.lemmas.List.{drop_more}
use Rattle.card_tools.proofs.CardMarks.{count_more}
use Rattle.card_tools.proofs.CardsShown.{both_on, differing_on, both_done, count_done}
use Rattle.card_tools.proofs.comparing.push_both.Goals as goal

pub loop-index-preserved : goal.loop-index-preserved
loop-index-preserved c =
    let i = c.loop-index.index in
    let here : i < length c.args.first.now = omega (arith, c.min-index-end.ensures) in
    let there : i < length c.args.second.now = omega (arith, c.min-index-end.ensures) in
    record {
      shown = rw c.in_ok-differing.ensures.shown
          (both_on (i + 1) _ _ (drop (i + 1) c.args.first.now) (drop (i + 1) c.args.second.now) (drop i c.args.first.now) (drop i c.args.second.now) c.loop-index.text.items (drop_more c.args.first.now i _ here) (drop_more c.args.second.now i _ there)
          ∙ c.loop-index.invariant.shown);
      differing = rw c.in_ok-differing.ensures.differing
          (differing_on _ _ (drop (i + 1) c.args.first.now) (drop (i + 1) c.args.second.now) (drop i c.args.first.now) (drop i c.args.second.now) c.loop-index.differing (drop_more c.args.first.now i _ here) (drop_more c.args.second.now i _ there)
          ∙ c.loop-index.invariant.differing);
      few = count_more _ _ c.loop-index.differing i _ c.in_ok-differing.ensures.differing c.loop-index.invariant.few;
    }

pub returns-clause-shown : goal.returns-clause-shown
returns-clause-shown c = both_done (c.loop-index.index + 1) c.args.first.now c.args.second.now c.loop-index.index c.loop-index.text.items _ (omega (arith, c.min-index-end.ensures)) c.loop-index.invariant.shown

pub returns-clause-differing : goal.returns-clause-differing
returns-clause-differing c = count_done c.args.first.now c.args.second.now c.loop-index.index c.loop-index.differing _ (omega (arith, c.min-index-end.ensures)) c.loop-index.invariant.differing
