use Rattle.std.proofs.Common.{◌++◌, ◌∷◌, [], ◌∙◌, ap}
use Rattle.office.specs.Stackers.{cards_from}
use Rattle.office.proofs.StackerLemmas.{one_more}
use Rattle.office.proofs.stackers.cards_from.Goals as goal

pub loop-one-init : goal.loop-one-init
unfolding cards_from
loop-one-init c = c.new-cards.ensures.items

pub loop-one-preserved : goal.loop-one-preserved
loop-one-preserved c =
    let one = c.one-item.result in
    c.in_ok-push_asked.ensures ∙ ap (λ xs. xs ++ cards_from c.args.from (one ∷ [])) c.loop-one.invariant
    ∙ one_more c.args.from c.args.punched.now c.loop-one.one-index one c.loop-one-test.true c.one-item.is
