use Rattle.std.proofs.Common.{◌≡◌, ◌+◌, ◌∙◌, arith, drop, refl}
use Rattle.std.proofs.lemmas.List.{drop_more}
use Rattle.card_tools.specs.Listing.{listing_from}
use Rattle.card_tools.proofs.CardsShown.{all_done, listed_on}
use Rattle.card_tools.proofs.listing.list_from.Goals as goal

pub loop-index-preserved : goal.loop-index-preserved
loop-index-preserved c =
    let left = drop_more c.args.images.now c.loop-index.index _ c.loop-index-test.true in
    let further : c.args.first + (c.loop-index.index + 1) ≡ c.args.first + c.loop-index.index + 1 = omega arith in
    rw (c.in_ok-push_shown.ensures, further)
    (listed_on c.args.options (c.args.first + c.loop-index.index) _ (drop (c.loop-index.index + 1) c.args.images.now) (drop c.loop-index.index c.args.images.now) c.loop-index.out.items left
    ∙ c.loop-index.invariant)

pub returns : goal.returns
unfolding listing_from
returns c =
    all_done (listing_from c.args.options (c.args.first + c.loop-index.index)) c.args.images.now c.loop-index.index _ _ c.loop-index-test.false refl c.loop-index.invariant
