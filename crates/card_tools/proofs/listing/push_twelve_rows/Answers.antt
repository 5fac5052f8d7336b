use Rattle.std.proofs.Common.{◌∙◌}
use Rattle.card_tools.proofs.CardsShown.{row_on}
use Rattle.card_tools.proofs.listing.push_twelve_rows.Goals as goal

pub loop-row-preserved : goal.loop-row-preserved
loop-row-preserved c =
    c.in_ok-push_row.ensures
    ∙ row_on c.args.image.now c.loop-row.row-index _ c.args.out.now.items c.loop-row.out.items c.loop-row-test.true c.loop-row.invariant
