use Rattle.pictures.proofs.CountedPieces.{more}
use Rattle.pictures.specs.Cards.{stock}
use Rattle.pictures.proofs.stocks.push_stock.Goals as goal

pub returns : goal.returns
unfolding stock
returns c =
    let o = c.args.out.now.items in
    more o _ _ _ _ (more o _ _ _ _ (more o _ _ _ _ c.in_ok-extend_from_slice.ensures.items c.in_ok-push_face.ensures) c.in_ok-push_column_numbers.ensures) c.in_ok-push_column_numbers-2.ensures
