use Rattle.pictures.proofs.CountedPieces.{more}
use Rattle.pictures.proofs.card_pictures.push_titled.Goals as goal

pub returns : goal.returns
returns c =
    let o = c.args.out.now.items in
    more o _ _ _ _ (more o _ _ _ _ (more o _ _ _ _ (more o _ _ _ _ (more o _ _ _ _ c.in_ok-extend_from_slice.ensures.items c.in_ok-push_card_glyphs.ensures) c.in_ok-extend_from_slice-2.ensures.items) c.in_ok-extend_from_slice-3.ensures.items) c.in_ok-extend_from_slice-4.ensures.items) c.in_ok-push_stock.ensures
