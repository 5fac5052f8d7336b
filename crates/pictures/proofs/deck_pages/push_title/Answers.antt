use Rattle.pictures.proofs.CountedPieces.{more}
use Rattle.pictures.proofs.deck_pages.push_title.Goals as goal

pub returns : goal.returns
returns c =
    let o = c.args.out.now.items in
    more o _ _ _ _ (more o _ _ _ _ c.in_ok-push_number_between.ensures c.in_ok-push_card_glyphs.ensures) c.in_ok-extend_from_slice.ensures.items
