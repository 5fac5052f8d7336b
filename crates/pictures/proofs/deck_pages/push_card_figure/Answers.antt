use Rattle.pictures.proofs.CountedPieces.{more}
use Rattle.pictures.specs.Decks.{figure}
use Rattle.pictures.proofs.deck_pages.push_card_figure.Goals as goal

pub returns : goal.returns
unfolding figure
returns c =
    let o = c.args.out.now.items in
    more o _ _ _ _ (more o _ _ _ _ (more o _ _ _ _ (more o _ _ _ _ (more o _ _ _ _ (more o _ _ _ _ c.in_ok-extend_from_slice.ensures.items c.in_ok-push_title.ensures) c.in_ok-extend_from_slice-2.ensures.items) c.in_ok-push_marks.ensures) c.in_ok-extend_from_slice-3.ensures.items) c.in_ok-push_caption.ensures) c.in_ok-extend_from_slice-4.ensures.items
