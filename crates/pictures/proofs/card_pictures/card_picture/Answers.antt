use Rattle.pictures.specs.Cards.{picture}
use Rattle.pictures.proofs.CountedPieces.{onto}
use Rattle.pictures.proofs.card_pictures.card_picture.Goals as goal

pub returns : goal.returns
unfolding picture
returns c =
    onto _ _ _ _ (onto _ _ _ _ (onto _ _ _ _ c.in_ok-out.ensures.items c.in_ok-push_titled.ensures) c.in_ok-push_marks.ensures) c.in_ok-extend_from_slice.ensures.items
