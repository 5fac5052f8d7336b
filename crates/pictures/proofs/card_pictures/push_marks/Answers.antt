use Rattle.std.proofs.Common.{◌≡◌, ◌==◌, ◌∙◌, true, false, length, sym, ap, append-nil}
use Rattle.card_forms.specs.Signs.{filled}
use Rattle.pictures.specs.Cards.{marks}
use Rattle.pictures.proofs.CountedPieces.{more}
use Rattle.pictures.proofs.card_pictures.push_marks.Goals as goal

pub returns-then-is_empty : goal.returns-then-is_empty
unfolding marks
returns-then-is_empty c =
    let blank : (length (filled c.args.card.now.0) == 0) ≡ true = ap (λ codes. length codes == 0) (sym c.filled_columns.ensures) ∙ sym c.is_empty.ensures ∙ c.if-is_empty.true in
    rw blank (sym (append-nil c.args.out.now.items))

pub returns : goal.returns
unfolding marks
returns c =
    let other : (length (filled c.args.card.now.0) == 0) ≡ false = ap (λ codes. length codes == 0) (sym c.filled_columns.ensures) ∙ sym c.is_empty.ensures ∙ c.if-is_empty.false in
    rw other (more c.args.out.now.items _ _ _ _ c.in_ok-push_holes_drawn.ensures c.in_ok-push_print.ensures)
