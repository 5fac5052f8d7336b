use Rattle.std.proofs.Common.{◌≡◌, ◌==◌, ◌∙◌, true, false, length, sym}
use Rattle.pictures.proofs.CountedPieces.{at_end, last_piece, more}
use Rattle.job_pages.proofs.parts.push_cards.Goals as goal

pub returns-then-is_empty : goal.returns-then-is_empty
returns-then-is_empty c =
    let none : (length c.args.cards.now == 0) ≡ true = sym c.is_empty.ensures ∙ c.if-is_empty.true in
    rw none (last_piece c.extend_from_slice-then-is_empty.result c.args.out.now.items _ _ _ _ c.in_ok-extend_from_slice.ensures.items c.extend_from_slice-then-is_empty.ensures.items)

pub returns : goal.returns
returns c =
    let some : (length c.args.cards.now == 0) ≡ false = sym c.is_empty.ensures ∙ c.if-is_empty.false in
    let images = c.deref.ensures.value ∙ c.in_ok-images.ensures in
    rw (some, ← images) (at_end c.push_card_figures.result c.push_card_figures.ensures (λ last. more c.args.out.now.items _ _ _ _ c.in_ok-extend_from_slice.ensures.items (more _ _ _ _ _ c.in_ok-push_stock_definition.ensures last)))
