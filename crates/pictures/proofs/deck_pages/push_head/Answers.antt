use Rattle.pictures.proofs.CountedPieces.{at_end, more}
use Rattle.pictures.proofs.deck_pages.push_head.Goals as goal

pub returns : goal.returns
returns c =
    let o = c.args.out.now.items in
    at_end c.push_page_heading.result c.push_page_heading.ensures (λ last. more o _ _ _ _ (more o _ _ _ _ (more o _ _ _ _ (more o _ _ _ _ (more o _ _ _ _ (more o _ _ _ _ c.in_ok-push_page_head.ensures c.in_ok-extend_from_slice.ensures.items) c.in_ok-extend_from_slice-2.ensures.items) c.in_ok-extend_from_slice-3.ensures.items) c.in_ok-extend_from_slice-4.ensures.items) c.in_ok-extend_from_slice-5.ensures.items) last)
