use Rattle.pictures.proofs.CountedPieces.{at_end, more}
use Rattle.job_pages.proofs.parts.push_head.Goals as goal

pub returns : goal.returns
returns c =
    let o = c.args.out.now.items in
    at_end c.push_page_heading.result c.push_page_heading.ensures (λ last. more o _ _ _ _ (more o _ _ _ _ c.in_ok-push_page_head.ensures c.in_ok-push_style.ensures) last)
