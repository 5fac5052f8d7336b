use Rattle.pictures.proofs.CountedPieces.{at_end, more}
use Rattle.job_pages.proofs.facts.push_listing.Goals as goal

pub returns : goal.returns
returns c =
    let o = c.args.out.now.items in
    at_end c.push_counted.result c.push_counted.ensures (λ last. more o _ _ _ _ c.in_ok-push_name.ensures last)
