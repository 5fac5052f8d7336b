use Rattle.pictures.proofs.CountedPieces.{last_piece, more}
use Rattle.job_pages.proofs.facts.push_standing.Goals as goal

pub returns : goal.returns
returns c =
    let o = c.args.out.now.items in
    last_piece c.extend_from_slice-2.result o _ _ _ _ (more o _ _ _ _ c.in_ok-push_name.ensures c.in_ok-extend_from_slice.ensures.items) c.extend_from_slice-2.ensures.items
