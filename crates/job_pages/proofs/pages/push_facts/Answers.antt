use Rattle.pictures.proofs.CountedPieces.{more}
use Rattle.job_pages.specs.Facts.{facts}
use Rattle.job_pages.proofs.pages.push_facts.Goals as goal

pub returns : goal.returns
unfolding facts
returns c =
    let o = c.args.out.now.items in
    more o _ _ _ _ (more o _ _ _ _ (more o _ _ _ _ (more o _ _ _ _ (more o _ _ _ _ (more o _ _ _ _ (more o _ _ _ _ (more o _ _ _ _ c.in_ok-extend_from_slice.ensures.items c.in_ok-push_source.ensures) c.in_ok-push_deck.ensures) c.in_ok-push_machine.ensures) c.in_ok-push_standing.ensures) c.in_ok-push_listing.ensures) c.in_ok-push_punched.ensures) c.in_ok-push_maker.ensures) c.in_ok-extend_from_slice-2.ensures.items
