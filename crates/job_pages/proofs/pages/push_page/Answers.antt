use Rattle.std.proofs.Common.{◌∙◌, ◌++◌, ap}
use Rattle.pictures.proofs.CountedPieces.{more}
use Rattle.job_pages.specs.Pages.{text_shown}
use Rattle.job_pages.proofs.pages.push_page.Goals as goal

pub returns : goal.returns
returns c =
    let o = c.args.out.now.items in
    let part = c.in_ok-push_text.ensures ∙ ap (λ name. c.push_facts.new.out.items ++ text_shown name c.args.text.now) c.part_name.ensures in
    more o _ _ _ _ (more o _ _ _ _ (more o _ _ _ _ (more o _ _ _ _ c.in_ok-push_head.ensures c.in_ok-push_facts.ensures) part) c.in_ok-push_listing.ensures) c.in_ok-push_cards.ensures
