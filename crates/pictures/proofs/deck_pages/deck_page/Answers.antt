use Rattle.std.proofs.Common.{◌∙◌, ◌++◌, ap}
use Rattle.pictures.specs.Decks.{deck_head}
use Rattle.pictures.proofs.CountedPieces.{onto}
use Rattle.pictures.proofs.deck_pages.deck_page.Goals as goal

pub returns : goal.returns
returns c =
    onto _ _ _ _ (onto _ _ _ _ (c.in_ok-push_head.ensures ∙ ap (λ out. out ++ deck_head c.args.title.now) c.new-out.ensures.items) c.in_ok-push_stock_definition.ensures) c.in_ok-push_card_figures.ensures
