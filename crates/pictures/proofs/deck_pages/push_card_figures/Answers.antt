use Rattle.std.proofs.Common.{◌+◌, ◌∙◌, ◌++◌, ap, drop, refl}
use Rattle.std.proofs.lemmas.List.{drop_more}
use Rattle.pictures.specs.Decks.{figures_from}
use Rattle.pictures.proofs.CountedPieces.{all_done, figure_on}
use Rattle.pictures.proofs.deck_pages.push_card_figures.Goals as goal

pub loop-index-preserved : goal.loop-index-preserved
loop-index-preserved c =
    let i = c.loop-index.index in
    let cards = c.args.cards.now in
    let left = drop_more cards i _ c.loop-index-test.true in
    ap (λ out. out ++ figures_from (i + 1 + 1) (drop (i + 1) cards)) c.in_ok-push_card_figure.ensures
    ∙ figure_on (i + 1) _ (drop (i + 1) cards) (drop i cards) c.loop-index.out.items left
    ∙ c.loop-index.invariant

pub returns : goal.returns
unfolding figures_from
returns c =
    all_done (figures_from (c.loop-index.index + 1)) c.args.cards.now c.loop-index.index _ _ c.loop-index-test.false refl c.loop-index.invariant
