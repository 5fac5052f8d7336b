use Rattle.std.proofs.Common.{◌+◌, ◌∙◌, ◌++◌, ap, drop, refl}
use Rattle.std.proofs.lemmas.List.{drop_more}
use Rattle.pictures.specs.Cards.{holes_from, outlines}
use Rattle.pictures.proofs.CountedPieces.{all_done}
use Rattle.pictures.proofs.HoleOutlines.{holes_on}
use Rattle.pictures.proofs.holes.push_columns.Goals as goal

pub loop-index-preserved : goal.loop-index-preserved
loop-index-preserved c =
    let i = c.loop-index.index in
    let codes = c.args.patterns.now in
    let left = drop_more codes i _ c.loop-index-test.true in
    ap (λ out. out ++ outlines (holes_from (i + 1 + 1) (drop (i + 1) codes))) c.in_ok-push_column.ensures
    ∙ holes_on (i + 1) _ (drop (i + 1) codes) (drop i codes) c.loop-index.out.items left
    ∙ c.loop-index.invariant

pub returns : goal.returns
unfolding holes_from
returns c =
    all_done (λ codes. outlines (holes_from (c.loop-index.index + 1) codes)) c.args.patterns.now c.loop-index.index _ _ c.loop-index-test.false refl c.loop-index.invariant
