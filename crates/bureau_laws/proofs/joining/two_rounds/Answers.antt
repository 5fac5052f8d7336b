use Rattle.sqlite.specs.WalFiles.{image_at}
use Rattle.bureau_laws.proofs.TwoRoundsLaw.{both_ok, joined}
use Rattle.bureau_laws.proofs.joining.two_rounds.Goals as goal

pub returns : goal.returns
returns g c =
    both_ok c.with_bureau-one.result c.with_bureau-two.result _ _ _
    (λ one two round more. joined c.one_history.ensures (image_at g.S.Start) (image_at g.T.Start) _ _ _ _ round more)
    c.with_bureau-one.ensures.round c.with_bureau-two.ensures.round
