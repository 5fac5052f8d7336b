use Rattle.std.proofs.Common.{◌∙◌, ap, eqb, replicate}
use Rattle.std.specs.Simd.Lanes.{sel_l}
use Rattle.std.proofs.lemmas.Simd.{tops_compared, zip2_splat}
use mir.Syntax.{w8}
use Rattle.moves.proofs.control.where_equal.Goals as goal

pub returns : goal.returns
returns c =
    ap (λ ms. sel_l ms c.args.lanes c.args.others) (tops_compared w8 eqb c.args.keys (replicate 16 c.args.value) ∙ zip2_splat eqb c.args.keys 16 c.args.value c.requires)
