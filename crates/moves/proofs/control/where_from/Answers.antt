use Rattle.std.proofs.Common.{◌∙◌, ap, leb, replicate}
use Rattle.std.specs.Simd.Lanes.{sel_l}
use Rattle.std.proofs.lemmas.Simd.{tops_compared, zip2_splat_left}
use mir.Syntax.{w8}
use Rattle.moves.proofs.control.where_from.Goals as goal

pub returns : goal.returns
returns c =
    ap (λ ms. sel_l ms c.args.lanes c.args.others) (tops_compared w8 leb (replicate 16 c.args.least) c.args.keys ∙ zip2_splat_left leb c.args.least 16 c.args.keys c.requires)
