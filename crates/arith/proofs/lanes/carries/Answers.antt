use Rattle.std.proofs.Common.{◌∙◌, ap, ltb, replicate}
use Rattle.std.specs.Simd.Lanes.{sel_l}
use Rattle.std.proofs.lemmas.Simd.{tops_compared, zip2_splat_left}
use mir.Syntax.{w8}
use Rattle.arith.proofs.LaneCarries.{carries_are}
use Rattle.arith.proofs.lanes.carries.Goals as goal

pub returns : goal.returns
returns c =
    ap (λ ms. sel_l ms (replicate 16 1) (replicate 16 0)) (tops_compared w8 ltb (replicate 16 9) c.args.sums ∙ zip2_splat_left ltb 9 16 c.args.sums c.requires)
    ∙ carries_are c.args.sums 16 c.requires
