use Rattle.std.proofs.Common.{◌+◌, ◌-◌, ◌%◌, ◌∙◌, ap, ltb, replicate}
use Rattle.std.specs.Simd.Lanes.{sel_l, zip2}
use Rattle.std.proofs.lemmas.Simd.{tops_compared}
use mir.Syntax.{w8}
use Rattle.arith.proofs.LaneCarries.{units_are}
use Rattle.arith.proofs.lanes.units.Goals as goal

pub returns : goal.returns
returns c =
    let less = zip2 (λ x y. (x + (256 - y)) % 256) c.args.sums (replicate 16 10) in
    ap (λ ms. sel_l ms c.args.sums less) (tops_compared w8 ltb c.args.sums less) ∙ units_are c.args.sums 16 c.requires.sixteen c.requires.most
