use Rattle.std.proofs.Common.{◌∙◌, ap, ltb}
use Rattle.std.specs.Simd.Lanes.{sel_l}
use Rattle.std.proofs.lemmas.Simd.{tops_compared}
use mir.Syntax.{w8}
use Rattle.arith.proofs.LaneLemmas.{sel_max}
use Rattle.arith.proofs.lanes.greater.Goals as goal

pub returns : goal.returns
returns c = ap (λ ms. sel_l ms c.args.b c.args.a) (tops_compared w8 ltb c.args.a c.args.b) ∙ sel_max c.args.a c.args.b
