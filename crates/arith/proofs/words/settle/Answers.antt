use Rattle.std.proofs.Common.{◌+◌, ◌%◌, ◌∙◌, ap, ltb, replicate}
use Rattle.std.specs.Simd.Lanes.{sel_l, zip2}
use Rattle.std.proofs.lemmas.Simd.{tops_compared}
use mir.Syntax.{w8}
use Rattle.arith.proofs.WordBytes.{settled_lanes}
use Rattle.arith.proofs.words.settle.Goals as goal

pub returns : goal.returns
returns c =
    let more = zip2 (λ x y. (x + y) % 256) c.args.bytes (replicate 16 10) in
    ap (λ ms. sel_l ms c.args.bytes more) (tops_compared w8 ltb c.args.bytes more) ∙ settled_lanes 16 c.args.bytes c.requires
