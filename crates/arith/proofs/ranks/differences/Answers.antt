use Rattle.std.proofs.Common.{ℕ, ◌%◌, ◌^◌, ◌∙◌, ap, arith, not, eqb}
use Rattle.std.specs.Simd.Lanes.{mask_l, zip2}
use Rattle.std.proofs.lemmas.Simd.{tops_compared, mask_l-mod, length-zip2}
use mir.Syntax.{w8}
use Rattle.arith.proofs.ranks.differences.Goals as goal

pub returns : goal.returns
returns c =
    let differs = λ (x y : ℕ). not (eqb x y) in
    ap (λ ms. mask_l ms % 2 ^ 64) (tops_compared w8 differs c.args.a c.args.b)
    ∙ mask_l-mod (zip2 differs c.args.a c.args.b) 64 (omega (arith, length-zip2 differs c.args.a c.args.b (omega arith)))
