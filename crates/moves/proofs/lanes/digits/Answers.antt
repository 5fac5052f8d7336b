use Rattle.std.proofs.Common.{ℕ, ◌+◌, ◌-◌, ◌%◌, ◌∙◌, ap, arith, length, ltb, map, replicate}
use Rattle.std.specs.Simd.Lanes.{mask_l, zip2}
use Rattle.std.proofs.lemmas.List.{length-map}
use Rattle.std.proofs.lemmas.Simd.{bitmask_splat, zip2_splat}
use mir.Syntax.{w8}
use Rattle.moves.proofs.LaneBlanks.{lanes_digit}
use Rattle.moves.proofs.lanes.digits.Goals as goal

pub returns : goal.returns
returns c =
    let less = λ (x y : ℕ). (x + (256 - y)) % 256 in
    let ones = zip2_splat less c.args.codes 16 1 c.requires.sixteen in
    bitmask_splat w8 ltb (zip2 less c.args.codes (replicate 16 1)) 16 9 (ap length ones ∙ length-map c.args.codes (λ lane. (lane + 255) % 256) ∙ c.requires.sixteen) (omega arith)
    ∙ ap (λ l. mask_l (map (λ lane. ltb lane 9) l)) ones
    ∙ ap mask_l (lanes_digit c.args.codes c.requires.below)
