use Rattle.std.proofs.Common.{ℕ, ◌∙◌, ap, arith, eqb, length, not}
use Rattle.std.specs.Simd.Lanes.{mask_l}
use Rattle.std.proofs.lemmas.List.{length-map}
use Rattle.std.proofs.lemmas.Simd.{bitmask_splat}
use mir.Syntax.{w8}
use Rattle.moves.specs.Blanked.{faded}
use Rattle.moves.proofs.LaneBlanks.{lanes_other}
use Rattle.moves.proofs.lanes.others.Goals as goal

pub returns : goal.returns
returns c =
    bitmask_splat w8 (λ (x y : ℕ). not (eqb x y)) c.fade_codes.result 16 0 (ap length c.fade_codes.ensures ∙ length-map c.args.codes faded ∙ c.requires.sixteen) (omega arith)
    ∙ ap mask_l (lanes_other c.args.codes c.fade_codes.result c.requires.below c.fade_codes.ensures)
