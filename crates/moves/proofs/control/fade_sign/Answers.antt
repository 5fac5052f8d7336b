use Rattle.std.proofs.Common.{◌==◌, ◌∙◌, if◌then◌else◌, ap, map, sym}
use Rattle.std.specs.Simd.Lanes.{sel_l}
use Rattle.moves.proofs.ControlLanes.{all_signed}
use Rattle.moves.proofs.control.fade_sign.Goals as goal

pub returns-then-minus : goal.returns-then-minus
returns-then-minus c =
    all_signed c.args.right c.args.unsigned c.args.spaced 16 c.requires.sixteen_right c.requires.sixteen_unsigned c.requires.sixteen c.requires.places
    ∙ ap (λ b. sel_l (map (λ key. key == (if b then 16 else 0)) c.args.right) c.args.unsigned c.args.spaced) (sym c.if-minus.true)
