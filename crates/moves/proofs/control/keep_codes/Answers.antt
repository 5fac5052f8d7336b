use Rattle.std.proofs.Common.{sym, ◌∙◌}
use Rattle.moves.proofs.ControlLanes.{codes_kept}
use Rattle.moves.proofs.control.keep_codes.Goals as goal

pub returns : goal.returns
returns c =
    codes_kept c.args.right c.args.control c.args.minus c.args.count (c.requires.sixteen_right ∙ sym c.requires.sixteen) c.requires.places c.requires.below
    c.replace_lanes-spaced.result c.replace_lanes.result c.replace_lanes-2.result c.replace_lanes-unsigned.result c.replace_lanes-spaced.ensures c.replace_lanes.ensures c.replace_lanes-2.ensures c.replace_lanes-unsigned.ensures
    c.fade_sign-signed.result c.fade_sign-signed.ensures
    c.replace_lanes-3.result c.replace_lanes-3.ensures c.where_from.result c.where_from.ensures
