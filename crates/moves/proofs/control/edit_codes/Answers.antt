use Rattle.std.proofs.Common.{◌-◌, drop}
use Rattle.moves.proofs.ControlLanes.{codes_edited}
use Rattle.moves.proofs.control.edit_codes.Goals as goal

pub returns-clause-last : goal.returns-clause-last
returns-clause-last c =
    codes_edited c.args.control (drop (16 - c.args.amount_count) c.args.amount) c.args.minus (16 - c.args.count) c.fill_codes-filled.result c.fill_codes-filled.ensures.filled
    c.through_zero-through.result c.through_zero-through.ensures.through c.blank_codes.result c.blank_codes.ensures.last
