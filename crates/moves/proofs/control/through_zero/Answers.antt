use Rattle.std.proofs.Common.{◌-◌, arith, drop}
use Rattle.std.proofs.lemmas.List.{length-drop}
use Rattle.moves.proofs.FillingLemmas.{through_within}
use Rattle.moves.proofs.ControlZero.{lanes_through}
use Rattle.moves.proofs.control.through_zero.Goals as goal

pub returns-clause-through : goal.returns-clause-through
returns-clause-through c = lanes_through c.args.control (16 - c.args.count) c.equal.result (omega (arith, c.requires.sixteen)) c.requires.below c.equal.ensures

pub returns-clause-limit : goal.returns-clause-limit
returns-clause-limit c =
    let last = drop (16 - c.args.count) c.args.control in
    let through = lanes_through c.args.control (16 - c.args.count) c.equal.result (omega (arith, c.requires.sixteen)) c.requires.below c.equal.ensures in
    omega (arith, through, through_within last, length-drop (16 - c.args.count) c.args.control, c.requires.sixteen)
