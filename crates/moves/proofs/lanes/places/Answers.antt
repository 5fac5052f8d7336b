use Rattle.std.proofs.Common.{◌-◌, arith, drop}
use Rattle.std.proofs.lemmas.List.{length-drop}
use Rattle.moves.proofs.LaneLemmas.{places_are_ones, places_most}
use Rattle.moves.proofs.lanes.places.Goals as goal

pub returns-clause-places : goal.returns-clause-places
returns-clause-places c = places_are_ones c.args.codes c.replace_lanes.result (16 - c.args.count) c.equal.result c.requires.below c.replace_lanes.ensures c.equal.ensures

pub returns-clause-limit : goal.returns-clause-limit
returns-clause-limit c =
    let left = 16 - c.args.count in
    let ones = places_are_ones c.args.codes c.replace_lanes.result (16 - c.args.count) c.equal.result c.requires.below c.replace_lanes.ensures c.equal.ensures in
    omega (arith, ones, places_most (drop left c.args.codes), length-drop left c.args.codes)
