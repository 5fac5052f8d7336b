use Rattle.moves.proofs.ControlPlaces.{place_bits}
use Rattle.moves.proofs.control.place_bits.Goals as goal

pub returns : goal.returns
returns c = place_bits c.args.control c.replace_lanes.result c.where_equal.result c.requires.sixteen c.requires.below c.replace_lanes.ensures c.where_equal.ensures
