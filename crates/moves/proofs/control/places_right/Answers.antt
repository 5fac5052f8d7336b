use Rattle.moves.proofs.ControlPlaces.{counted_right}
use Rattle.moves.proofs.control.places_right.Goals as goal

pub returns : goal.returns
returns c = counted_right c.args.control c.place_bits-ones.result c.requires.sixteen c.place_bits-ones.ensures
