use Rattle.moves.proofs.PositionLaw.{is_loaded}
use Rattle.moves.proofs.loading.loaded_is_by_position.Goals as goal

pub returns : goal.returns
returns c = is_loaded
