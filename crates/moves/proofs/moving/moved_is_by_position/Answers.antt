use Rattle.moves.proofs.PositionLaw.{is_moved}
use Rattle.moves.proofs.moving.moved_is_by_position.Goals as goal

pub returns : goal.returns
returns c = is_moved
