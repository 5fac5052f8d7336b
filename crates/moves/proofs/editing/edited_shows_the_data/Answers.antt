use Rattle.moves.proofs.EditingLaw.{is_shown}
use Rattle.moves.proofs.editing.edited_shows_the_data.Goals as goal

pub returns : goal.returns
returns c = is_shown
