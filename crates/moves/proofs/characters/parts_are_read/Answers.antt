use Rattle.moves.proofs.CharacterLaw.{is_read}
use Rattle.moves.proofs.characters.parts_are_read.Goals as goal

pub returns : goal.returns
returns c = is_read
