use Rattle.http_messages.proofs.NameLaw.{name_shown}
use Rattle.http_messages.proofs.laws.names_stand_as_they_are.Goals as goal

pub returns : goal.returns
returns c = name_shown
