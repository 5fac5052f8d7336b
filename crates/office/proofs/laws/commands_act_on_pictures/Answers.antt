use Rattle.office.proofs.CommandLaw.{acts}
use Rattle.office.proofs.laws.commands_act_on_pictures.Goals as goal

pub returns : goal.returns
returns c = acts c.pictures_go_on.ensures.sliced c.pictures_go_on.ensures.started
