use Rattle.films.proofs.SignLemmas.{signs_left}
use Rattle.films.proofs.signs.push_signs.Goals as goal

pub returns : goal.returns
returns c =
    rw (signs_left c.args.surface c.args.codes.now c.length_shown.result c.length_shown.ensures.text) c.push_each.ensures
