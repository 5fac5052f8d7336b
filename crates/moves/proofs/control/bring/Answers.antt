use Rattle.moves.proofs.control.bring.Goals as goal

pub returns : goal.returns
returns c = c.bring_16.ensures
