use Rattle.std.proofs.lemmas.List.{take_rest}
use Rattle.card_tools.proofs.cutting.from_place.Goals as goal

pub returns : goal.returns
returns c = take_rest c.args.images.now c.args.place
