use Rattle.std.proofs.lemmas.List.{take_rest}
use Rattle.card_tools.proofs.cutting.number_columns.Goals as goal

pub returns-clause-columns : goal.returns-clause-columns
returns-clause-columns c = take_rest c.args.image.now.0 72
