use Rattle.std.proofs.lemmas.List.{take_rest}
use Rattle.card_tools.proofs.numbering.number_columns.Goals as goal

pub returns-clause-columns : goal.returns-clause-columns
returns-clause-columns c = take_rest c.args.card.now.0 72
