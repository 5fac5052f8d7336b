use Rattle.units.proofs.InRange.{only_adds, keeps_after, keeps_lines, keeps_cards}
use Rattle.units.proofs.laws.operating_only_adds.Goals as goal

pub returns : goal.returns
returns c = record { operation = only_adds; storage = λ devices s t u after_it e. (keeps_after devices s t u after_it e).size; carriage = keeps_lines; pocket = keeps_cards }
