use Rattle.loader.proofs.StretchLaw.{is_split, no_other_split}
use Rattle.loader.proofs.laws.stretches_are_longest.Goals as goal

pub returns-clause-split : goal.returns-clause-split
returns-clause-split c = is_split

pub returns-clause-no_other : goal.returns-clause-no_other
returns-clause-no_other c = λ image stretches split. no_other_split stretches image split
