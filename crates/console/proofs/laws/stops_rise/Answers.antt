use Rattle.console.proofs.StopLemmas.{less_rises, more_rises}
use Rattle.console.proofs.laws.stops_rise.Goals as goal

pub returns-clause-more : goal.returns-clause-more
returns-clause-more c = more_rises

pub returns-clause-less : goal.returns-clause-less
returns-clause-less c = less_rises
