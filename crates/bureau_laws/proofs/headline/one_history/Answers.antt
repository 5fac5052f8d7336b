use Rattle.bureau_laws.proofs.RoundLaw.{one_history}
use Rattle.bureau_laws.proofs.headline.one_history.Goals as goal

pub returns : goal.returns
returns c = one_history c.offices_run_whole.ensures c.stops_lose_nothing.ensures
