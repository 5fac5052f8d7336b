use Rattle.bureau_laws.proofs.RoundLaw.{links_lead}
use Rattle.bureau_laws.proofs.headline.stops_lose_nothing.Goals as goal

pub returns : goal.returns
returns c = links_lead c.kept_offices_run_whole.ensures
