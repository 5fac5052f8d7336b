use Rattle.bureau_laws.proofs.ChainLemmas.{chain_leads}
use Rattle.bureau_laws.proofs.rounds.chains_lead_on.Goals as goal

pub returns : goal.returns
returns c = chain_leads
