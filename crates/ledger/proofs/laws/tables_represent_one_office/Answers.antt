use Rattle.ledger.proofs.OneOfficeLaw.{one_office}
use Rattle.ledger.proofs.laws.tables_represent_one_office.Goals as goal

pub returns : goal.returns
returns c = one_office
