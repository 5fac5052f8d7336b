use Rattle.arith.proofs.DecimalLaw.{spelled_read}
use Rattle.arith.proofs.decimal.spelled_is_read.Goals as goal

pub returns : goal.returns
returns c = spelled_read
