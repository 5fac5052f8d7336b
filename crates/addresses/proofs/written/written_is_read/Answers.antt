use Rattle.bcd.specs.declared.Zone.TheVariants.{Bare}
use Rattle.addresses.proofs.DigitLemmas.{written_read}
use Rattle.addresses.proofs.written.written_is_read.Goals as goal

pub returns-clause-read : goal.returns-clause-read
returns-clause-read c = λ n h. written_read n h Bare

pub returns-clause-with_tag : goal.returns-clause-with_tag
returns-clause-with_tag c = written_read
