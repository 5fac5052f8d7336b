use Rattle.job_archives.proofs.PartLemmas.{own_of_first, own_of_second}
use Rattle.job_archives.proofs.laws.joins_keep_customers.Goals as goal

pub returns : goal.returns
returns c = record {
  first = own_of_first;
  second = own_of_second;
}
