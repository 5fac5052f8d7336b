use Rattle.job_archives.proofs.PartLemmas.{own_gone, own_in_part, whole_in_one}
use Rattle.job_archives.proofs.laws.parts_keep_customers.Goals as goal

pub returns : goal.returns
returns c = record {
  theirs = λ customers customer office here. own_in_part customers customer here office;
  others = λ customers customer office gone. own_gone customers customer gone office;
  one = whole_in_one;
}
