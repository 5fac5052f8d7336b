use Rattle.bureau_laws.proofs.HeadLaw.{not_both, one_of_head, one_status}
use Rattle.bureau_laws.proofs.HeadEnds.{not_one}
use Rattle.bureau_laws.proofs.BothStatuses.{both_statuses}
use Rattle.bureau_laws.proofs.heads.one_refusal.Goals as goal

pub returns : goal.returns
returns c = record { not_both = not_both; of_head = one_of_head; of_any = one_status; both = both_statuses; not_one = not_one }
