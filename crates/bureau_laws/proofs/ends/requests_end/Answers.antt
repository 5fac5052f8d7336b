use Rattle.bureau_laws.proofs.EndLaw.{after_refused, cut_in_head, cut_short, large_431, large_head, more_bytes}
use Rattle.bureau_laws.proofs.ends.requests_end.Goals as goal

pub returns : goal.returns
returns c = record {
  cut = cut_short;
  cut_head = cut_in_head;
  large = large_head;
  too_large = large_431;
  more = more_bytes;
  after_head = after_refused;
}
