use Rattle.loader.proofs.PlaceMarks.{pair_of_two, pair_of_one}
use Rattle.loader.proofs.places.next_pair.Goals as goal

pub returns-in_default-next_mark-clause-pair : goal.returns-in_default-next_mark-clause-pair
returns-in_default-next_mark-clause-pair c = pair_of_one _ _ c.in-Some.first c.in-Some.ensures.mark c.in_default-next_mark.ensures.mark

pub returns-clause-pair : goal.returns-clause-pair
returns-clause-pair c = pair_of_two _ _ _ c.in-Some.first c.in-Some-next_mark.second c.in-Some.ensures.mark c.in-Some-next_mark.ensures.mark
