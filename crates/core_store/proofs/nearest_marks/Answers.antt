use Rattle.core_store.proofs.Marks.{greatest_is_greatest, least_is_least}
use Rattle.core_store.proofs.nearest_marks.Goals as goal

pub returns : goal.returns
returns c = record { greatest = greatest_is_greatest; least = least_is_least }
