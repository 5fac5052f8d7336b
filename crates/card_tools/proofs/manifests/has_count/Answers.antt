use Rattle.std.proofs.Common.{refl}
use Rattle.card_tools.proofs.manifests.has_count.Goals as goal

pub returns-in-Some-clause-yes : goal.returns-in-Some-clause-yes
returns-in-Some-clause-yes c _ none = none c.in-Some.ensures.found.0 _ c.in-Some.ensures.found.1

pub returns-in-None-clause-no : goal.returns-in-None-clause-no
returns-in-None-clause-no c _ = c.in-None.ensures.none refl
