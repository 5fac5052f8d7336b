use Rattle.std.proofs.Common.{inl, inr, refl}
use Rattle.card_tools.proofs.manifests.name_in.Goals as goal

pub returns-in-Some : goal.returns-in-Some
returns-in-Some c = inl c.in-Some.ensures.found

pub returns-in-None : goal.returns-in-None
returns-in-None c = inr (c.in-None.ensures.none refl, refl)
