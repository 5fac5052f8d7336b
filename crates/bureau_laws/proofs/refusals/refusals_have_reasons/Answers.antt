use Rattle.bureau_laws.proofs.RefusalLaw.{let_through_where, refused_first, refused_never, refused_where}
use Rattle.bureau_laws.proofs.refusals.refusals_have_reasons.Goals as goal

pub returns : goal.returns
returns c = record { refused = refused_where; let_through = let_through_where; first = refused_first; none = refused_never }
