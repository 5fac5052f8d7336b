use Rattle.std.proofs.Common.{refl}
use Rattle.console.proofs.SessionLemmas.{come_fresh}
use Rattle.console.proofs.sessions.Session.begin.Goals as goal

pub returns-clause-come : goal.returns-clause-come
returns-clause-come c = come_fresh _ c.in_ok-machine.ensures refl c.new.ensures.items
