use Rattle.std.proofs.Common.{refl, sym}
use Rattle.machine.proofs.at_once.placed_now.Goals as goal

pub returns-clause-placed : goal.returns-clause-placed
returns-clause-placed g c = rw c.working_at.ensures (sym c.in-Ok.ensures.operands)

pub returns-clause-shape : goal.returns-clause-shape
returns-clause-shape g c = rw c.working_at.ensures refl
