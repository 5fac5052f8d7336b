use Rattle.units.proofs.AreaLemmas.{IsRead}
use Rattle.units.proofs.areas.codes_at.Given as goal

abbrev pub invariant-loop-place : goal.invariant-loop-place
invariant-loop-place g l = IsRead (g.C.Core.cells l.core) l.first g.row.N l.place l.codes
