use Rattle.std.proofs.Common.{◌*◌}
use Rattle.units.proofs.AreaLemmas.{IsWritten}
use Rattle.units.proofs.areas.put_codes.Given as goal

abbrev pub invariant-loop-block : goal.invariant-loop-block
invariant-loop-block g l = IsWritten (g.C.Core.cells l.fn.core) l.codes l.first (l.block * 16) (g.C.Core.cells l.core)
