use Rattle.std.proofs.Common.{◌≡◌, length}
use Rattle.machine.specs.Effect.{works_of}
use Rattle.machine.specs.Run.{running}
use Rattle.machine.proofs.Steps.{Reached}
use Rattle.machine.proofs.cycle.execute_up_to.Given as goal

abbrev pub invariant-loop-attempted : goal.invariant-loop-attempted
invariant-loop-attempted g l = record {
  reached : Reached (running (works_of (g.C.Core.cells l.fn.core) l.fn.registers l.fn.units)) (running (works_of (g.C.Core.cells l.core) l.registers l.units)) l.attempted;
  size : length (g.C.Core.cells l.core) ≡ length (g.C.Core.cells l.fn.core);
  cache : l.cache.size ≡ length (g.C.Core.cells l.fn.core);
  here : l.registers.i ≡ l.i;
}
