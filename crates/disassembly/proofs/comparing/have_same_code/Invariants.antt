use Rattle.disassembly.proofs.CodeLemmas.{AreSameBelow}
use Rattle.disassembly.proofs.comparing.have_same_code.Given as goal

abbrev pub invariant-loop-position : goal.invariant-loop-position
invariant-loop-position g l = AreSameBelow (g.C.Core.cells l.core) (g.D.Core.cells l.other) l.position
