use Rattle.disassembly.proofs.StoredLemmas.{IsCopied}
use Rattle.disassembly.proofs.stored.codes_from.Given as goal

abbrev pub invariant-loop-place : goal.invariant-loop-place
invariant-loop-place g l = IsCopied (g.C.Core.cells l.core) l.first l.place l.codes
