use Rattle.units.proofs.AreaLemmas.{IsCopied}
use Rattle.units.proofs.areas.lanes_at.Given as goal

abbrev pub invariant-loop-place : goal.invariant-loop-place
invariant-loop-place l = IsCopied l.codes l.first l.place l.lanes
