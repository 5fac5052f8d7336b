use Rattle.std.proofs.Common.{◌≡◌, length}
use Rattle.command_line.specs.Near.{is_near}
use Rattle.command_line.proofs.near.is_near.Given as goal

abbrev pub invariant-loop-first : goal.invariant-loop-first
invariant-loop-first l = is_near l.one l.other ≡ is_near l.left l.right

abbrev pub decreases-loop-first : goal.decreases-loop-first
decreases-loop-first l = length l.left
