use Rattle.std.proofs.Common.{◌≡◌, take}
use Rattle.workbench.specs.Punching.{tabs_of}
use Rattle.workbench.proofs.punching.tabs_of.Given as goal

abbrev pub invariant-loop-change : goal.invariant-loop-change
invariant-loop-change l = l.tabs ≡ tabs_of (take l.change-index l.changes)
