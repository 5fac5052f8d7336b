use Rattle.std.proofs.Common.{◌≡◌, None, take}
use Rattle.std.specs.List.{fold}
use Rattle.run_traces.specs.Names.{nearer}
use Rattle.run_traces.proofs.names.nearest.Given as goal

abbrev pub invariant-loop-slot : goal.invariant-loop-slot
invariant-loop-slot l = l.best ≡ fold (λ best slot. nearer l.address best slot.defines) None (take l.slot-index l.slots)
