use Rattle.std.proofs.Common.{◌≤◌, ◌+◌, ◌-◌}
use Rattle.std.specs.Prelude.{min}
use Rattle.core_store.specs.Planes.{AreBare}
use Rattle.core_store.proofs.planes.shared_run.Given as goal

-- what was passed over has no mark
abbrev pub invariant-loop-count : goal.invariant-loop-count
invariant-loop-count l = record {
  within : l.count ≤ min l.a l.b + 1;
  bare : AreBare l.marks l.a l.b l.count;
}

abbrev pub decreases-loop-count : goal.decreases-loop-count
decreases-loop-count l = min l.a l.b + 1 - l.count

abbrev pub invariant-loop-count-2 : goal.invariant-loop-count-2
invariant-loop-count-2 l = record {
  within : l.count ≤ min l.a l.b + 1;
  bare : AreBare l.marks l.a l.b l.count;
}

abbrev pub decreases-loop-count-2 : goal.decreases-loop-count-2
decreases-loop-count-2 l = min l.a l.b + 1 - l.count

abbrev pub invariant-loop-count-3 : goal.invariant-loop-count-3
invariant-loop-count-3 l = record {
  within : l.count ≤ min l.a l.b + 1;
  bare : AreBare l.marks l.a l.b l.count;
}

abbrev pub decreases-loop-count-3 : goal.decreases-loop-count-3
decreases-loop-count-3 l = min l.a l.b + 1 - l.count
