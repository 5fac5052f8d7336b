use Rattle.std.proofs.Common.{None}
use Rattle.machine.specs.Run.{most_instructions}
use Rattle.run_traces.specs.Profiles.{IsCounted}
use Rattle.run_traces.proofs.EndLemmas.{Comes}
use Rattle.run_traces.proofs.counting.count_run.Given as goal

abbrev pub invariant-loop-made : goal.invariant-loop-made
invariant-loop-made g l = record {
  comes : Comes l.fn.machine l.machine most_instructions None l.made;
  counted : IsCounted l.fn.machine l.made l.places.items;
}
