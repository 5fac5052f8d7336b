use Rattle.run_traces.proofs.EndLemmas.{Comes}
use Rattle.run_traces.proofs.ends.advance_to_stop.Given as goal

abbrev pub invariant-loop-made : goal.invariant-loop-made
invariant-loop-made g l = Comes l.fn.machine l.machine l.limit l.stop l.made
