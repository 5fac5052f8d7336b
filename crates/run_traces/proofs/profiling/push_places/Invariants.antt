use Rattle.std.proofs.Common.{◌≡◌, ◌++◌}
use Rattle.machine.specs.Run.{State}
use Rattle.run_traces.specs.Profiles.{IsCounted, places_shown}
use Rattle.run_traces.proofs.profiling.push_places.Given as goal

abbrev pub invariant-loop-address : goal.invariant-loop-address
invariant-loop-address l = (m : State) → IsCounted m l.attempts l.places → l.text.items ≡ l.fn.text.items ++ places_shown m l.attempts l.address
