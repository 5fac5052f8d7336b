use Rattle.std.proofs.Common.{◌≡◌, take}
use Rattle.workbench_arguments.specs.Values.{stops_text}
use Rattle.workbench_arguments.proofs.values.text_of_stops.Given as goal

abbrev pub invariant-loop-stop : goal.invariant-loop-stop
invariant-loop-stop l = l.text.items ≡ stops_text (take l.stop-index l.stops)
