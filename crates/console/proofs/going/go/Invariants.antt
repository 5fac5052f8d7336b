use Rattle.console.proofs.GoLemmas.{Comes}
use Rattle.console.proofs.going.go.Given as goal

abbrev pub invariant-loop-made : goal.invariant-loop-made
invariant-loop-made g l = Comes l.stops l.watched l.fn.machine l.machine l.limit l.made
