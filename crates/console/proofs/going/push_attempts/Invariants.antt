use Rattle.std.specs.Prelude.{option_copied}
use Rattle.console.proofs.AttemptLemmas.{Shows}
use Rattle.console.proofs.going.push_attempts.Given as goal

abbrev pub invariant-loop-count : goal.invariant-loop-count
invariant-loop-count g l = Shows (option_copied l.names) l.made l.fn.machine l.machine l.limit l.count l.fn.text.items l.text.items
