use Rattle.std.proofs.Common.{◌≡◌, ◌++◌, replicate}
use Rattle.autocoder.proofs.lines.push_fillers.Given as goal

abbrev pub invariant-loop : goal.invariant-loop
invariant-loop l = l.line.items ≡ l.initial.line.items ++ replicate l.counter l.filler
