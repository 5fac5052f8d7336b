use Rattle.std.proofs.Common.{◌≡◌, ◌+◌, drop}
use Rattle.autocoder_statements.specs.Characters.{run}
use Rattle.autocoder_statements.proofs.characters.Class.run.Given as goal

abbrev pub invariant-loop-count : goal.invariant-loop-count
invariant-loop-count l = l.count + run l.self (drop l.count l.text) ≡ run l.self l.text
