use Rattle.std.proofs.Common.{◌≡◌, drop}
use Rattle.autocoder_statements.specs.Mnemonics.{entry}
use Rattle.autocoder_statements.proofs.operations.entry.Given as goal

abbrev pub invariant-loop-index : goal.invariant-loop-index
invariant-loop-index g l = entry (drop l.index l.table) l.word ≡ entry l.table l.word
