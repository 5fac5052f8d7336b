use Rattle.std.proofs.Common.{◌≡◌, None, take}
use Rattle.std.specs.List.{fold}
use Rattle.autocoder_statements.specs.Mnemonics.{or_else}
use Rattle.disassembly.specs.Statements.{of_row}
use Rattle.disassembly.proofs.statements.of_rows.Given as goal

abbrev pub invariant-loop-row : goal.invariant-loop-row
invariant-loop-row l = l.found ≡ fold (λ found row. or_else (of_row row l.word) found) None (take l.row-index l.rows)
