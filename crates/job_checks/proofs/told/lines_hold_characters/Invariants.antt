use Rattle.std.proofs.Common.{All, take}
use Rattle.ledger_rows.specs.Columns.{IsLine}
use Rattle.job_checks.proofs.told.lines_hold_characters.Given as goal

abbrev pub invariant-loop-at : goal.invariant-loop-at
invariant-loop-at l = All IsLine (take l.at l.lines)
