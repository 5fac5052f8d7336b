use Rattle.std.proofs.Common.{◌≡◌, ◌≤◌, ◌+◌}
use Rattle.pictures.specs.Faults.{AreRightBelow, column_at, line_at}
use Rattle.pictures.proofs.finding.first_fault.Given as goal

abbrev pub invariant-loop-byte : goal.invariant-loop-byte
invariant-loop-byte l = record {
  right : AreRightBelow l.listing l.byte-index;
  line : l.line ≡ line_at l.listing l.byte-index;
  column : l.column ≡ column_at l.listing l.byte-index;
  few_lines : l.line ≤ l.byte-index + 1;
  few_columns : l.column ≤ l.byte-index + 1;
}
