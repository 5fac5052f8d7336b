use Rattle.std.proofs.Common.{◌≡◌, length, take}
use Rattle.card_tools.specs.Comparing.{marks_of}
use Rattle.card_tools.proofs.comparing.marks.Given as goal

abbrev pub invariant-loop-column : goal.invariant-loop-column
invariant-loop-column l = record {
  width : length l.codes ≡ 80;
  marks : take l.column l.codes ≡ marks_of (take l.column l.one) (take l.column l.two);
}
