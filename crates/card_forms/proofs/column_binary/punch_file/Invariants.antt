use Rattle.std.proofs.Common.{◌≡◌, ◌<◌, ◌++◌, length}
use Rattle.card_forms.specs.ColumnBinary.{digits_behind}
use Rattle.card_forms.proofs.column_binary.punch_file.Given as goal

abbrev pub invariant-loop-upper : goal.invariant-loop-upper
invariant-loop-upper l = record {
  digits : l.file.items ++ digits_behind l.columns l.rest ≡ digits_behind 0 l.bytes;
  within : l.columns < 80;
}

abbrev pub decreases-loop-upper : goal.decreases-loop-upper
decreases-loop-upper l = length l.rest
