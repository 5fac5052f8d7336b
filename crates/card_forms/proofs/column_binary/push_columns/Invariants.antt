use Rattle.std.proofs.Common.{◌≡◌, ◌++◌, take}
use Rattle.std.specs.List.{flat_map}
use Rattle.card_forms.specs.ColumnBinary.{column_bytes}
use Rattle.card_forms.proofs.column_binary.push_columns.Given as goal

abbrev pub invariant-loop-code : goal.invariant-loop-code
invariant-loop-code l = l.file.items ≡ l.fn.file.items ++ flat_map column_bytes (take l.code-index l.codes)
