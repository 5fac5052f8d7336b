use Rattle.std.proofs.Common.{◌≡◌, ◌++◌, ◌-◌}
use Rattle.std.specs.List.{flat_map, range_with_len}
use Rattle.pictures.specs.Cards.{column_number}
use Rattle.pictures.proofs.stocks.push_column_numbers.Given as goal

abbrev pub invariant-loop-column : goal.invariant-loop-column
invariant-loop-column l =
    l.out.items ≡ l.initial.out.items ++ flat_map column_number (range_with_len 1 (l.column - 1))
