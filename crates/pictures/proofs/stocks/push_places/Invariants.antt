use Rattle.std.proofs.Common.{◌≡◌, ◌++◌, ◌-◌}
use Rattle.std.specs.List.{flat_map, range_with_len}
use Rattle.pictures.specs.Cards.{next_place}
use Rattle.pictures.proofs.stocks.push_places.Given as goal

abbrev pub invariant-loop-column : goal.invariant-loop-column
invariant-loop-column l =
    l.out.items ≡ l.initial.out.items ++ flat_map next_place (range_with_len 2 (l.column - 2))
