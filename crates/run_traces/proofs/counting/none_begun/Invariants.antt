use Rattle.std.proofs.Common.{◌≡◌, [], length}
use Rattle.std.specs.List.{All}
use Rattle.run_traces.proofs.counting.none_begun.Given as goal

abbrev pub invariant-loop-address : goal.invariant-loop-address
invariant-loop-address l = record {
  size : length l.places.items ≡ l._address;
  none : All (λ begun. (begun.count ≡ 0) × (begun.characters.items ≡ [])) l.places.items;
}
