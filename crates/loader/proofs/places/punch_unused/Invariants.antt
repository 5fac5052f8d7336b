use Rattle.std.proofs.Common.{◌≡◌, ◌+◌, ◌-◌, ◌*◌, ◌++◌, length, replicate}
use Rattle.std.specs.List.{concat}
use Rattle.loader.specs.Cards.{unused}
use Rattle.loader.proofs.places.punch_unused.Given as goal

abbrev pub invariant-loop : goal.invariant-loop
invariant-loop l = record {
  punched : l.columns ++ concat (replicate (3 - l.counter) unused) ≡ l.fn.columns ++ concat (replicate (3 - l.used) unused);
  columns : length l.columns + 7 * (3 - l.counter) ≡ length l.fn.columns + 7 * (3 - l.used);
}
