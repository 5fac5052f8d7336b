use Rattle.std.proofs.Common.{◌≡◌, ◌<◌, ◌≤◌, ℕ, length, get_or}
use Rattle.std.specs.List.{SameBelow, SameFrom}
use Rattle.core_store.proofs.planes.fill.Given as goal

abbrev pub invariant-loop-place : goal.invariant-loop-place
invariant-loop-place g l = record {
  size : length l.plane ≡ length l.initial.plane;
  filled : (k : ℕ) (d : g.row.T.Denot) → l.first ≤ k → k < l.place → get_or l.plane k d ≡ l.value;
  below : SameBelow l.initial.plane l.plane l.first;
  above : SameFrom l.initial.plane l.plane l.place;
}
