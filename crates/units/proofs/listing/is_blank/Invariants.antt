use Rattle.std.proofs.Common.{◌≡◌, ◌≤◌, ◌<◌, ◌↔◌, ℕ, get_or}
use Rattle.units.proofs.listing.is_blank.Given as goal

abbrev pub invariant-loop-place : goal.invariant-loop-place
invariant-loop-place l = (l.numbers ≡ 0) ↔ ((k : ℕ) → l.first ≤ k → k < l.place → get_or l.codes k 0 ≡ 0)
