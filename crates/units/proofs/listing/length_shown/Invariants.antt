use Rattle.std.proofs.Common.{◌≡◌, ◌≤◌, ◌<◌, ℕ, length, get_or}
use Rattle.units.specs.Listing.{shown, blank}
use Rattle.units.proofs.listing.length_shown.Given as goal

abbrev pub invariant-loop-end : goal.invariant-loop-end
invariant-loop-end l = record {
  within : l.end ≤ length l.codes;
  blank : (k : ℕ) → l.end ≤ k → k < length l.codes → shown (get_or l.codes k 0) ≡ blank;
}

abbrev pub decreases-loop-end : goal.decreases-loop-end
decreases-loop-end l = l.end

abbrev pub invariant-loop-length : goal.invariant-loop-length
invariant-loop-length l = (k : ℕ) → l.length ≤ k → k < length l.codes → shown (get_or l.codes k 0) ≡ blank
