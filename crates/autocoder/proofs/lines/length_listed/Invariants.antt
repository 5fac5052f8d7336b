use Rattle.std.proofs.Common.{◌≡◌, ◌≤◌, ◌<◌, ℕ, length, get_or}
use Rattle.autocoder.specs.Listing.{blank}
use Rattle.autocoder.proofs.lines.length_listed.Given as goal

abbrev pub invariant-loop-length : goal.invariant-loop-length
invariant-loop-length l = (k : ℕ) → l.length ≤ k → k < length l.line → get_or l.line k 0 ≡ blank
