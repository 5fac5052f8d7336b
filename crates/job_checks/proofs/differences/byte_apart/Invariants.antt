use Rattle.std.proofs.Common.{◌≡◌, ◌<◌, ◌≤◌, ℕ, length, slice_index}
use Rattle.job_checks.proofs.differences.byte_apart.Given as goal

abbrev pub invariant-loop-at : goal.invariant-loop-at
invariant-loop-at l = record {
  same_length : length l.found ≡ length l.wanted;
  within : l.at ≤ length l.found;
  before : (k : ℕ) → k < l.at → slice_index l.found k ≡ slice_index l.wanted k;
}
