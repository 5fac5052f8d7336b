use Rattle.std.proofs.Common.{◌≡◌, ◌≤◌, All, length}
use Rattle.std.specs.Simd.Lanes.{sum_l}
use Rattle.arith.specs.Columns.{number}
use Rattle.arith.proofs.lanes.carry.Given as goal

-- the number stays
abbrev pub invariant-loop-sums : goal.invariant-loop-sums
invariant-loop-sums l = record {
  number : number l.sums ≡ number l.initial.sums;
  most : All (λ sum. sum ≤ 18) l.sums;
  sixteen : length l.sums ≡ 16;
}

-- each step makes the sum of the digits less
abbrev pub decreases-loop-sums : goal.decreases-loop-sums
decreases-loop-sums l = sum_l l.sums
