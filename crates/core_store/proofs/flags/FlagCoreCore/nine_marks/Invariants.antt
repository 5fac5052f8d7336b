use Rattle.std.proofs.Common.{◌≡◌, ◌+◌, ◌-◌, ◌≤◌}
use Rattle.std.specs.Simd.Lanes.{mask_l}
use Rattle.core_store.specs.Storage.{marks_from}
use Rattle.core_store.proofs.flags.FlagCoreCore.nine_marks.Given as goal

abbrev pub invariant-loop-place : goal.invariant-loop-place
invariant-loop-place l = record {
  read : l.marks ≡ mask_l (marks_from l.self (l.position + l.place) (9 - l.place));
  most : l.place ≤ 9;
}
