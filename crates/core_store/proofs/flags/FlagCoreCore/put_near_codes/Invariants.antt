use Rattle.std.proofs.Common.{◌≡◌, ◌+◌, ◌-◌, ◌≤◌, drop, length}
use Rattle.core_store.specs.Storage.{put_codes}
use Rattle.core_store.proofs.flags.FlagCoreCore.put_near_codes.Given as goal

abbrev pub invariant-loop-place : goal.invariant-loop-place
invariant-loop-place l = record {
  written : l.self ≡ put_codes l.fn.self (l.position - 15 + l.place) (drop l.place l.fn.codes);
  size : length l.self ≡ length l.fn.self;
  most : l.place ≤ 16;
}
