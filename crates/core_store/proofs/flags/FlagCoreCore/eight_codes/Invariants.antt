use Rattle.std.proofs.Common.{◌≡◌, ◌+◌, ◌<◌, ℕ, All, length, get_or}
use Rattle.core_store.specs.Storage.{code_at}
use Rattle.core_store.proofs.flags.FlagCoreCore.eight_codes.Given as goal

abbrev pub invariant-loop-place : goal.invariant-loop-place
invariant-loop-place l = record {
  size : length l.codes ≡ 8;
  read : (j : ℕ) → j < l.place → get_or l.codes j 0 ≡ code_at l.self (l.position + j);
  below : All (λ code. code < 64) l.codes;
}
