-- What is found of a log behind its header is all of its damage.
use Rattle.std.proofs.Common.{◌≡◌, ◌≤◌, ℕ, List, length, slice_index, Bool, IsTrue, ◌↔◌, Option, Some, None, MatchOption, inl, inr, refl, sym, ap, subst, ◌∙◌, arith}
use Rattle.sqlite_wal.specs.Format.{IsSigned, be32}
use Rattle.sqlite_wal.specs.PageSize.{IsPageSize}
use Rattle.sqlite_wal.specs.Recovery.{Replays, frame_at, header}
use Rattle.sqlite_wal.specs.Opening.{RefusesLog}
use Rattle.sqlite_wal.specs.Outcome.{HasCause, OnlyIf}
use Rattle.sqlite_wal.specs.declared.error.Error.{Error}
use Rattle.sqlite_wal.specs.declared.error.Error.TheVariants.{Io, OutOfMemory, Closed, NoSuchPage, Full, Corrupt, Exists}
use Rattle.sqlite_wal.proofs.RecoveryLemmas.{replays_once}
use Rattle.sqlite_wal.proofs.FormatLemmas.{be32-part}
use Rattle.sqlite_wal.proofs.PartLemmas.{slice_index-part}
use Rattle.database_files.specs.Damage.{WasKept, HasGateOpen, HasHeaderBegun, IsTorn, IsDamaged, IsDamagedAs, IsFull, IsKeptAs}
use Rattle.database_files.specs.declared.damage.Damage.{Damage}
use Rattle.database_files.specs.declared.damage.Damage.TheVariants as of

module _ (log : List ℕ) (begun : HasHeaderBegun log) where
  -- the numbers of the header are those of the log
  pub size_is : (head : List ℕ) → head ≡ header log → be32 head 8 ≡ be32 log 8
  size_is head is = ap (λ (b : List ℕ). be32 b 8) is ∙ be32-part log 0 32 8 (omega arith)

  pub key_is : (head : List ℕ) → head ≡ header log → slice_index head 16 ≡ slice_index log 16
  key_is head is = ap (λ (b : List ℕ). slice_index b 16) is ∙ slice_index-part log 0 32 16 (omega (arith, begun.0))

  -- recovery takes so many frames, and the gate behind them was looked at
  pub torn_told : (now : List ℕ) (told frames : ℕ) (torn : Bool) → now ≡ log → told ≡ frames → IsPageSize (be32 log 8)
      → Replays (be32 log 8) log frames → (IsTrue torn ↔ HasGateOpen now told) → (IsTrue torn ↔ IsTorn log)
  torn_told now told frames torn is_log is_told size taken gate = (
    λ is. record {
      begun = begun;
      size = size;
      frames = frames;
      taken = taken;
      gate = subst (λ n. HasGateOpen log n) is_told (subst (λ l. HasGateOpen l told) is_log (gate.0 is));
    },
    λ is. gate.1 (subst (λ l. HasGateOpen l told) (sym is_log) (subst (λ n. HasGateOpen log n)
        (replays_once _ _ _ _ is.taken taken ∙ sym is_told) is.gate)),
  )

module _ (log : List ℕ) (begun : HasHeaderBegun log) (signed : IsSigned (header log)) where
  -- a log that recovery refuses has no damage that could be told
  pub not_taken : ((k : ℕ) → ¬ Replays (be32 log 8) log k) → ¬ IsDamaged log
  not_taken none (inl header_is) = header_is.1 signed
  not_taken none (inr commit) = none commit.0 commit.1.3

  all_of : (frames : ℕ) (found : Option Damage) → IsPageSize (be32 log 8) → Replays (be32 log 8) log frames
      → MatchOption found (¬ WasKept log frames) (IsKeptAs log frames) → MatchOption found (¬ IsDamaged log) (IsDamagedAs log)
  all_of frames None size taken shut = λ is. elim is [
    | inl header_is ↦ absurd (header_is.1 signed)
    | inr commit ↦ shut (subst (WasKept log) (replays_once _ _ _ _ commit.1.3 taken) commit.1.4)
  ]
  all_of frames (Some of.Header) size taken gate = absurd gate
  all_of frames (Some (of.Commit sound all)) size taken gate =
      ((begun, signed, size, subst (Replays (be32 log 8) log) (sym gate.1) taken, subst (WasKept log) (sym gate.1) gate.0), gate.2)

  -- recovery takes so many frames, and the gate behind them was looked at
  pub all_told : (now : List ℕ) (sound frames : ℕ) (found : Option Damage) → now ≡ log → sound ≡ frames → IsPageSize (be32 log 8)
      → Replays (be32 log 8) log frames → MatchOption found (¬ WasKept now sound) (IsKeptAs now sound)
      → MatchOption found (¬ IsDamaged log) (IsDamagedAs log)
  all_told now sound frames found is_log is_sound size taken gate =
      all_of frames found size taken (subst (λ n. MatchOption found (¬ WasKept log n) (IsKeptAs log n)) is_sound
      (subst (λ l. MatchOption found (¬ WasKept l sound) (IsKeptAs l sound)) is_log gate))

  pub refused_log : (old new size : ℕ) (e : Error) → size ≡ be32 log 8 → e ≡ Corrupt → HasCause old new (RefusesLog size log) e → ¬ IsDamaged log
  refused_log old new size e is corrupt cause = elim (subst (HasCause old new (RefusesLog size log)) corrupt cause) [
    | inl a ↦ not_taken (λ k taken. a.1 k (subst (λ n. Replays n log k) (sym is) taken))
    | inr b ↦ absurd (cc)
  ]

  -- why recovery may fail, but for the logs that it refuses
  pub cause_of : (old new size : ℕ) (e : Error) → size ≡ be32 log 8 → (¬ (e ≡ Corrupt)) → HasCause old new (RefusesLog size log) e
      → HasCause old new (OnlyIf Full (IsFull log)) e
  cause_of old new size (Io e) is other cause = cause
  cause_of old new size OutOfMemory is other cause = cause
  cause_of old new size Closed is other cause = elim cause [ inl a ↦ absurd (other a.0) | inr b ↦ absurd (cc) ]
  cause_of old new size NoSuchPage is other cause = elim cause [ inl a ↦ absurd (other a.0) | inr b ↦ absurd (cc) ]
  cause_of old new size Full is other cause = elim cause [ inl a ↦ absurd (other a.0) | inr b ↦ (refl, (begun, signed, subst (λ n. frame_at n 0xffff_fffe ≤ length log) is b.1)) ]
  cause_of old new size Corrupt is other cause = absurd (other refl)
  cause_of old new size Exists is other cause = elim cause [ inl a ↦ absurd (other a.0) | inr b ↦ absurd (cc) ]
