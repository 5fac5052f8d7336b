-- An open log ends behind a shut gate, whatever a crash leaves of it.
use Rattle.std.proofs.Common.{◌≡◌, ◌+◌, ℕ, List, length, slice_index, inl, inr, sym, ap, subst, ◌∙◌, arith, IsTrue}
use Rattle.std.proofs.lemmas.Bool.{and_parts}
use Rattle.std.proofs.Math.Logic.{∥∥₁_elim}
use Rattle.sqlite_disk.specs.declared.Disk.{Ghosts}
use Rattle.sqlite_wal.specs.declared.log.Log.{Log}
use Rattle.sqlite_wal.specs.Files.{outcomes}
use Rattle.sqlite_wal.specs.Format.{be32}
use Rattle.sqlite_wal.specs.Gate.{IsShut}
use Rattle.sqlite_wal.specs.Index.{Index, gate_of, key_of, StopsAt, Lists}
use Rattle.sqlite_wal.specs.Log.{durable}
use Rattle.sqlite_wal.specs.Reads.{AreClean}
use Rattle.sqlite_wal.specs.Recovery.{Image, IsCommitted, Replays, frame_at, header}
use Rattle.sqlite_wal.proofs.FormatLemmas.{be32-part}
use Rattle.sqlite_wal.proofs.PartLemmas.{slice_index-part}
use Rattle.sqlite_wal.proofs.RecoveryLemmas.{IsCommitted-shares, invalid_at_shut, last_at_invalid, replays_once}
use Rattle.sqlite_pool.specs.Pool as pool
use Rattle.sqlite_store.specs.FileStore.{state}
use Rattle.sqlite_store.specs.declared.store.FileStore.{FileStore}
use Rattle.database_files.specs.Damage.{HasDamagedCommit, IsDamaged}

-- a log with a sound header and so many committed frames, behind which the gate is shut
module _ (size frames : ℕ) (log : List ℕ) (committed : IsCommitted size log frames) (shut : IsShut log (frame_at size frames + 8) (slice_index (header log) 16)) where
  taken : Replays size log frames
  taken = inr (committed, last_at_invalid size log frames (invalid_at_shut size log frames shut))

  size_is : be32 log 8 ≡ size
  size_is = sym (be32-part log 0 32 8 (omega arith)) ∙ committed.head.size

  not_open : (other : ℕ) → ¬ HasDamagedCommit log other
  not_open other is =
      let same : other ≡ frames = replays_once size log other frames (subst (λ n. Replays n log other) size_is is.3) taken in
      let gate : frame_at (be32 log 8) other ≡ frame_at size frames = ap (λ n. frame_at n other) size_is ∙ ap (frame_at size) same in
      shut.differs (ap (λ at. slice_index log (at + 8)) (sym gate) ∙ is.4.0.1 ∙ sym (slice_index-part log 0 32 16 (omega (arith, committed.long))))

  pub is_undamaged : ¬ IsDamaged log
  is_undamaged (inl header_is) = header_is.1 committed.head.signed
  is_undamaged (inr commit) = not_open commit.0 commit.1

-- a log that has the frames of the index, and no more
pub stops_undamaged : (it : Index) (seen log db : List ℕ) → Lists it seen db → StopsAt it seen log → ¬ IsDamaged log
stops_undamaged it seen log db lists stops =
    let key : key_of it ≡ slice_index (header log) 16 = ap (λ (b : List ℕ). slice_index b 16) (lists.head ∙ sym stops.shares.head) in
    is_undamaged it.page_size (length it.numbers) log (IsCommitted-shares _ _ seen log stops.shares lists.committed) (subst (IsShut log (gate_of it)) key stops.shut)

module _ {D : Type 0} {g : Ghosts D} where
  pub log_undamaged : (it : Log D g) → IsTrue it.is_open → AreClean g it.log it.db → (image : Image) → outcomes g it.log it.db image → ¬ IsDamaged image.log
  log_undamaged it is_open clean image out damaged =
      ∥∥₁_elim (it.sound is_open clean) (λ x y. absurd x) (λ sound. stops_undamaged (durable it) _ image.log _ sound.ready.shown (sound.log_safe image.log out.0) damaged)

  pub store_undamaged : (it : FileStore D g) → IsTrue (state it).is_open → (image : Image) → (state it).may_leave image → ¬ IsDamaged image.log
  unfolding pool.state
  store_undamaged it is_open image may =
      let ready = and_parts _ _ is_open in
      let below = and_parts _ _ ready.1 in
      log_undamaged it.pool.backing.pager.log below.0 below.1 image may.1
