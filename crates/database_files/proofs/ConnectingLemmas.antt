-- What is left of files that could not be opened stands for what they stood for.
use Rattle.std.proofs.Common.{◌≡◌, ℕ, Bool, List, [], ◌∷◌, Result, Ok, Err, IfOk, IfErr, Option, Some, None, MatchOption, refl, sym, ap, ap₂, subst, ◌∙◌, inl, inr, arith}
use Rattle.std.proofs.lemmas.Bool.{and_parts}
use Rattle.sqlite_disk.specs.Events.{Event, settled, replay}
use Rattle.sqlite_disk.specs.History.{MayLeave}
use Rattle.sqlite_disk.specs.Disk.{MoreFaults}
use Rattle.sqlite_disk.specs.declared.Disk.{Ghosts}
use Rattle.sqlite_disk.specs.declared.Files.{Files}
use Rattle.sqlite_store.specs.declared.store.FileStore.{FileStore}
use Rattle.sqlite_wal.specs.Format.{be32}
use Rattle.sqlite_wal.specs.Outcome.{HasCause, OnlyIf}
use Rattle.sqlite_wal.specs.Reads.{IsClean, OnlyReads}
use Rattle.sqlite_wal.specs.Recovery.{Image}
use Rattle.sqlite_wal.specs.declared.error.Error.{Error as LogError}
use Rattle.sqlite_wal.specs.declared.error.Error.TheVariants as wal
use Rattle.sqlite.specs.Files.{FailsToOpenFiles, Finds, IsCleanLeft, IsTooLong, LeavesFiles, file_state, image_of}
use Rattle.sqlite.specs.Held.{Held}
use Rattle.sqlite.specs.Start.{FindsIn}
use Rattle.sqlite.specs.State.{HasCleanDisk}
use Rattle.sqlite.specs.declared.error.Error.{Error}
use Rattle.sqlite.specs.declared.error.Error.TheVariants.{SqliteFailure}
use Rattle.sqlite.specs.declared.error.ErrorCode.TheVariants.{DatabaseCorrupt}
use Rattle.sqlite.specs.declared.file.Leftover.{Leftover}
use Rattle.sqlite.specs.declared.file.Leftover.TheVariants as left
use Rattle.database_files.specs.Connecting.{AreAsFound, IsUnconnected, look_error}
use Rattle.database_files.specs.Damage.{IsDamaged, IsDamagedAs, IsFull}
use Rattle.database_files.specs.declared.damage.Damage.{Damage}
use Rattle.database_files.specs.declared.damage.Damage.TheVariants as of

-- a file that nothing was done to since it was opened is as it was then
pub fresh_seen : (start : List ℕ) (events : List Event) (key : ℕ) → events ≡ settled key ∷ [] → (replay start events).seen ≡ start
fresh_seen start events key is = ap (λ e. (replay start e).seen) is

pub fresh_left : (mixes : Bool) (start : List ℕ) (events : List Event) (key : ℕ) → events ≡ settled key ∷ [] → (c : List ℕ)
    → MayLeave mixes (replay start events).seen (replay start events).synced (replay start events).steps c → c ≡ start
fresh_left mixes start events key is c may = elim (subst (λ e. MayLeave mixes (replay start e).seen (replay start e).synced (replay start e).steps c) is may) [ inl a ↦ a | inr b ↦ b ]

pub both : (a b : Image) → a.log ≡ b.log → a.db ≡ b.db → a ≡ b
both a b log db = ap₂ (λ x y. let i : Image = record { log = x; db = y } in i) log db

pub is_damaged : (log : List ℕ) (damage : Damage) → IsDamagedAs log damage → IsDamaged log
is_damaged log of.Header is = inl is
is_damaged log (of.Commit sound frames) is = inr (sound, is.0)

too_long : (image : Image) → IsFull image.log → IsTooLong image
too_long image full = (be32 image.log 8, (λ _. refl, λ ignored. absurd (elim ignored [ inl short ↦ omega (arith, short, full.0.0) | inr unsigned ↦ unsigned full.1 ])), inl full.2)

-- files whose log was only read
module _ {D : Type 0} {g : Ghosts D} (files : Files D) (log : D) (reads : OnlyReads g files.log log) where
  abbrev pub looked_at : Files D
  looked_at = record { log = log; db = files.db }

  same_image : image_of g looked_at ≡ image_of g files
  same_image = both _ _ reads.seen refl

  still_found : (image : Image) → AreAsFound g image files → AreAsFound g image looked_at
  still_found image found = record { seen = same_image ∙ found.seen; log = λ c may. found.log c (reads.crash c may); db = found.db }

  leaves : LeavesFiles {g = g} files (left.Files looked_at)
  leaves image out = (reads.crash image.log out.0, out.1)

  pub finds : {E : Type 0} (r : Result (Held (FileStore D g)) E) → IfOk r (λ conn. HasCleanDisk (file_state conn) → Finds looked_at conn)
      → IfOk r (λ conn. HasCleanDisk (file_state conn) → FindsIn (image_of g files) (file_state conn))
  finds (Ok conn) found = λ clean. let f = found clean in subst (λ i. FindsIn i (file_state conn)) same_image (record { holds = f.holds; reads = f.reads })
  finds (Err e) found = tt

  pub undamaged : {E : Type 0} (r : Result (Held (FileStore D g)) E) (told : Option Damage) → told ≡ None
      → (IsClean g log → MatchOption told (¬ IsDamaged (g.seen files.log)) (IsDamagedAs (g.seen files.log)))
      → IfOk r (λ conn. HasCleanDisk (file_state conn) → Finds looked_at conn)
      → IfOk r (λ conn. HasCleanDisk (file_state conn) → ¬ IsDamaged (image_of g files).log)
  undamaged (Ok conn) told none tells found =
      λ clean. subst (λ t. MatchOption t (¬ IsDamaged (g.seen files.log)) (IsDamagedAs (g.seen files.log))) none (tells (and_parts _ _ (found clean).honest).0)
  undamaged (Err e) told none tells found = tt

  pub unopened : {A : Type 0} (r : Result A (Error × Leftover D g)) → IfErr r (λ e. IsCleanLeft e.1 → FailsToOpenFiles looked_at e.1 e.0)
      → IfErr r (λ e. IsCleanLeft e.1 → LeavesFiles looked_at e.1) → IfErr r (λ e. (image : Image) → AreAsFound g image files → IsUnconnected image e.0 e.1)
  unopened (Ok a) cause unharmed = tt
  unopened (Err e) cause unharmed = λ image found. (looked_at, still_found image found, λ clean. (inl (cause clean), unharmed clean))

  pub damaged : (told : Option Damage) (damage : Damage) → told ≡ Some damage
      → (IsClean g log → MatchOption told (¬ IsDamaged (g.seen files.log)) (IsDamagedAs (g.seen files.log))) → (image : Image)
      → AreAsFound g image files → IsUnconnected {g = g} image (SqliteFailure DatabaseCorrupt) (left.Files looked_at)
  damaged told damage is tells image found = (
    files,
    found,
    λ clean. (
      inr (inl (is_damaged _ damage (subst (λ t. MatchOption t (¬ IsDamaged (g.seen files.log)) (IsDamagedAs (g.seen files.log))) is (tells (and_parts _ _ clean).0)), refl)),
      leaves,
    ),
  )

  unlooked_for : (e : LogError) → (IsClean g log → HasCause (g.faults files.log) (g.faults log) (OnlyIf wal.Full (IsFull (g.seen files.log))) e) → (image : Image)
      → AreAsFound g image files → IsUnconnected {g = g} image (look_error e) (left.Files looked_at)
  unlooked_for (wal.Io e) cause image found = (files, found, λ clean. let more : MoreFaults (g.faults files.log) (g.faults log) = cause (and_parts _ _ clean).0 in (inr (inr (omega (arith, more), refl)), leaves))
  unlooked_for wal.OutOfMemory cause image found = (files, found, λ clean. (inl (inl refl), leaves))
  unlooked_for wal.Full cause image found =
      (files, found, λ clean. (inl (inr (inr (inr (refl, subst IsTooLong (sym same_image) (too_long (image_of g files) (cause (and_parts _ _ clean).0).1))))), leaves))
  unlooked_for wal.Closed cause image found = (files, found, λ clean. absurd (let no = (cause (and_parts _ _ clean).0).0 in cc))
  unlooked_for wal.NoSuchPage cause image found = (files, found, λ clean. absurd (let no = (cause (and_parts _ _ clean).0).0 in cc))
  unlooked_for wal.Corrupt cause image found = (files, found, λ clean. absurd (let no = (cause (and_parts _ _ clean).0).0 in cc))
  unlooked_for wal.Exists cause image found = (files, found, λ clean. absurd (let no = (cause (and_parts _ _ clean).0).0 in cc))

  pub unlooked : (e : LogError) (told : Error) → told ≡ look_error e
      → (IsClean g log → HasCause (g.faults files.log) (g.faults log) (OnlyIf wal.Full (IsFull (g.seen files.log))) e)
      → (image : Image) → AreAsFound g image files → IsUnconnected {g = g} image told (left.Files looked_at)
  unlooked e told is cause image found = subst (λ t. IsUnconnected {g = g} image t (left.Files looked_at)) (sym is) (unlooked_for e cause image found)
