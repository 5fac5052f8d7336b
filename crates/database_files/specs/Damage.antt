-- a log that was damaged after it was written
use Rattle.std.specs.Prelude.{◌≡◌, ◌≢◌, ◌⊎◌, ◌+◌, ◌-◌, ◌/◌, ◌<◌, ◌≤◌, ℕ, List, Option, Some, None, length, slice_index}
use Rattle.sqlite_wal.specs.Format.{IsSigned, be32}
use Rattle.sqlite_wal.specs.PageSize.{IsPageSize}
use Rattle.sqlite_wal.specs.Recovery.{Replays, frame_at, header}
use Rattle.database_files.specs.declared.damage.Damage.{Damage}
use Rattle.database_files.specs.declared.damage.Damage.TheVariants as of

-- the log is long enough for a frame, and the first byte of a header is there, which is written
-- once the disk keeps the others
abbrev pub HasHeaderBegun : List ℕ → Type 0
HasHeaderBegun log = (32 + 24 ≤ length log) × (slice_index log 0 ≡ 0x37)

-- .. and these are no header
abbrev pub HasDamagedHeader : List ℕ → Type 0
HasDamagedHeader log = HasHeaderBegun log × (¬ IsSigned (header log))

-- the gate of the frame behind so many others is open: its byte 8 is the first of the header's salt
abbrev pub HasGateOpen : List ℕ → ℕ → Type 0
HasGateOpen log frames =
    (frame_at (be32 log 8) frames + 8 < length log)
    × (slice_index log (frame_at (be32 log 8) frames + 8) ≡ slice_index log 16)

-- how many whole frames the log is long enough for
abbrev pub frames_in : List ℕ → ℕ
frames_in log = (length log - 32) / (24 + be32 log 8)

-- the frame behind so many others has the header's salt
abbrev pub HasSalt : List ℕ → ℕ → Type 0
HasSalt log frames =
    (be32 log (frame_at (be32 log 8) frames + 8) ≡ be32 log 16)
    × (be32 log (frame_at (be32 log 8) frames + 12) ≡ be32 log 20)

-- a commit ends with the frame behind so many others, which tells how many pages there are then
abbrev pub EndsCommit : List ℕ → ℕ → Type 0
EndsCommit log frames =
    HasSalt log frames × (be32 log (frame_at (be32 log 8) frames + 4) ≢ 0)

-- no commit ends with a frame from this one up to that one
abbrev pub EndsNone : List ℕ → ℕ → ℕ → Type 0
EndsNone log frames bound =
    (other : ℕ) → frames ≤ other → other < bound → ¬ EndsCommit log other

-- the first commit that ends behind so many frames is followed by a frame: a commit is begun once
-- the disk keeps the one before it
pub record IsFollowed (log : List ℕ) (frames : ℕ) : Type 0 where
  pub last : ℕ
  pub behind : frames ≤ last
  pub within : last + 1 < frames_in log
  pub first : EndsNone log frames last
  pub ends : EndsCommit log last
  pub follows : HasSalt log (last + 1)

-- the first of these frames, from this one up to that one, with which a commit ends, if there is one
abbrev pub IsFirstEnd : List ℕ → ℕ → ℕ → Option ℕ → Type 0
IsFirstEnd log frames bound None = EndsNone log frames bound
IsFirstEnd log frames bound (Some last) =
    (frames ≤ last) × (last < bound) × EndsNone log frames last × EndsCommit log last

-- the commit behind so many frames was written to its end, and the disk kept it
abbrev pub WasKept : List ℕ → ℕ → Type 0
WasKept log frames = HasGateOpen log frames × IsFollowed log frames

-- the log ends in an open gate: that of the frame behind those that recovery takes
pub record IsTorn (log : List ℕ) : Type 0 where
  pub begun : HasHeaderBegun log
  pub size : IsPageSize (be32 log 8)
  pub frames : ℕ
  pub taken : Replays (be32 log 8) log frames
  pub gate : HasGateOpen log frames

-- the header is sound, recovery takes so many frames, and the commit behind them was whole once
abbrev pub HasDamagedCommit : List ℕ → ℕ → Type 0
HasDamagedCommit log frames =
    HasHeaderBegun log × IsSigned (header log) × IsPageSize (be32 log 8)
    × Replays (be32 log 8) log frames × WasKept log frames

-- the log has lost bytes that the disk had kept
abbrev pub IsDamaged : List ℕ → Type 0
IsDamaged log = HasDamagedHeader log ⊎ ((frames : ℕ) × HasDamagedCommit log frames)

-- the commit behind so many of the log's frames is told as damaged
abbrev pub IsKeptAs : List ℕ → ℕ → Damage → Type 0
IsKeptAs log sound of.Header = ⊥
IsKeptAs log sound (of.Commit told frames) =
    WasKept log sound × (told ≡ sound) × (frames ≡ frames_in log)

-- the log has more frames than 32 bits number
abbrev pub IsFull : List ℕ → Type 0
IsFull log = HasHeaderBegun log × IsSigned (header log)
    × (frame_at (be32 log 8) 0xffff_fffe ≤ length log)

-- this of the log is damaged: its header, or the commit behind so many of so many frames
abbrev pub IsDamagedAs : List ℕ → Damage → Type 0
IsDamagedAs log of.Header = HasDamagedHeader log
IsDamagedAs log (of.Commit sound frames) = HasDamagedCommit log sound
    × (frames ≡ frames_in log)
