-- what an open does to a log, and what undoes it
use Rattle.std.specs.Prelude.{◌≡◌, ◌≢◌, ◌⊎◌, ◌<◌, ◌≤◌, ◌+◌, ℕ, Option, Some, None}
use Rattle.database_files.specs.declared.undoing.Undoing.{Undoing}
use Rattle.database_files.specs.declared.undoing.Undoing.TheVariants as undoing

-- a log of this length and with this first byte is longer than an empty one, and has no header behind
-- which recovery looks for frames: an open would empty it
abbrev pub IsHeadless : ℕ → Option ℕ → Type 0
IsHeadless length first = (41 < length) × ((length < 56) ⊎ (first ≢ Some 0x37))

-- so is undone what an open that failed did to a log that had this length before, if there was one,
-- and has this length now: one that was not there goes, if it is too short for a transaction; nine
-- bytes that were added to one are cut off, and so is the beginning of one that had no byte;
-- anything else stays
abbrev pub Undoes : Option ℕ → ℕ → Undoing → Type 0
Undoes before now undoing.Remove = (before ≡ None) × (now ≤ 41)
Undoes before now (undoing.Cut length) = (before ≡ Some length)
    × ((now ≡ length + 9) ⊎ ((length ≡ 0) × (0 < now) × (now ≤ 41)))
Undoes before now undoing.Keep = (before ≡ None → 41 < now)
    × ((length : ℕ) → before ≡ Some length →
    (now ≢ length + 9) × (length ≡ 0 → 0 < now → 41 < now))
