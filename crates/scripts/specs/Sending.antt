-- bytes that were written, and the count of the bytes that were written
use Rattle.std.specs.Prelude.{ℕ, ◌≡◌, ◌+◌, ◌-◌, ◌<◌, ◌^◌, List, Option, Result, Ok, Err, length, min, take}
use Rattle.std.specs.Io.KnownBytes.{Appends}
use Rattle.scripts.specs.declared.write_failed.WriteFailed.{WriteFailed}

-- a count of bytes, at most 2^64 - 1
abbrev pub counted : ℕ → ℕ
counted count = min count (2 ^ 64 - 1)

-- a part of the bytes was written, and counted
abbrev pub WritesPart : List ℕ → Option (List ℕ) → Option (List ℕ) → ℕ → ℕ → Type 0
WritesPart bytes old new before after =
    (count : ℕ) × (count < length bytes) × Appends old new (take count bytes)
    × (after ≡ counted (before + count))

-- all of the bytes were written and counted; or a part of them, if the writer failed
abbrev pub Writes : {T : Type 0} → List ℕ → Option (List ℕ) → Option (List ℕ) → ℕ → ℕ
    → Result T WriteFailed → Type 0
Writes bytes old new before after (Ok done) =
    Appends old new bytes × (after ≡ counted (before + length bytes))
Writes bytes old new before after (Err failed) = WritesPart bytes old new before after
