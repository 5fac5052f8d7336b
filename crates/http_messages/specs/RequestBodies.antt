-- how the body of a request is read
use Rattle.std.specs.Prelude.{ℕ, ◌≡◌, ◌+◌, ◌-◌, ◌<◌, ◌≤◌, ◌++◌, List, Option, length, take, ⊤}
use Rattle.std.specs.Io.KnownBytes.{Consumes, IsAtEnd}
use Rattle.http_messages.specs.declared.request_bodies.Body.{Body}
use Rattle.http_messages.specs.declared.request_bodies.Body.TheVariants as body
use Rattle.http_messages.specs.declared.request_bodies.Filled.{Filled}
use Rattle.http_messages.specs.declared.request_bodies.Filled.TheVariants as filled

-- a buffer was filled with the first bytes of a reader, or the reader ended before it was full
abbrev pub IsFilled : Option (List ℕ) → Option (List ℕ) → List ℕ → Filled → Type 0
IsFilled old new buffer filled.Whole = Consumes old new buffer
IsFilled old new buffer filled.Ended =
    (front : List ℕ) × (length front < length buffer) × Consumes old new front × IsAtEnd new
IsFilled old new buffer filled.Failed = ⊤

-- a buffer that began with these bytes was filled from a reader, or the reader ended before
abbrev pub IsFilledAfter : List ℕ → Option (List ℕ) → Option (List ℕ) → List ℕ → Filled → Type 0
IsFilledAfter begun old new buffer filled.Whole =
    (rest : List ℕ) × (buffer ≡ begun ++ rest) × Consumes old new rest
IsFilledAfter begun old new buffer filled.Ended =
    (front : List ℕ) × (length begun + length front < length buffer) × Consumes old new front
    × IsAtEnd new
IsFilledAfter begun old new buffer filled.Failed = ⊤

-- the body is the first so many bytes after the head, or is too short if there are fewer
abbrev pub IsBodyOf : List ℕ → ℕ → Body → Type 0
IsBodyOf after count (body.Whole bytes) = (count ≤ length after) × (bytes.items ≡ take count after)
IsBodyOf after count body.Short = length after < count

-- the reader lost exactly the bytes that the body lacked after those that were begun, and none that
-- follow it; or it ended before
abbrev pub LosesMissing : List ℕ → ℕ → Option (List ℕ) → Option (List ℕ) → Body → Type 0
LosesMissing begun count old new (body.Whole bytes) =
    (missing : List ℕ) × (length missing ≡ count - length begun) × Consumes old new missing
LosesMissing begun count old new body.Short =
    (missing : List ℕ) × (length begun + length missing < count) × Consumes old new missing
    × IsAtEnd new
