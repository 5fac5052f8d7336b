-- what a writer took of some bytes
use Rattle.std.specs.Prelude.{ℕ, ◌<◌, List, Option, length, take}
use Rattle.std.specs.Io.KnownBytes.{Appends}
use Rattle.texts.specs.declared.sending.Sent.{Sent}
use Rattle.texts.specs.declared.sending.Sent.TheVariants as sent

-- the writer took all of the bytes, or so many of them and not all
abbrev pub SentIs : List ℕ → Option (List ℕ) → Option (List ℕ) → Sent → Type 0
SentIs bytes old new sent.Whole = Appends old new bytes
SentIs bytes old new (sent.Failed count) =
    (count < length bytes) × Appends old new (take count bytes)
