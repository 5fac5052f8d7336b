-- how the bytes that were read of a head are judged
use Rattle.std.specs.Prelude.{ℕ, ◌≡◌, ◌<◌, List, length, Option, Some, None, ⊤}
use Rattle.httparse.specs.Grammar.{HasNoRequest, MayBecomeRequest, NeverHasRequest}
use Rattle.httparse.specs.Spans.{IsRequestOf, IsRequestWithin, RequestExceeds}
use Rattle.httparse.specs.declared.spans.HeaderSpan.{HeaderSpan}
use Rattle.httparse.specs.declared.spans.RequestSpans.{RequestSpans}
use Rattle.http_messages.specs.declared.reading.Outcome.{Outcome}
use Rattle.http_messages.specs.declared.reading.Outcome.TheVariants as outcome

-- the outcome of reading a head of at most `room` bytes: it is whole, or why it is none
abbrev pub ComesTo : List ℕ → List HeaderSpan → ℕ → Type 0 → Outcome → Type 0
ComesTo bytes fields room at_end (outcome.Whole spans) =
    IsRequestOf bytes fields spans × IsRequestWithin bytes fields spans
ComesTo bytes fields room at_end outcome.NoHead = NeverHasRequest bytes
ComesTo bytes fields room at_end outcome.TooManyFields = RequestExceeds 64 bytes
ComesTo bytes fields room at_end outcome.TooLong =
    HasNoRequest bytes × MayBecomeRequest bytes × (length bytes ≡ room)
ComesTo bytes fields room at_end outcome.Ended = HasNoRequest bytes × (length bytes < room) × at_end
ComesTo bytes fields room at_end outcome.Failed = ⊤

-- the outcome of reading these bytes, whatever follows them, or none if no head ends in them and one
-- may end after them, or the target is still being read
abbrev pub IsSoFar : List ℕ → List HeaderSpan → Option Outcome → Type 0
IsSoFar bytes fields (Some (outcome.Whole spans)) =
    IsRequestOf bytes fields spans × IsRequestWithin bytes fields spans
IsSoFar bytes fields (Some outcome.NoHead) = NeverHasRequest bytes
IsSoFar bytes fields (Some outcome.TooManyFields) = RequestExceeds 64 bytes
IsSoFar bytes fields (Some other) = ⊥
IsSoFar bytes fields None = HasNoRequest bytes × MayBecomeRequest bytes

-- if a whole head was read, its spans are within these bytes
abbrev pub SpansFit : List ℕ → List HeaderSpan → Outcome → Type 0
SpansFit bytes fields read =
    (spans : RequestSpans) → read ≡ outcome.Whole spans → IsRequestWithin bytes fields spans
