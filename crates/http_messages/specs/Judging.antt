-- how the first bytes of a request are judged
use Rattle.std.specs.Prelude.{ℕ, ◌≡◌, ◌<◌, ◌≤◌, ◌⊎◌, List, ◌++◌, length, take, Option, Some, None, [], ⊤}
use Rattle.httparse.specs.Grammar.{HasNoRequest, MayBecomeRequest, NeverHasRequest, ReadsRequest, RequestHead, print_request}
use Rattle.httparse.specs.Spans.{RequestExceeds}
use Rattle.http_messages.specs.Targets.{Asks}
use Rattle.http_messages.specs.Fields.{body_length}
use Rattle.http_messages.specs.HeadTests.{count_of, fields_of, status_of}
use Rattle.http_messages.specs.Reading.{ComesTo}
use Rattle.http_messages.specs.declared.targets.Target.{Target}
use Rattle.http_messages.specs.declared.head.Head.{Head}
use Rattle.http_messages.specs.declared.verdicts.Verdict.{Verdict}
use Rattle.http_messages.specs.declared.verdicts.Verdict.TheVariants as verdict

-- the most bytes of a head
abbrev pub most_bytes : ℕ
most_bytes = 8192

-- the most header fields of a head
abbrev pub most_fields : ℕ
most_fields = 64

-- the bytes begin with this head, which has no more bytes and header fields than a head may have
pub record BeginsWith (input : List ℕ) (h : RequestHead) : Type 0 where
  pub rest : List ℕ
  pub reads : ReadsRequest input h rest
  pub short : length (print_request h) ≤ most_bytes
  pub few : length h.fields ≤ most_fields

-- the bytes begin as no head does, within as many bytes as a head may have
abbrev pub IsNoHead : List ℕ → Type 0
IsNoHead input = (front : List ℕ) × (rest : List ℕ) × (input ≡ front ++ rest)
    × (length front ≤ most_bytes) × NeverHasRequest front

-- the bytes end before a head does
abbrev pub EndsEarly : List ℕ → Type 0
EndsEarly input = HasNoRequest input × (length input < most_bytes)

-- the bytes begin with a start line and more header fields than a head may have
abbrev pub HasManyFields : List ℕ → Type 0
HasManyFields input = (front : List ℕ) × (rest : List ℕ) × (input ≡ front ++ rest)
    × RequestExceeds most_fields front

-- no head ends within the most bytes of a head, and one may end after them, or they end in its target
abbrev pub IsTooLong : List ℕ → Type 0
IsTooLong input = (most_bytes ≤ length input) × HasNoRequest (take most_bytes input)
    × MayBecomeRequest (take most_bytes input)

-- the bytes begin with no head, and are refused with this status
abbrev pub IsUnread : List ℕ → ℕ → Type 0
IsUnread input status =
    ((IsNoHead input ⊎ EndsEarly input) × (status ≡ 400))
    ⊎ ((HasManyFields input ⊎ IsTooLong input) × (status ≡ 431))

-- a head is refused with this status: by one of the tests, or with 400 if its switches cannot be
-- read
abbrev pub IsRefused : RequestHead → ℕ → Type 0
IsRefused h status =
    (status_of h ≡ Some status)
    ⊎ ((status_of h ≡ None) × (status ≡ 400) × ((asked : Target) → ¬ Asks h.target asked))

-- the bytes are refused with this status, since they begin with no head or their head is refused
abbrev pub Refuses : List ℕ → ℕ → Type 0
Refuses input status = IsUnread input status
    ⊎ ((h : RequestHead) × BeginsWith input h × IsRefused h status)

-- the bytes begin with a head that passes all tests and asks for this, its body has so many bytes,
-- and these bytes follow the head
abbrev pub AsksFor : List ℕ → Target → ℕ → List ℕ → Type 0
AsksFor input asked count body =
    (h : RequestHead) × (begins : BeginsWith input h) × (status_of h ≡ None) × Asks h.target asked
    × (count ≡ count_of (body_length (fields_of h))) × (body ≡ begins.rest)

-- the verdict on a head: refused with a status, or what it asks for with its body's length and the
-- bytes after the head
abbrev pub IsVerdictOn : RequestHead → List ℕ → Verdict → Type 0
IsVerdictOn h after (verdict.Refused status) = IsRefused h status
IsVerdictOn h after (verdict.Asks asked count begun) =
    (status_of h ≡ None) × Asks h.target asked × (count ≡ count_of (body_length (fields_of h)))
    × (begun.now ≡ after)

-- the verdict on a reader's bytes, of which the rest was not read
abbrev pub Judges : List ℕ → List ℕ → Verdict → Type 0
Judges input rest (verdict.Refused status) = Refuses input status
Judges input rest (verdict.Asks asked count begun) = AsksFor input asked count (begun.now ++ rest)

-- the bytes of the reader are those read for this head and then the rest, and the head's outcome is
-- right
abbrev pub IsReadOf : Head → List ℕ → List ℕ → Type 0
IsReadOf head input rest =
    (input ≡ take head.filled head.bytes ++ rest)
    × ComesTo (take head.filled head.bytes) head.fields most_bytes (rest ≡ []) head.outcome

-- this head was read from the reader, if its bytes are known
abbrev pub ReadsHead : Option (List ℕ) → Option (List ℕ) → Head → Type 0
ReadsHead None new head = ⊤
ReadsHead (Some input) None head = ⊥
ReadsHead (Some input) (Some rest) head = IsReadOf head input rest
