-- where a request ends, and heads that are too large
use Rattle.std.specs.Prelude.{ℕ, ◌<◌, ◌≤◌, ◌⊎◌, List, length}
use Rattle.httparse.specs.Grammar.{RequestHead, print_request}
use Rattle.http_messages.specs.Judging.{AsksFor, most_bytes, most_fields}
use Rattle.http_messages.specs.declared.targets.Target.{Target}

-- the bytes begin with a head that asks for something, and at least as many bytes follow as its
-- Content-Length says, which are its body; 0 if it has none
abbrev pub HasWholeBody : List ℕ → Type 0
HasWholeBody input = (asked : Target) × (count : ℕ) × (after : List ℕ)
    × AsksFor input asked count after × (count ≤ length after)

-- the bytes are a head that asks for something, and its body, as long as its Content-Length says
abbrev pub EndsWithBody : List ℕ → Type 0
EndsWithBody input = (asked : Target) × (body : List ℕ) × AsksFor input asked (length body) body

-- the head has more bytes or more header fields than a head may have
abbrev pub IsTooLarge : RequestHead → Type 0
IsTooLarge h = (most_bytes < length (print_request h)) ⊎ (most_fields < length h.fields)
