-- bytes that may be refused with either of two statuses
use Rattle.std.specs.Prelude.{ℕ, ◌≤◌, ◌⊎◌, List, length, take}
use Rattle.httparse.specs.Grammar.{EndsInTarget}
use Rattle.http_messages.specs.Judging.{EndsEarly, HasManyFields, IsNoHead, most_bytes}

-- the bytes begin with more header fields than a head may have, and have a further fault: they
-- begin as no head does, or they end before a head does
abbrev pub HasFurtherFault : List ℕ → Type 0
HasFurtherFault input = HasManyFields input × (IsNoHead input ⊎ EndsEarly input)

-- as many bytes as a head may have end in a target, and no head begins as they do
abbrev pub EndsInBadTarget : List ℕ → Type 0
EndsInBadTarget input =
    (most_bytes ≤ length input) × EndsInTarget (take most_bytes input) × IsNoHead input
