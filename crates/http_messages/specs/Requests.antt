-- the request that given bytes are
use Rattle.std.specs.Prelude.{ℕ, ◌≡◌, ◌<◌, ◌≤◌, ◌⊎◌, List, length, take, ⊤}
use Rattle.http_messages.specs.Judging.{AsksFor, Refuses}
use Rattle.http_messages.specs.declared.targets.Target.{Target}
use Rattle.http_messages.specs.Asking.{IsAskedBy}
use Rattle.http_messages.specs.declared.request.Request.{Request}
use Rattle.http_messages.specs.declared.request.Request.TheVariants as request

-- a status with which a request may be refused
abbrev pub IsRefusingStatus : ℕ → Type 0
IsRefusingStatus status =
    (status ≡ 400) ⊎ ((status ≡ 404) ⊎ ((status ≡ 405)
    ⊎ ((status ≡ 411) ⊎ ((status ≡ 413) ⊎ (status ≡ 431)))))

-- if the request is refused, its status is one with which a request may be refused
abbrev pub HasRefusingStatus : Request → Type 0
HasRefusingStatus (request.Refused status) = IsRefusingStatus status
HasRefusingStatus other = ⊤

-- the request is refused, for the head of these bytes
abbrev pub IsRefusedFor : List ℕ → Request → Type 0
IsRefusedFor input (request.Refused status) = Refuses input status
IsRefusedFor input other = ⊥

-- the request is what the target asks for, with the first so many of these bytes as its body; if
-- there are fewer, it is refused
abbrev pub IsAskedWith : Target → ℕ → List ℕ → Request → Type 0
IsAskedWith asked count after r =
    ((count ≤ length after) × IsAskedBy asked (take count after) r)
    ⊎ ((length after < count) × (r ≡ request.Refused 400))

-- the bytes are this request: it is refused for their head, or their head and body ask for it
abbrev pub IsRequestOf : List ℕ → Request → Type 0
IsRequestOf input r = IsRefusedFor input r
    ⊎ ((asked : Target) × (count : ℕ) × (after : List ℕ) × AsksFor input asked count after
    × IsAskedWith asked count after r)
