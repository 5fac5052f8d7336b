-- what is read of a reader up to a limit
use Rattle.std.specs.Prelude.{ℕ, ◌≡◌, List, Option, IfSome, take}

-- these are the bytes that a reader has left, or so many of them from the front, if they are known
abbrev pub IsReadUpTo : ℕ → Option (List ℕ) → List ℕ → Type 0
IsReadUpTo most remaining bytes = IfSome remaining (λ input. bytes ≡ take most input)
