-- the values of the subcommands' arguments, as texts
use Rattle.std.specs.Prelude.{ℕ, ◌≡◌, ◌<◌, ◌≤◌, List, decimal}

-- the text is that of a number from 1 up to this one
abbrev pub IsUpTo : ℕ → List ℕ → ℕ → Type 0
IsUpTo most text number = (0 < number) × (number ≤ most) × (text ≡ decimal number)
