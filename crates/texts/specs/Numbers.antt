-- numbers as texts
use Rattle.std.specs.Prelude.{ℕ, ◌≡◌, ◌≢◌, ◌<◌, ◌^◌, ◌⊎◌, List, decimal}

-- the number of a text: its value if it has 1 to 9 digits with no zero in front, else 0
abbrev pub IsNumberOf : List ℕ → ℕ → Type 0
IsNumberOf text number =
    ((0 < number) × (number < 10 ^ 9) × (text ≡ decimal number))
    ⊎ ((number ≡ 0) × ((other : ℕ) → 0 < other → other < 10 ^ 9 → text ≢ decimal other))
