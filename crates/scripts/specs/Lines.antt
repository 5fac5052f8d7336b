-- the lines of a script
use Rattle.std.specs.Prelude.{ℕ, ◌≡◌, ◌≢◌, List, ◌∷◌, ◌++◌, All}
use Rattle.cards.specs.Files.{line_feed}

-- the byte is not among these bytes
abbrev pub IsWithout : ℕ → List ℕ → Type 0
IsWithout byte = All (λ other. other ≢ byte)

-- the bytes begin with a line and its line feed, and the rest follows
abbrev pub BeginsWithLine : List ℕ → List ℕ → List ℕ → Type 0
BeginsWithLine bytes line rest = IsWithout line_feed line × (bytes ≡ line ++ line_feed ∷ rest)
