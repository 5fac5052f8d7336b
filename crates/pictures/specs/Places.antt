-- where the columns and the rows of a card are, in thousandths of an inch from its upper left
-- corner
use Rattle.std.specs.Prelude.{ℕ, ◌+◌, ◌-◌, ◌*◌, ◌==◌, if◌then◌else◌, List, [], ◌∷◌}

-- the middle of a column
abbrev pub column_middle : ℕ → ℕ
column_middle column = 251 + 87 * (column - 1)

-- the rows of a card from the top down
abbrev pub rows : List ℕ
rows = 12 ∷ 11 ∷ 0 ∷ 1 ∷ 2 ∷ 3 ∷ 4 ∷ 5 ∷ 6 ∷ 7 ∷ 8 ∷ 9 ∷ []

-- the middle of a row
abbrev pub row_middle : ℕ → ℕ
row_middle row = if row == 12 then 250 else (if row == 11 then 500 else 750 + 250 * row)

-- the upper left corner of the hole in a column and a row: a hole is 55 wide and 125 high
abbrev pub corner : ℕ × ℕ → ℕ × ℕ
corner hole = (column_middle hole.0 - 27, row_middle hole.1 - 62)
