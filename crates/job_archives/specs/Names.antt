-- the names of jobs, as they are read
use Rattle.std.specs.Prelude.{◌≡◌, ℕ, pos, List, [], ◌∷◌}
use Rattle.sqlite.specs.Order.{Row}
use Rattle.sqlite.specs.declared.types.Value.TheVariants.{Int, Text}
use Rattle.office.specs.Office.{Entry}

-- the name of an entry's job: its customer and its number
abbrev pub name_row : Entry → Row
name_row e = Text e.customer ∷ Int (pos e.number) ∷ []

-- the entry's job has this name
abbrev pub HasName : List ℕ → ℕ → Entry → Type 0
HasName customer number e = (customer ≡ e.customer) × (number ≡ e.number)
