-- the names of files that are not whole yet
use Rattle.std.specs.Prelude.{ℕ, List, ◌++◌, codes, decimal}

-- the name of a file that is not whole yet, beside a path
unfoldable pub part_name : List ℕ → ℕ → List ℕ
part_name path number = path ++ codes "." ++ decimal number ++ codes ".part"
