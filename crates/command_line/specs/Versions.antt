-- the version of the programs
use Rattle.std.specs.Prelude.{ℕ, List, ◌++◌, codes}

-- what `--version` prints of the program of this name: the version, that of a bureau's file, and
-- the logic that the program is proved in
abbrev pub version_of : List ℕ → List ℕ
version_of name = name ++ codes " 1.0.0 (files of version 4)\nRattle logic dac8208d650f15bf\n"
