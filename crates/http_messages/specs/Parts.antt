-- the parts of a text between its slashes
use Rattle.std.specs.Prelude.{ℕ, zero, suc, ◌==◌, Bool, List, codes}
use Rattle.bcd.specs.Table.{byte}
use Rattle.std.specs.List.{before_first, after_first}

-- whether a byte is a slash
abbrev pub is_slash : ℕ → Bool
is_slash b = b == byte (codes "/")

-- the part of a text between slashes with this number, from 0 on; after the last part all are empty
unfoldable pub part : ℕ → List ℕ → List ℕ
part zero text = before_first is_slash text
part (suc place) text = part place (after_first is_slash text)
