-- arguments that are no options
use Rattle.std.specs.Prelude.{◌==◌, not, ℕ, List, [], ◌∷◌, Bool, String, map, string_bytes, true, codes, slice_index_or}
use Rattle.std.specs.List.{AllPass}
use Rattle.std.specs.declared.alloc.Global.{Global}

-- the bytes of each argument
abbrev pub texts : List (String Global) → List (List ℕ)
texts arguments = map string_bytes arguments

-- the byte of a hyphen
abbrev pub hyphen : ℕ
hyphen = slice_index_or (codes "-") 0 0

-- whether an argument is no option: it does not begin with a hyphen, or is one byte long
abbrev pub is_plain : List ℕ → Bool
is_plain [] = true
is_plain (x ∷ []) = true
is_plain (x ∷ y ∷ ys) = not (x == hyphen)

-- none of the arguments is an option
abbrev pub ArePlain : List (List ℕ) → Type 0
ArePlain arguments = AllPass is_plain arguments

-- whether an argument begins with a hyphen and is longer than that
abbrev pub is_odd : List ℕ → Bool
is_odd argument = not (is_plain argument)
