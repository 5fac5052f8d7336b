-- punch files whose digits may be small letters
use Rattle.std.specs.Prelude.{ℕ, ◌-◌, ◌==◌, nat_le, Bool, ◌&&◌, if◌then◌else◌, List, length, map}
use Rattle.std.specs.List.{list_all}
use Rattle.cards.specs.Faults.{is_digit}

-- the capital of a small hexadecimal digit; every other byte itself
abbrev pub capital_digit : ℕ → ℕ
capital_digit byte = if nat_le 97 byte && nat_le byte 102 then byte - 32 else byte

-- a punch file with capitals in place of its small digits
unfoldable pub in_capitals : List ℕ → List ℕ
in_capitals file = map capital_digit file

-- whether a byte is a hexadecimal digit, a capital or a small one
abbrev pub is_any_digit : ℕ → Bool
is_any_digit byte = is_digit (capital_digit byte)

-- whether a line is that of a card in a punch file: 240 hexadecimal digits
abbrev pub is_punch_line : List ℕ → Bool
is_punch_line line = length line == 240 && list_all (λ byte. is_any_digit byte) line
