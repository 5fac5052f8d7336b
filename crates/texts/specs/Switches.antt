-- the text of the sense switches: the letters of those that are on, or a hyphen
use Rattle.std.specs.Prelude.{ℕ, ◌≡◌, ◌+◌, ◌==◌, nat_le, List, [], ◌∷◌, ◌++◌, Option, Some, None, codes, if◌then◌else◌}
use Rattle.std.specs.Option.{option_and_then}
use Rattle.std.specs.Int.RustNames.{bit_and}
use Rattle.bcd.specs.Table.{byte}
use Rattle.units.specs.Switches.{AreSeven}
use Rattle.units.specs.declared.Switches.{Switches}

-- the letter of the switch with this bit, if the bit is set
abbrev pub letter_of : ℕ → ℕ → ℕ → List ℕ
letter_of bits bit letter = if bit_and bits bit == bit then letter ∷ [] else []

-- the letters, A to G, of the switches whose bits are set
unfoldable pub letters_of : ℕ → List ℕ
letters_of bits =
    letter_of bits 1 (byte (codes "A")) ++ letter_of bits 2 (byte (codes "B"))
    ++ letter_of bits 4 (byte (codes "C")) ++ letter_of bits 8 (byte (codes "D"))
    ++ letter_of bits 16 (byte (codes "E")) ++ letter_of bits 32 (byte (codes "F"))
    ++ letter_of bits 64 (byte (codes "G"))

-- the letters of the switches whose bits are set, or a hyphen if none is
abbrev pub text_of_bits : ℕ → List ℕ
text_of_bits bits = if bits == 0 then codes "-" else letters_of bits

-- the text of these switches: the letters of those that are on, or a hyphen if none is
abbrev pub text_of : Switches → List ℕ
text_of switches = text_of_bits switches.0

-- the switches that a text sets on, by their letters, or a hyphen for none
abbrev pub AreSwitchesOf : List ℕ → Switches → Type 0
AreSwitchesOf text switches = AreSeven switches × (text ≡ text_of switches)

-- the bit of a switch's letter, A to G
abbrev pub letter_bit : ℕ → Option ℕ
letter_bit letter = if letter == byte (codes "A") then Some 1
    else (if letter == byte (codes "B") then Some 2
    else (if letter == byte (codes "C") then Some 4
    else (if letter == byte (codes "D") then Some 8
    else (if letter == byte (codes "E") then Some 16
    else (if letter == byte (codes "F") then Some 32
    else (if letter == byte (codes "G") then Some 64 else None))))))

-- the bits and those of the letters together, or none unless each letter comes after all before it
unfoldable pub risen : ℕ → List ℕ → Option ℕ
risen bits [] = Some bits
risen bits (letter ∷ letters) =
    option_and_then (λ bit. if nat_le bit bits then None else risen (bits + bit) letters)
    (letter_bit letter)
