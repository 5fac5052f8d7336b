-- sixteen digits as one number in base 256
use Rattle.std.specs.Prelude.{ℕ, ◌+◌, ◌%◌, List, min, reverse}
use Rattle.std.specs.Simd.Lanes.{digits_l, number_l}

-- the number in base 256 with these digits, the highest first
abbrev pub word_of : List ℕ → ℕ
word_of digits = number_l 256 (reverse digits)

-- the sixteen digits of a number in base 256, the highest first
abbrev pub bytes_of : ℕ → List ℕ
bytes_of word = reverse (digits_l 256 16 word)

-- the decimal digit of a place at which digits were subtracted in base 256: where the place borrowed
-- from the one above it, its byte is 246 more than the digit
abbrev pub digit_of_byte : ℕ → ℕ
digit_of_byte byte = min byte ((byte + 10) % 256)
