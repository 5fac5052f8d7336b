-- decks as column binary: two bytes a column, as the IBM 1401 divides it
use Rattle.std.specs.Prelude.{ℕ, ◌+◌, ◌*◌, ◌/◌, ◌%◌, ◌==◌, nat_lt, ◌&&◌, if◌then◌else◌, List, [], ◌∷◌, ◌++◌, codes}
use Rattle.std.specs.List.{flat_map}
use Rattle.bcd.specs.Table.{punches_of}
use Rattle.cards.specs.declared.Card.{Card}
use Rattle.cards.specs.Files.{digits_of}

-- the two bytes of a character's column: the rows 12, 11, 0, 1, 2 and 3 as the bits 32 to 1, and so
-- the rows 4 to 9
unfoldable pub column_bytes : ℕ → List ℕ
column_bytes code = (punches_of code / 64 % 64) ∷ (punches_of code % 64) ∷ []

-- the file of a deck: the bytes of its columns, 160 for each card
abbrev pub binary_of : List Card → List ℕ
binary_of deck = flat_map (λ card. flat_map column_bytes card.0) deck

-- what stands in a punch file for the column of two bytes: the three digits of its punches, or
-- three question marks if one of the two high bits of a byte is set
unfoldable pub column_digits : ℕ → ℕ → List ℕ
column_digits upper lower = if nat_lt upper 64 && nat_lt lower 64
    then digits_of (64 * upper + lower) else codes "???"

-- what stands in a punch file for the bytes behind so many columns of a card: behind column 80 its
-- line ends, and for half a column, with which the bytes may end, the line ends early
unfoldable pub digits_behind : ℕ → List ℕ → List ℕ
digits_behind columns [] = []
digits_behind columns (half ∷ []) = 10 ∷ []
digits_behind columns (upper ∷ lower ∷ rest) = column_digits upper lower
    ++ (if columns == 79 then 10 ∷ digits_behind 0 rest else digits_behind (columns + 1) rest)

-- the punch file for which the bytes stand
abbrev pub punch_file_for : List ℕ → List ℕ
punch_file_for bytes = digits_behind 0 bytes
