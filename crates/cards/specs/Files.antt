-- the two forms of a deck's file
use Rattle.std.specs.Prelude.{ℕ, ◌≡◌, ◌<◌, ◌*◌, ◌/◌, ◌%◌, List, [], ◌∷◌, ◌++◌, slice_index, take, drop, codes}
use Rattle.std.specs.List.{flat_map}
use Rattle.bcd.specs.Table.{glyph_of, punches_of}
use Rattle.cards.specs.declared.decks.Card.{Card}
use Rattle.cards.specs.declared.forms.Form.{Form}
use Rattle.cards.specs.declared.forms.Form.TheVariants.{Text, Punched}

-- the byte that ends a line
abbrev pub line_feed : ℕ
line_feed = 10

-- the hexadecimal digits
abbrev pub digits : List ℕ
digits = codes "0123456789ABCDEF"

-- the byte of a hexadecimal digit by its value, 0 to 15
abbrev pub hexadecimal : ℕ → ℕ
hexadecimal number = slice_index digits number

-- the punches of a column, twelve bits, as three hexadecimal digits
abbrev pub digits_of : ℕ → List ℕ
digits_of rows =
    hexadecimal (rows / 256 % 16) ∷ hexadecimal (rows / 16 % 16) ∷ hexadecimal (rows % 16) ∷ []

-- the bytes of a column: in a text the character's glyph, in a punch file the digits of its punches
unfoldable pub column_of : Form → ℕ → List ℕ
column_of Text code = glyph_of code ∷ []
column_of Punched code = digits_of (punches_of code)

-- the bytes begin with the hexadecimal digit of this value, and the rest follows
abbrev pub BeginsWithDigit : List ℕ → ℕ → List ℕ → Type 0
BeginsWithDigit bytes number rest = (number < 16) × (bytes ≡ hexadecimal number ∷ rest)

-- the bytes begin with the column of this character, and the rest follows
abbrev pub BeginsWithColumn : Form → List ℕ → ℕ → List ℕ → Type 0
BeginsWithColumn form bytes code rest = (code < 64) × (bytes ≡ column_of form code ++ rest)

-- the number of bytes of a column
abbrev pub column_length : Form → ℕ
column_length Text = 1
column_length Punched = 3

-- the bytes of a column of a line, where the first column is 0
abbrev pub column_at : Form → List ℕ → ℕ → List ℕ
column_at form line column = take (column_length form) (drop (column_length form * column) line)

-- the number of bytes of a card's line
abbrev pub line_length : Form → ℕ
line_length Text = 81
line_length Punched = 241

-- the line of a card: its columns and a line feed
abbrev pub line_of : Form → Card → List ℕ
line_of form card = flat_map (column_of form) card.0 ++ line_feed ∷ []

-- the file of a deck: the lines of its cards
abbrev pub file_of : Form → List Card → List ℕ
file_of form deck = flat_map (line_of form) deck

-- the text of a deck, with a glyph for each column
abbrev pub text_of : List Card → List ℕ
text_of deck = file_of Text deck

-- the punch file of a deck, with three hexadecimal digits for each column
abbrev pub punch_file_of : List Card → List ℕ
punch_file_of deck = file_of Punched deck
