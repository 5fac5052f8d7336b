-- the forms of a deck's file
use Rattle.std.specs.Prelude.{ℕ, ◌≡◌, ◌==◌, if◌then◌else◌, List, codes, position, unwrap_or}
use Rattle.cards.specs.declared.Card.{Card}
use Rattle.cards.specs.Files.{text_of, punch_file_of}
use Rattle.card_forms.specs.declared.forms.Form.{Form}
use Rattle.card_forms.specs.declared.forms.Form.TheVariants.{Text, Punch, Simh, Binary}
use Rattle.card_forms.specs.SimhTexts.{simh_text_of, deck_text_of}
use Rattle.card_forms.specs.ColumnBinary.{binary_of}
use Rattle.card_forms.specs.PunchFiles.{in_capitals}

-- the name of a form
abbrev pub word_of : Form → List ℕ
word_of Text = codes "text"
word_of Punch = codes "punch"
word_of Simh = codes "simh"
word_of Binary = codes "binary"

-- the file that is written of a deck in a form
abbrev pub file_of : Form → List Card → List ℕ
file_of Text deck = text_of deck
file_of Punch deck = punch_file_of deck
file_of Simh deck = simh_text_of deck
file_of Binary deck = binary_of deck

-- the bytes are a file of a deck in a form: in SimH's one any text that stands for the deck's text,
-- a punch file may have small digits, and in the others it is the one file that is written
abbrev pub IsFileOf : Form → List ℕ → List Card → Type 0
IsFileOf Text bytes deck = bytes ≡ text_of deck
IsFileOf Punch bytes deck = in_capitals bytes ≡ punch_file_of deck
IsFileOf Simh bytes deck = deck_text_of bytes ≡ text_of deck
IsFileOf Binary bytes deck = bytes ≡ binary_of deck

-- the form that a deck text or a punch file tells by the bytes before its first line feed: 240 are
-- those of a punch file
abbrev pub form_told : List ℕ → Form
form_told bytes =
    if unwrap_or (position (λ byte. byte == 10) bytes) 0 == 240 then Punch else Text
