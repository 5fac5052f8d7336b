-- the changes that the text of a film shows, as its reader takes them
use Rattle.std.specs.Prelude.{ℕ, ◌-◌, ◌==◌, nat_le, Bool, ◌&&◌, if◌then◌else◌, List, [], ◌∷◌, length, map, drop, filter, slice_index, position, Option, Some, None, unwrap_or}
use Rattle.std.specs.List.{flat_map, before_first, after_first}
use Rattle.std.specs.Str.Parse.{digits_value}
use Rattle.pictures.specs.Reading.{pieces}
use Rattle.films.specs.Changes.{Item, cell_is, number_is, printed, punched}
use Rattle.films.specs.Frames.{CardShown, LineShown}
use Rattle.films.specs.Signs.{signs}
use Rattle.films.specs.Texts.{letters}

-- what stands in a text before the first byte that is this mark
abbrev pub before : ℕ → List ℕ → List ℕ
before mark text = before_first (λ byte. byte == mark) text

-- what stands in a text behind the first byte that is this mark
abbrev pub behind : ℕ → List ℕ → List ℕ
behind mark text = after_first (λ byte. byte == mark) text

-- the number that digits are
abbrev pub number_read : List ℕ → ℕ
number_read digits = digits_value 10 digits

-- the character of a sign; 64 where it is none
unfoldable pub code_read : ℕ → ℕ
code_read sign = unwrap_or (position (λ other. other == sign) signs) 64

-- the contents of a position: an apostrophe if it has a mark, and then the sign of its character
unfoldable pub cell_read : List ℕ → ℕ × Bool
cell_read text = (code_read (slice_index text (length text - 1)), slice_index text 0 == 39)

-- the line of a word behind its letter
abbrev pub line_read : List ℕ → LineShown
line_read text = record {
  form = number_read (before 46 text);
  line = number_read (before 58 (behind 46 text));
  signs = behind 58 (behind 46 text);
}

-- the card of a word behind its letter
abbrev pub card_read : List ℕ → CardShown
card_read text =
    record { pocket = number_read (before 58 text); signs = behind 58 text }

-- the number at the place of a letter among those of the numbers, if it is one
abbrev pub number_at : Option ℕ → List ℕ → List Item
number_at None text = []
number_at (Some place) text = number_is place (number_read text) ∷ []

-- the item of a word with this first byte and this text behind it; none where it is of another kind
unfoldable pub word_read_by : ℕ → List ℕ → List Item
word_read_by letter text =
    if nat_le 48 letter && nat_le letter 57
    then cell_is (number_read (before 58 (letter ∷ text)))
    (cell_read (behind 58 (letter ∷ text))) ∷ []
    else (if letter == 112 then printed (line_read text) ∷ []
    else (if letter == 117 then punched (card_read text) ∷ []
    else number_at (position (λ other. other == letter) letters) text))

-- the item of a word, if it is one
abbrev pub word_read : List ℕ → List Item
word_read [] = []
word_read (letter ∷ text) = word_read_by letter text

-- the items of a line of a change
abbrev pub items_read : List ℕ → List Item
items_read line = flat_map word_read (drop 1 (pieces 32 line))

-- whether a line is one of a change
abbrev pub is_change : List ℕ → Bool
is_change line = slice_index line 0 == 67

-- the changes that the text of a film shows
unfoldable pub changes_read : List ℕ → List (List Item)
changes_read text = map items_read (filter is_change (pieces 10 text))
