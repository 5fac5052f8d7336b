-- the words of a line
use Rattle.std.specs.Prelude.{ℕ, nat_le, not, Bool, List, [], Option, Some, None, take, drop, position, if◌then◌else◌}
use Rattle.std.specs.Str.{is_utf8}

-- whether a byte parts words: a blank, a tab, or the end of a line
abbrev pub is_gap : ℕ → Bool
is_gap byte = nat_le byte 32

-- what is before a place of a text, or all of it where there is none
abbrev pub until : Option ℕ → List ℕ → List ℕ
until None text = text
until (Some place) text = take place text

-- what is from a place of a text on, or nothing where there is none
abbrev pub onward : Option ℕ → List ℕ → List ℕ
onward None text = []
onward (Some place) text = drop place text

-- a text from its first word on
unfoldable pub from_word : List ℕ → List ℕ
from_word text = onward (position (λ byte. not (is_gap byte)) text) text

-- the word that a text begins with
unfoldable pub word_of : List ℕ → List ℕ
word_of text = until (position is_gap text) text

-- what is behind the word that a text begins with
unfoldable pub behind_word : List ℕ → List ℕ
behind_word text = onward (position is_gap text) text

-- a text from its second word on
abbrev pub from_next : List ℕ → List ℕ
from_next text = from_word (behind_word (from_word text))

-- the first word of a line; nothing where it has none
abbrev pub first_word : List ℕ → List ℕ
first_word line = word_of (from_word line)

-- its second word
abbrev pub second_word : List ℕ → List ℕ
second_word line = word_of (from_next line)

-- its third word
abbrev pub third_word : List ℕ → List ℕ
third_word line = word_of (from_next (from_next line))

-- a line from its fourth word on
abbrev pub from_fourth : List ℕ → List ℕ
from_fourth line = from_next (from_next (from_next line))

-- the text of a word; of one that is no UTF-8 the empty text
abbrev pub text_of : List ℕ → List ℕ
text_of word = if is_utf8 word then word else []
