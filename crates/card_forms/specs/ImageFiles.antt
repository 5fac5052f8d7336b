-- the files of the images of cards
use Rattle.std.specs.Prelude.{ℕ, ◌≡◌, ◌<◌, ◌/◌, ◌%◌, Bool, true, List, [], ◌∷◌, ◌++◌, length, map}
use Rattle.std.specs.List.{All, flat_map}
use Rattle.cards.specs.Files.{digits_of}
use Rattle.card_forms.specs.Images.{are_characters, glyph_shown, is_character, sign_shown}
use Rattle.card_forms.specs.PunchFiles.{in_capitals}
use Rattle.card_forms.specs.Signs.{filled}
use Rattle.card_forms.specs.SimhTexts.{deck_text_of}
use Rattle.card_forms.specs.declared.forms.Form.{Form}
use Rattle.card_forms.specs.declared.forms.Form.TheVariants.{Text, Punch, Simh, Binary}
use Rattle.card_forms.specs.declared.images.CardImage.{CardImage}
use Rattle.card_forms.specs.declared.columns.ColumnForm.{ColumnForm}
use Rattle.card_forms.specs.declared.columns.ColumnForm.TheVariants.{Glyph, Digits, Bits}

-- the bytes of a column: a glyph, three hexadecimal digits, or as bits two bytes, of which the first
-- has the rows 12, 11, 0, 1, 2 and 3 as the bits 32 to 1, and the second so the rows 4 to 9
unfoldable pub column_of : ColumnForm → ℕ → List ℕ
column_of Glyph pattern = glyph_shown pattern ∷ []
column_of Digits pattern = digits_of pattern
column_of Bits pattern = (pattern / 64 % 64) ∷ (pattern % 64) ∷ []

-- the bytes behind the columns of a card: a line feed, and behind bits none
abbrev pub end_of : ColumnForm → List ℕ
end_of Glyph = 10 ∷ []
end_of Digits = 10 ∷ []
end_of Bits = []

-- the bytes of a card
abbrev pub line_of : ColumnForm → CardImage → List ℕ
line_of form image = flat_map (column_of form) image.0 ++ end_of form

-- the bytes of cards
abbrev pub lines_of : ColumnForm → List CardImage → List ℕ
lines_of form images = flat_map (line_of form) images

-- a column may have this pattern: any of twelve rows, but as a glyph only that of a character
abbrev pub MayStand : ColumnForm → ℕ → Type 0
MayStand Glyph pattern = (pattern < 4096) × (is_character pattern ≡ true)
MayStand Digits pattern = pattern < 4096
MayStand Bits pattern = pattern < 4096

-- the bytes begin with a column of this pattern, and the rest follows
abbrev pub BeginsWithColumn : ColumnForm → List ℕ → ℕ → List ℕ → Type 0
BeginsWithColumn form bytes pattern rest =
    MayStand form pattern × (bytes ≡ column_of form pattern ++ rest)

-- a card may have this image: 80 columns, each with a pattern that it may have
abbrev pub IsImageIn : ColumnForm → CardImage → Type 0
IsImageIn form image = (length image.0 ≡ 80) × All (MayStand form) image.0

-- these are the images of the cards whose bytes these are
abbrev pub AreLines : ColumnForm → List ℕ → List CardImage → Type 0
AreLines form bytes images = All (IsImageIn form) images × (bytes ≡ lines_of form images)

-- the line that SimH punches of a card whose columns are characters: their signs up to the last one
-- that is not blank, and a line feed
abbrev pub simh_line_of : CardImage → List ℕ
simh_line_of image = map sign_shown (filled image.0) ++ 10 ∷ []

-- the file that is written of images in a form
abbrev pub image_file_of : Form → List CardImage → List ℕ
image_file_of Text images = lines_of Glyph images
image_file_of Punch images = lines_of Digits images
image_file_of Simh images = flat_map simh_line_of images
image_file_of Binary images = lines_of Bits images

-- whether a form has a file of these images: texts are of characters alone
abbrev pub has_file : Form → List CardImage → Bool
has_file Text images = are_characters images
has_file Punch images = true
has_file Simh images = are_characters images
has_file Binary images = true

-- the bytes are a file of these images in a form: a punch file may have small digits, and in SimH's
-- one it is any text that stands for the images' text
abbrev pub IsImageFile : Form → List ℕ → List CardImage → Type 0
IsImageFile Text bytes images = AreLines Glyph bytes images
IsImageFile Punch bytes images = AreLines Digits (in_capitals bytes) images
IsImageFile Simh bytes images = AreLines Glyph (deck_text_of bytes) images
IsImageFile Binary bytes images = AreLines Bits bytes images
