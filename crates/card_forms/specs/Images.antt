-- the images of cards: of each column the pattern of its holes, and the character that it is
use Rattle.std.specs.Prelude.{ℕ, zero, suc, ◌≡◌, ◌<◌, ◌==◌, nat_lt, Bool, not, if◌then◌else◌, List, length, map, position, is_some, Option}
use Rattle.std.specs.List.{All}
use Rattle.bcd.specs.Table.{glyph_of, punches_of}
use Rattle.cards.specs.declared.Card.{Card}
use Rattle.card_forms.specs.Signs.{simh_sign}
use Rattle.card_forms.specs.declared.images.CardImage.{CardImage}

-- the image of a card: the punches of its columns
abbrev pub image_of : Card → CardImage
image_of card = record { 0 = map punches_of card.0 }

-- the images of a deck's cards
abbrev pub images_of : List Card → List CardImage
images_of deck = map image_of deck

-- the image of a card has 80 columns, each with a pattern of twelve rows
abbrev pub IsImage : CardImage → Type 0
IsImage image = (length image.0 ≡ 80) × All (λ pattern. pattern < 4096) image.0

-- the number of the character with these punches, among those below a number; 64 where it is none
unfoldable pub character_among : ℕ → ℕ → ℕ
character_among zero pattern = 64
character_among (suc code) pattern =
    if punches_of code == pattern then code else character_among code pattern

-- the number of the character with these punches; 64 where they are no character's
unfoldable pub character_of : ℕ → ℕ
character_of pattern = character_among 64 pattern

-- whether these punches are a character's
abbrev pub is_character : ℕ → Bool
is_character pattern = nat_lt (character_of pattern) 64

-- the place of the first column of a card that is no character, from 0
abbrev pub odd_column : CardImage → Option ℕ
odd_column image = position (λ pattern. not (is_character pattern)) image.0

-- the place of the first card with a column that is no character, from 0
abbrev pub odd_card : List CardImage → Option ℕ
odd_card images = position (λ image. is_some (odd_column image)) images

-- whether each column of each card is a character
abbrev pub are_characters : List CardImage → Bool
are_characters images = not (is_some (odd_card images))

-- how a column is shown: by the glyph of its character, or by `~`, which is no glyph, where it is
-- none
unfoldable pub glyph_shown : ℕ → ℕ
glyph_shown pattern = if is_character pattern then glyph_of (character_of pattern) else 126

-- the sign that SimH punches for a column's character; 0, which is no sign, where the column is none
unfoldable pub sign_shown : ℕ → ℕ
sign_shown pattern = if is_character pattern then simh_sign (character_of pattern) else 0
