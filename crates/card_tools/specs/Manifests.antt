-- lines of a manifest: a deck's digest and a name, and between them the number of its cards, or not
use Rattle.std.specs.Prelude.{ℕ, ◌≡◌, ◌≢◌, ◌⊎◌, ◌==◌, Bool, true, ◌&&◌, ◌||◌, nat_le, nat_lt, if◌then◌else◌, List, [], ◌∷◌, ◌++◌, length, decimal}
use Rattle.std.specs.List.{All, list_all}
use Rattle.card_forms.specs.ImageFiles.{image_file_of}
use Rattle.card_forms.specs.Images.{are_characters}
use Rattle.card_forms.specs.declared.forms.Form.{Form}
use Rattle.card_forms.specs.declared.forms.Form.TheVariants.{Text, Punch}
use Rattle.card_forms.specs.declared.images.CardImage.{CardImage}
use Rattle.texts.specs.Digests as digests

-- the form of which the digest of cards is: their deck text, or where a column is no character their
-- punch file
abbrev pub form_digested : List CardImage → Form
form_digested images = if are_characters images then Text else Punch

-- the digest of cards
abbrev pub digest_of : List CardImage → List ℕ
digest_of images = digests.digest_of (image_file_of (form_digested images) images)

-- the line of a digest and what stands behind it, with two blanks between them
abbrev pub digest_line : List ℕ → List ℕ → List ℕ
digest_line digest label = digest ++ 32 ∷ 32 ∷ label

-- a name behind a number of cards, with two blanks between them
abbrev pub counted : List ℕ → List ℕ → List ℕ
counted cards name = cards ++ 32 ∷ 32 ∷ name

-- the line of a deck with a name, and a line feed: as `sha256sum` prints it of the deck's text
abbrev pub manifest_line : List CardImage → List ℕ → List ℕ
manifest_line deck name = digest_line (digest_of deck) name ++ 10 ∷ []

-- the same with the number of the deck's cards before the name
abbrev pub counted_line : List CardImage → List ℕ → List ℕ
counted_line deck name =
    digest_line (digest_of deck) (counted (decimal (length deck)) name) ++ 10 ∷ []

-- whether a byte is a decimal digit
abbrev pub is_decimal : ℕ → Bool
is_decimal byte = nat_le 48 byte && nat_le byte 57

-- whether a byte is a lower-case hexadecimal digit
abbrev pub is_hexadecimal : ℕ → Bool
is_hexadecimal byte = is_decimal byte || (nat_le 97 byte && nat_le byte 102)

-- whether these bytes may be a digest: 64 lower-case hexadecimal digits
abbrev pub may_be_digest : List ℕ → Bool
may_be_digest bytes = length bytes == 64 && list_all is_hexadecimal bytes

-- whether these bytes may be a number of cards: one to nine decimal digits
abbrev pub may_be_number : List ℕ → Bool
may_be_number bytes =
    (nat_lt 0 (length bytes) && nat_le (length bytes) 9) && list_all is_decimal bytes

-- these bytes are a number of cards and a name behind it
pub record HasCount (label cards name : List ℕ) : Type 0 where
  pub fields_are : label ≡ counted cards name
  pub cards_are : may_be_number cards ≡ true

-- these bytes have no number of cards before a name
abbrev pub HasNoCount : List ℕ → Type 0
HasNoCount label = (cards name : List ℕ) → HasCount label cards name → ⊥

-- what stands behind a digest has this name: that behind a number of cards, or all of it where it
-- has none
abbrev pub IsName : List ℕ → List ℕ → Type 0
IsName label name =
    ((cards : List ℕ) × HasCount label cards name) ⊎ (HasNoCount label × (name ≡ label))

-- a line of a manifest, without its line feed, has this digest and this name
pub record IsEntry (line digest name : List ℕ) : Type 0 where
  pub label : List ℕ
  pub line_is : line ≡ digest_line digest label
  pub digest_is : may_be_digest digest ≡ true
  pub name_is : IsName label name

-- none of these bytes is a blank
abbrev pub HasNoBlank : List ℕ → Type 0
HasNoBlank bytes = All (λ byte. byte ≢ 32) bytes

-- the bytes begin with this field, two blanks end it, and the rest follows
abbrev pub BeginsWithField : List ℕ → List ℕ → List ℕ → Type 0
BeginsWithField bytes field rest = HasNoBlank field × (bytes ≡ field ++ 32 ∷ 32 ∷ rest)
