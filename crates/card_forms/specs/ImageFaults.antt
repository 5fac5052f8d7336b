-- the first fault of a file of images: where it is, and what is wrong there
use Rattle.std.specs.Prelude.{ℕ, ◌≡◌, ◌≢◌, ◌<◌, ◌+◌, ◌==◌, nat_le, ◌⊎◌, if◌then◌else◌, List, [], ◌∷◌, ◌++◌, length, position, slice_index, slice_index_or, Some}
use Rattle.std.specs.List.{All, flat_map}
use Rattle.cards.specs.Faults.{is_digit}
use Rattle.cards.specs.Files.{digits_of}
use Rattle.card_forms.specs.ImageFiles.{IsImageIn, MayStand, column_of, end_of, lines_of}
use Rattle.card_forms.specs.Images.{odd_card, odd_column}
use Rattle.card_forms.specs.PunchFiles.{in_capitals}
use Rattle.card_forms.specs.SimhTexts.{deck_text_of}
use Rattle.card_forms.specs.declared.columns.ColumnForm.{ColumnForm}
use Rattle.card_forms.specs.declared.columns.ColumnForm.TheVariants.{Glyph, Digits, Bits}
use Rattle.card_forms.specs.declared.faults.FormError.{FormError}
use Rattle.card_forms.specs.declared.faults.FormError.TheVariants.{NoMemory, Length, Sign, Punches}
use Rattle.card_forms.specs.declared.forms.Form.{Form}
use Rattle.card_forms.specs.declared.forms.Form.TheVariants.{Text, Punch, Simh, Binary}
use Rattle.card_forms.specs.declared.image_faults.ImageFault.{ImageFault}
use Rattle.card_forms.specs.declared.images.CardImage.{CardImage}

-- what is wrong with a byte that is no part of a column: that the line ends there, or the byte
abbrev pub byte_wrong : ℕ → FormError
byte_wrong byte = if byte == 10 then Length else Sign byte

-- what is wrong where a glyph is required
abbrev pub glyph_wrong : List ℕ → FormError
glyph_wrong [] = Length
glyph_wrong (byte ∷ bytes) = byte_wrong byte

-- what is wrong where digits are required: the first byte that is none
unfoldable pub digits_wrong : List ℕ → FormError
digits_wrong [] = Length
digits_wrong (byte ∷ bytes) = if is_digit byte then digits_wrong bytes else byte_wrong byte

-- what is wrong where two bytes of bits are required: the first one with a high bit
abbrev pub bits_wrong : List ℕ → FormError
bits_wrong [] = Length
bits_wrong (half ∷ []) = Length
bits_wrong (upper ∷ lower ∷ bytes) = if nat_le 64 upper then Sign upper else Sign lower

-- what is wrong where a column is required
abbrev pub column_wrong : ColumnForm → List ℕ → FormError
column_wrong Glyph bytes = glyph_wrong bytes
column_wrong Digits bytes = digits_wrong bytes
column_wrong Bits bytes = bits_wrong bytes

-- the bytes do not begin with a column
abbrev pub IsNoColumn : ColumnForm → List ℕ → Type 0
IsNoColumn form bytes =
    (pattern : ℕ) (rest : List ℕ) → MayStand form pattern → bytes ≢ column_of form pattern ++ rest

-- the bytes do not begin with what stands behind the columns of a card
abbrev pub IsNoEnd : ColumnForm → List ℕ → Type 0
IsNoEnd form bytes = (rest : List ℕ) → bytes ≢ end_of form ++ rest

-- after so many columns of a card there is no further one, or after all 80 not the end of the card;
-- this is the error
abbrev pub IsWrongBehind : ColumnForm → ℕ → List ℕ → FormError → Type 0
IsWrongBehind form columns bytes error =
    ((columns < 80) × IsNoColumn form bytes × (error ≡ column_wrong form bytes))
    ⊎ ((columns ≡ 80) × IsNoEnd form bytes × (error ≡ Length))

-- the columns of a card before this one are well, and at this one is the error
pub record IsCardFault (form : ColumnForm) (bytes : List ℕ)
    (column : ℕ) (error : FormError) : Type 0 where
  pub columns : List ℕ
  pub rest : List ℕ
  pub each : All (MayStand form) columns
  pub before : bytes ≡ flat_map (column_of form) columns ++ rest
  pub place : column ≡ length columns + 1
  pub wrong : IsWrongBehind form (length columns) rest error

-- this is the first fault of the bytes of cards: the cards before it are well
pub record IsFirstFaultIn (form : ColumnForm) (bytes : List ℕ) (fault : ImageFault) : Type 0 where
  pub images : List CardImage
  pub rest : List ℕ
  pub whole : All (IsImageIn form) images
  pub before : bytes ≡ lines_of form images ++ rest
  pub more : rest ≢ []
  pub place : fault.card ≡ length images + 1
  pub wrong : IsCardFault form rest fault.column fault.error

-- the fault that memory ran out, with no card and no column
abbrev pub out_of_memory : ImageFault
out_of_memory = record { error = NoMemory; card = 0; column = 0 }

-- the first fault of the bytes of cards, or want of memory
abbrev pub IsFaultIn : ColumnForm → List ℕ → ImageFault → Type 0
IsFaultIn form bytes fault = (fault ≡ out_of_memory) ⊎ IsFirstFaultIn form bytes fault

-- the first fault of a file that has no images in this form, or want of memory
abbrev pub IsImageFault : Form → List ℕ → ImageFault → Type 0
IsImageFault Text bytes fault = IsFaultIn Glyph bytes fault
IsImageFault Punch bytes fault = IsFaultIn Digits (in_capitals bytes) fault
IsImageFault Simh bytes fault = IsFaultIn Glyph (deck_text_of bytes) fault
IsImageFault Binary bytes fault = IsFaultIn Bits bytes fault

-- this is the first column of cards that is no character: no card before it has such a column, and
-- in its card no column before it is one
pub record IsFirstOdd (images : List CardImage) (fault : ImageFault) : Type 0 where
  pub card : ℕ
  pub image : CardImage
  pub column : ℕ
  pub first_card : odd_card images ≡ Some card
  pub is_image : slice_index_or images card image ≡ image
  pub first_column : odd_column image ≡ Some column
  pub fault_is : fault ≡ record {
    error = Punches (digits_of (slice_index image.0 column));
    card = card + 1;
    column = column + 1;
  }
