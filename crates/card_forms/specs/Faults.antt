-- the first fault of a file of a deck: where it is, and what is wrong there
use Rattle.std.specs.Prelude.{ℕ, ◌≡◌, ◌⊎◌, ◌+◌, ◌*◌, ◌-◌, nat_le, not, if◌then◌else◌, List, [], ◌∷◌, slice_index, Result, MatchResult}
use Rattle.cards.specs.declared.Card.{Card}
use Rattle.cards.specs.declared.CardFault.{CardFault}
use Rattle.cards.specs.declared.CardError.{CardError}
use Rattle.cards.specs.declared.CardError.TheVariants as card
use Rattle.cards.specs.Faults as cards
use Rattle.cards.specs.Files.{digits_of, file_of, text_of, punch_file_of}
use Rattle.card_forms.specs.declared.forms.Form.{Form}
use Rattle.card_forms.specs.declared.forms.Form.TheVariants.{Text, Punch, Simh, Binary}
use Rattle.card_forms.specs.declared.faults.FormError.{FormError}
use Rattle.card_forms.specs.declared.faults.FormError.TheVariants.{NoMemory, Length, Sign, Punches, TooManyCards}
use Rattle.card_forms.specs.declared.faults.FormFault.{FormFault}
use Rattle.card_forms.specs.SimhTexts.{deck_text_of}
use Rattle.card_forms.specs.ColumnBinary.{punch_file_for}
use Rattle.card_forms.specs.PunchFiles.{in_capitals}

-- the fault that memory ran out, with no card and no column
abbrev pub out_of_memory : FormFault
out_of_memory = record { error = NoMemory; card = 0; column = 0 }

-- the place of a column in a file with so many bytes a card and a column
abbrev pub place_of : ℕ → ℕ → CardFault → ℕ
place_of card column told = card * (told.card - 1) + column * (told.column - 1)

-- what is wrong with the glyph at the place of a fault in a deck text: the byte there
abbrev pub glyph_error : List ℕ → CardFault → FormError
glyph_error text told = Sign (slice_index text (place_of 81 1 told))

-- what is wrong with three bytes of a punch file: the first of them that is no digit, or else that
-- they are the digits of no character
abbrev pub digits_error : ℕ → ℕ → ℕ → FormError
digits_error high middle low = if not (cards.is_digit high) then Sign high
    else (if not (cards.is_digit middle) then Sign middle
    else (if not (cards.is_digit low) then Sign low
    else Punches (high ∷ middle ∷ low ∷ [])))

-- what is wrong with the column at the place of a fault in a punch file
abbrev pub punches_error : List ℕ → CardFault → FormError
punches_error file told = digits_error (slice_index file (place_of 241 3 told))
    (slice_index file (place_of 241 3 told + 1)) (slice_index file (place_of 241 3 told + 2))

-- what is wrong with two bytes of column binary: the first of them with a high bit, or else that
-- their rows are the punches of no character
abbrev pub bits_error : ℕ → ℕ → FormError
bits_error upper lower = if nat_le 64 upper then Sign upper
    else (if nat_le 64 lower then Sign lower else Punches (digits_of (64 * upper + lower)))

-- what is wrong with the column at the place of a fault in column binary
abbrev pub column_error : List ℕ → CardFault → FormError
column_error bytes told = bits_error (slice_index bytes (place_of 160 2 told))
    (slice_index bytes (place_of 160 2 told + 1))

-- a fault of a deck text or a punch file, where this is wrong with the column if there is one
abbrev pub error_as : CardError → FormError → FormError
error_as card.NoMemory wrong = NoMemory
error_as card.Length wrong = Length
error_as card.Glyph wrong = wrong
error_as card.Punches wrong = wrong
error_as card.TooManyCards wrong = TooManyCards

-- the same with its place
abbrev pub fault_as : CardFault → FormError → FormFault
fault_as told wrong =
    record { error = error_as told.error wrong; card = told.card; column = told.column }

-- this is the first fault of a deck text
abbrev pub IsTextFault : List ℕ → CardFault → Type 0
IsTextFault text told = (form : _) × (text_of ≡ file_of form) × cards.IsFirstFault form text told

-- this is the first fault of a punch file
abbrev pub IsPunchFault : List ℕ → CardFault → Type 0
IsPunchFault file told =
    (form : _) × (punch_file_of ≡ file_of form) × cards.IsFirstFault form file told

-- the fault of a file as that of the deck text or the punch file for which it stands
abbrev pub IsTold : Form → List ℕ → CardFault → Type 0
IsTold Text bytes told = IsTextFault bytes told
IsTold Punch bytes told = IsPunchFault (in_capitals bytes) told
IsTold Simh bytes told = IsTextFault (deck_text_of bytes) told
IsTold Binary bytes told = IsPunchFault (punch_file_for bytes) told

-- what is wrong with the column at the place of a fault
abbrev pub wrong_at : Form → List ℕ → CardFault → FormError
wrong_at Text bytes told = glyph_error bytes told
wrong_at Punch bytes told = punches_error (in_capitals bytes) told
wrong_at Simh bytes told = glyph_error (deck_text_of bytes) told
wrong_at Binary bytes told = column_error bytes told

-- this is the first fault of a file that is none of a deck in this form
abbrev pub IsFirstFault : Form → List ℕ → FormFault → Type 0
IsFirstFault form bytes fault =
    (told : CardFault) × IsTold form bytes told × (fault ≡ fault_as told (wrong_at form bytes told))

-- the fault of a file that is none of a deck in this form, or want of memory
abbrev pub IsFault : Form → List ℕ → FormFault → Type 0
IsFault form bytes fault = (fault ≡ out_of_memory) ⊎ IsFirstFault form bytes fault

-- the deck was read, or memory ran out
abbrev pub IsRead : Result (List Card) FormFault → List Card → Type 0
IsRead result deck = MatchResult result (λ found. found ≡ deck) (λ fault. fault ≡ out_of_memory)
