-- the first fault of a file as a deck's: where it is, and what is wrong there
use Rattle.std.specs.Prelude.{ℕ, zero, suc, ◌≡◌, ◌≢◌, ◌<◌, ◌+◌, ◌==◌, ◌⊎◌, Bool, true, false, ◌&&◌, if◌then◌else◌, List, [], ◌∷◌, ◌++◌, length, All, Result, MatchResult}
use Rattle.std.specs.List.{flat_map, list_any}
use Rattle.cards.specs.declared.decks.Card.{Card}
use Rattle.cards.specs.Decks.{card_columns, largest_deck, AreCharacters, IsCard}
use Rattle.cards.specs.declared.faults.CardError.{CardError}
use Rattle.cards.specs.declared.faults.CardError.TheVariants.{NoMemory, Length, Glyph, Punches, TooManyCards}
use Rattle.cards.specs.declared.faults.CardFault.{CardFault}
use Rattle.cards.specs.declared.forms.Form.{Form}
use Rattle.cards.specs.declared.forms.Form.TheVariants.{Text, Punched}
use Rattle.cards.specs.Files.{line_feed, digits, hexadecimal, column_of, line_of, file_of}

-- the bytes do not begin with the column of a character
abbrev pub IsNoColumn : Form → List ℕ → Type 0
IsNoColumn form bytes = (code : ℕ) (rest : List ℕ) → code < 64 → bytes ≢ column_of form code ++ rest

-- the bytes do not begin with a hexadecimal digit
abbrev pub IsNoDigit : List ℕ → Type 0
IsNoDigit bytes = (number : ℕ) (rest : List ℕ) → number < 16 → bytes ≢ hexadecimal number ∷ rest

-- the bytes do not begin with a line feed
abbrev pub IsNoLineFeed : List ℕ → Type 0
IsNoLineFeed bytes = (rest : List ℕ) → bytes ≢ line_feed ∷ rest

-- the bytes are not the line of a card
abbrev pub IsNoLine : Form → List ℕ → Type 0
IsNoLine form bytes = (card : Card) → IsCard card → bytes ≢ line_of form card

-- the bytes are at the end of a line or of the file
abbrev pub IsCutOff : List ℕ → Type 0
IsCutOff [] = Unit {0}
IsCutOff (byte ∷ bytes) = byte ≡ line_feed

-- whether a byte is a hexadecimal digit
abbrev pub is_digit : ℕ → Bool
is_digit byte = list_any (λ digit. digit == byte) digits

-- whether the line or the file ends after fewer than so many bytes, all of them hexadecimal digits
abbrev pub is_cut_short : ℕ → List ℕ → Bool
is_cut_short zero bytes = false
is_cut_short (suc count) [] = true
is_cut_short (suc count) (byte ∷ bytes) = if byte == line_feed then true
    else (is_digit byte && is_cut_short count bytes)

-- the error where so many hexadecimal digits are required: of the length if the line ends early,
-- else of the punches
abbrev pub digits_error : ℕ → List ℕ → CardError
digits_error count bytes = if is_cut_short count bytes then Length else Punches

-- the error where a column is required
abbrev pub column_error : Form → List ℕ → CardError
column_error Text bytes = if is_cut_short 1 bytes then Length else Glyph
column_error Punched bytes = digits_error 3 bytes

-- after so many columns of a card there is no further one, or after all 80 no line feed; this is
-- the error
abbrev pub IsWrongBehind : Form → ℕ → List ℕ → CardError → Type 0
IsWrongBehind form columns bytes error =
    ((columns < card_columns) × IsNoColumn form bytes × (error ≡ column_error form bytes))
    ⊎ ((columns ≡ card_columns) × IsNoLineFeed bytes × (error ≡ Length))

-- the columns of a line before this one are characters, and at this one is the error
pub record IsLineFault (form : Form) (bytes : List ℕ)
    (column : ℕ) (error : CardError) : Type 0 where
  pub columns : List ℕ
  pub rest : List ℕ
  pub characters : AreCharacters columns
  pub before : bytes ≡ flat_map (column_of form) columns ++ rest
  pub place : column ≡ length columns + 1
  pub wrong : IsWrongBehind form (length columns) rest error

-- after so many cards this is the fault: the next line's, or that there are too many cards
abbrev pub IsCardFault : Form → ℕ → List ℕ → CardFault → Type 0
IsCardFault form cards bytes fault =
    ((cards < largest_deck) × IsLineFault form bytes fault.column fault.error)
    ⊎ ((cards ≡ largest_deck) × (fault.column ≡ 1) × (fault.error ≡ TooManyCards))

-- this is the first fault of a file: the lines before it are cards
pub record IsFirstFault (form : Form) (file : List ℕ) (fault : CardFault) : Type 0 where
  pub cards : List Card
  pub rest : List ℕ
  pub whole : All IsCard cards
  pub before : file ≡ file_of form cards ++ rest
  pub more : rest ≢ []
  pub place : fault.card ≡ length cards + 1
  pub wrong : IsCardFault form (length cards) rest fault

-- the fault that memory ran out, with no card and no column
abbrev pub out_of_memory : CardFault
out_of_memory = record { error = NoMemory; card = 0; column = 0 }

-- the fault of a file that is no deck, or want of memory
abbrev pub IsFault : Form → List ℕ → CardFault → Type 0
IsFault form file fault = (fault ≡ out_of_memory) ⊎ IsFirstFault form file fault

-- the deck was read, or memory ran out
abbrev pub IsRead : Result (List Card) CardFault → List Card → Type 0
IsRead result deck = MatchResult result (λ found. found ≡ deck) (λ fault. fault ≡ out_of_memory)
