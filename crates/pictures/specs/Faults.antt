-- the first fault of a text that is to be shown as a listing: where it is, and what is wrong there
use Rattle.std.specs.Prelude.{ℕ, ◌≡◌, ◌<◌, ◌⊎◌, ◌+◌, ◌==◌, nat_le, nat_lt, Bool, ◌&&◌, ◌||◌, not, if◌then◌else◌, List, length, take, slice_index, count_by, Option, Some, None}
use Rattle.std.specs.List.{suffix_len}
use Rattle.pictures.specs.declared.faults.ListingError.{ListingError}
use Rattle.pictures.specs.declared.faults.ListingError.TheVariants.{NoMemory, Sign, Length}
use Rattle.pictures.specs.declared.faults.ListingFault.{ListingFault}

-- whether a byte ends a line: a line feed or a form feed
abbrev pub ends_line : ℕ → Bool
ends_line byte = byte == 10 || byte == 12

-- whether a byte is a sign or the blank of ASCII
abbrev pub is_sign : ℕ → Bool
is_sign byte = nat_le 32 byte && nat_le byte 126

-- the line of what stands at a place: one more than the line feeds before it
abbrev pub line_at : List ℕ → ℕ → ℕ
line_at text place = count_by (λ byte. byte == 10) (take place text) + 1

-- the column of what stands at a place: one more than the bytes before it in its line
abbrev pub column_at : List ℕ → ℕ → ℕ
column_at text place = suffix_len (λ byte. not (ends_line byte)) (take place text) + 1

-- what is wrong with a byte in a column, if anything: it is no sign and ends no line, or it is
-- behind column 132
unfoldable pub error_in : ℕ → ℕ → Option ListingError
error_in column byte = if ends_line byte then None
    else (if is_sign byte then (if nat_lt 132 column then Some Length else None)
    else Some (Sign byte))

-- what is wrong with the byte at a place
abbrev pub error_at : List ℕ → ℕ → Option ListingError
error_at text place = error_in (column_at text place) (slice_index text place)

-- the line of what stands behind a byte of a line
abbrev pub next_line : ℕ → ℕ → ℕ
next_line line byte = if byte == 10 then line + 1 else line

-- the column of what stands behind a byte in a column
abbrev pub next_column : ℕ → ℕ → ℕ
next_column column byte = if ends_line byte then 1 else column + 1

-- nothing is wrong with the bytes before a place
abbrev pub AreRightBelow : List ℕ → ℕ → Type 0
AreRightBelow text place = (k : ℕ) → k < place → error_at text k ≡ None

-- the text is a listing: nothing is wrong with any byte
abbrev pub IsListing : List ℕ → Type 0
IsListing text = AreRightBelow text (length text)

-- this is wrong with a byte, and nothing with those before it
pub record IsFirstFault (text : List ℕ) (fault : ListingFault) : Type 0 where
  pub place : ℕ
  pub within : place < length text
  pub before : AreRightBelow text place
  pub error : error_at text place ≡ Some fault.error
  pub line : fault.line ≡ line_at text place
  pub column : fault.column ≡ column_at text place

-- the fault that memory ran out, with no line and no column
abbrev pub out_of_memory : ListingFault
out_of_memory = record { error = NoMemory; line = 0; column = 0 }

-- the fault of a text that is no listing, or want of memory
abbrev pub IsFault : List ℕ → ListingFault → Type 0
IsFault text fault = (fault ≡ out_of_memory) ⊎ IsFirstFault text fault
