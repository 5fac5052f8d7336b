-- the header fields of a head, and the length of the body by them
use Rattle.std.specs.Prelude.{ℕ, ◌&&◌, nat_le, List, [], ◌∷◌, Bool, if◌then◌else◌, length, map, filter, codes, Option, Some, None}
use Rattle.std.specs.List.{list_all}
use Rattle.std.specs.Char.{is_ascii_digit}
use Rattle.std.specs.Str.{str_eq_ignore_ascii_case}
use Rattle.std.specs.Str.Parse.{digits_value}
use Rattle.http_messages.specs.declared.lengths.BodyLength.{BodyLength}
use Rattle.http_messages.specs.declared.lengths.BodyLength.TheVariants.{Unsaid, Bytes, Bad}

-- a header field: its name and its value
abbrev pub Field : Type 0
Field = List ℕ × List ℕ

-- whether a header field has this name, without regard to case
unfoldable pub has_name : List ℕ → Field → Bool
has_name name field = str_eq_ignore_ascii_case field.0 name

-- the values of the header fields with this name
abbrev pub values_of : List ℕ → List Field → List (List ℕ)
values_of name fields = map (λ field. field.1) (filter (has_name name) fields)

-- the number of 1 to 7 digits, or none for any other text
unfoldable pub length_in : List ℕ → Option ℕ
length_in text =
    if nat_le 1 (length text) && nat_le (length text) 7 && list_all is_ascii_digit text
    then Some (digits_value 10 text) else None

-- the length of a body by this number of bytes, or a bad length if there is none
abbrev pub bytes_or_bad : Option ℕ → BodyLength
bytes_or_bad (Some count) = Bytes count
bytes_or_bad None = Bad

-- the length of a body by the values of Content-Length: not given if there is no value, and bad if
-- there are two or more
abbrev pub length_said : List (List ℕ) → BodyLength
length_said [] = Unsaid
length_said (value ∷ []) = bytes_or_bad (length_in value)
length_said (value ∷ other ∷ more) = Bad

-- the length of a body by one more value of Content-Length
abbrev pub length_of_more : BodyLength → List ℕ → BodyLength
length_of_more Unsaid value = bytes_or_bad (length_in value)
length_of_more (Bytes count) value = Bad
length_of_more Bad value = Bad

-- the length of a body by the header fields of its request
abbrev pub body_length : List Field → BodyLength
body_length fields = length_said (values_of (codes "Content-Length") fields)
