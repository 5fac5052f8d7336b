-- the characters of a field by their glyphs, and what a field begins with
use Rattle.std.specs.Prelude.{ℕ, ◌+◌, ◌*◌, ◌^◌, ◌-◌, ◌==◌, nat_le, Bool, true, false, not, ◌&&◌, ◌||◌, if◌then◌else◌, List, [], ◌∷◌, ◌++◌, length, replicate, unwrap_or, codes}
use Rattle.bcd.specs.Table.{glyph_of, digit_of, byte}
use Rattle.autocoder_statements.specs.declared.characters.Class.{Class}
use Rattle.autocoder_statements.specs.declared.characters.Class.TheVariants.{Digit, LetterOrDigit, Filled, Quoted}

-- whether a character is the blank
abbrev pub is_blank : ℕ → Bool
is_blank code = glyph_of code == byte (codes " ")

-- whether a character's glyph is from the first to the last of these, in the order of bytes
abbrev pub is_between : ℕ → ℕ → ℕ → Bool
is_between first last code = nat_le first (glyph_of code) && nat_le (glyph_of code) last

-- whether a character is one of the digits 0 to 9
abbrev pub is_digit : ℕ → Bool
is_digit code = is_between (byte (codes "0")) (byte (codes "9")) code

-- whether a character is one of the letters A to Z
abbrev pub is_letter : ℕ → Bool
is_letter code = is_between (byte (codes "A")) (byte (codes "Z")) code

-- whether a character is of this class
unfoldable pub is_of : Class → ℕ → Bool
is_of Digit code = is_digit code
is_of LetterOrDigit code = is_letter code || is_digit code
is_of Filled code = not (is_blank code)
is_of Quoted code = not (glyph_of code == byte (codes "@"))

-- how many characters of this class a text begins with
unfoldable pub run : Class → List ℕ → ℕ
run class [] = 0
run class (code ∷ text) = if is_of class code then 1 + run class text else 0

-- whether a text begins with the characters of these glyphs
unfoldable pub begins : List ℕ → List ℕ → Bool
begins [] text = true
begins (glyph ∷ glyphs) [] = false
begins (glyph ∷ glyphs) (code ∷ text) = (glyph_of code == glyph) && begins glyphs text

-- whether a text begins with a letter
unfoldable pub begins_with_letter : List ℕ → Bool
begins_with_letter [] = false
begins_with_letter (code ∷ text) = is_letter code

-- whether an operand field ends here: the next two columns are blank, as far as there are columns
unfoldable pub is_ended : List ℕ → Bool
is_ended [] = true
is_ended (code ∷ []) = is_blank code
is_ended (code ∷ next ∷ text) = is_blank code && is_blank next

-- the value of a digit, 0 to 9
abbrev pub digit_value : ℕ → ℕ
digit_value code = unwrap_or (digit_of code) 0

-- the number in these digits, the highest digit first
unfoldable pub number_of : List ℕ → ℕ
number_of [] = 0
number_of (digit ∷ digits) = digit_value digit * 10 ^ length digits + number_of digits

-- a word with blanks after it, so many characters in all
unfoldable pub with_blanks : ℕ → List ℕ → List ℕ
with_blanks size word = word ++ replicate (size - length word) 0
