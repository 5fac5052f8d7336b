-- texts as they are punched, the classes of their characters, and the end of a field
use Rattle.std.specs.Prelude.{ℕ, ◌≡◌, ◌⊎◌, ◌==◌, Bool, List, [], ◌∷◌, ◌++◌, length, map, replicate, codes}
use Rattle.std.specs.List.{list_any}
use Rattle.bcd.specs.Table.{glyph_of, byte}
use Rattle.addresses.specs.Digits.{code_of}

-- ---- characters

-- the characters with these glyphs
abbrev pub characters : List ℕ → List ℕ
characters glyphs = map code_of glyphs

-- the character with this glyph, the only one of a text
abbrev pub character : List ℕ → ℕ
character glyph = code_of (byte glyph)

-- the blank: a column without a punch
abbrev pub blank : ℕ
blank = 0

-- whether a character has one of these glyphs
abbrev pub is_one_of : List ℕ → ℕ → Bool
is_one_of glyphs code = list_any (λ glyph. glyph == glyph_of code) glyphs

-- the glyphs of the digits
abbrev pub digits : List ℕ
digits = codes "0123456789"

-- the glyphs of the letters
abbrev pub letters : List ℕ
letters = codes "ABCDEFGHIJKLMNOPQRSTUVWXYZ"

-- ---- texts

-- a text is the characters with these glyphs
abbrev pub IsTyped : List ℕ → List ℕ → Type 0
IsTyped glyphs text = text ≡ characters glyphs

-- a text has blanks alone, or nothing
abbrev pub AreBlanks : List ℕ → Type 0
AreBlanks text = text ≡ replicate (length text) blank

-- a text is one text and right after it another
pub record Joined (IsOne IsOther : List ℕ → Type 0) (text : List ℕ) : Type 0 where
  pub one : List ℕ
  pub other : List ℕ
  pub said : text ≡ one ++ other
  pub is_one : IsOne one
  pub is_other : IsOther other

-- a text is a comma and right after it another text
abbrev pub AfterComma : (List ℕ → Type 0) → List ℕ → Type 0
AfterComma IsOther text = Joined (IsTyped (codes ",")) IsOther text

-- what follows the last operand of a field: no column, or one blank column, or two blank columns
-- and any comment
abbrev pub IsEnd : List ℕ → Type 0
IsEnd rest = (rest ≡ []) ⊎ ((rest ≡ blank ∷ [])
    ⊎ ((comment : List ℕ) × (rest ≡ blank ∷ blank ∷ comment)))
