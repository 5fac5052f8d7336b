-- the words of a line
use Rattle.std.specs.Prelude.{ℕ, ◌≢◌, ◌≤◌, ◌==◌, List, [], ◌∷◌, All, if◌then◌else◌, length}

-- the byte between two words
abbrev pub blank : ℕ
blank = 32

-- the words with one more byte at the beginning of the first
abbrev pub in_front : ℕ → List (List ℕ) → List (List ℕ)
in_front byte [] = (byte ∷ []) ∷ []
in_front byte (word ∷ words) = (byte ∷ word) ∷ words

-- the words of a line: the bytes before, between and after its blanks
unfoldable pub words_of : List ℕ → List (List ℕ)
words_of [] = [] ∷ []
words_of (byte ∷ line) = if byte == blank then [] ∷ words_of line else in_front byte (words_of line)

-- no word is empty
abbrev pub AreWords : List (List ℕ) → Type 0
AreWords = All (λ word. word ≢ [])

-- a line has at most seven words, and none of them is empty
abbrev pub AreFewWords : List ℕ → Type 0
AreFewWords line = AreWords (words_of line) × (length (words_of line) ≤ 7)
