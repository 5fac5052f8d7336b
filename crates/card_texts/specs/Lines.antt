-- the lines of a text
use Rattle.std.specs.Prelude.{ℕ, ◌==◌, Bool, true, false, ◌&&◌, if◌then◌else◌, List, [], ◌∷◌, take, drop, bytes_eq}
use Rattle.std.specs.List.{list_all}

-- the bytes that some editors put at the front of a text
abbrev pub front_mark : List ℕ
front_mark = 239 ∷ 187 ∷ 191 ∷ []

-- a text without the mark at its front
abbrev pub without_front : List ℕ → List ℕ
without_front text = if bytes_eq (take 3 text) front_mark then drop 3 text else text

-- whether each of these is the byte by which some systems end a text
abbrev pub are_ends : List ℕ → Bool
are_ends bytes = list_all (λ byte. byte == 26) bytes

-- a text without the ends that stand behind it
unfoldable pub without_ends : List ℕ → List ℕ
without_ends [] = []
without_ends (byte ∷ rest) = if are_ends (byte ∷ rest) then [] else byte ∷ without_ends rest

-- the lines that begin with a byte, where these follow it
abbrev pub with_byte : ℕ → List (List ℕ) → List (List ℕ)
with_byte byte [] = (byte ∷ []) ∷ []
with_byte byte (line ∷ lines) = (byte ∷ line) ∷ lines

-- the lines of a text, or of what follows a carriage return. A line ends with a line feed, with a
-- carriage return, with both in this order, or with the text
unfoldable pub lines_from : Bool → List ℕ → List (List ℕ)
lines_from returned [] = []
lines_from returned (byte ∷ rest) = if byte == 10 && returned then lines_from false rest
    else (if byte == 10 then [] ∷ lines_from false rest
    else (if byte == 13 then [] ∷ lines_from true rest
    else with_byte byte (lines_from false rest)))

-- the lines of a text, without what stands before and behind it
abbrev pub lines_of : List ℕ → List (List ℕ)
lines_of text = lines_from false (without_ends (without_front text))
