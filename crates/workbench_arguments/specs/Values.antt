-- the values of the subcommands' arguments, as texts
use Rattle.std.specs.Prelude.{ℕ, ◌≡◌, ◌<◌, ◌≤◌, ◌^◌, nat_lt, nat_le, Bool, true, false, ◌&&◌, List, [], ◌∷◌, ◌++◌, codes, decimal, flat_map}
use Rattle.card_texts.specs.declared.Signs.{Signs}
use Rattle.card_texts.specs.declared.Signs.TheVariants.{Bureau, Simh}
use Rattle.card_texts.specs.declared.EmptyLine as line
use Rattle.card_texts.specs.declared.EmptyLine.TheVariants as empty

-- the text is that of a number of 1 to 9 digits, without a zero in front
abbrev pub IsNumeral : List ℕ → ℕ → Type 0
IsNumeral text number = (0 < number) × (number < 10 ^ 9) × (text ≡ decimal number)

-- the same, or 0 alone
abbrev pub IsCount : List ℕ → ℕ → Type 0
IsCount text number = (number < 10 ^ 9) × (text ≡ decimal number)

-- the text is that of a column of a card, 1 to 80
abbrev pub IsColumn : List ℕ → ℕ → Type 0
IsColumn text column = (0 < column) × (column ≤ 80) × (text ≡ decimal column)

-- whether columns rise from behind this one, and end at 80 at most
unfoldable pub rises : ℕ → List ℕ → Bool
rises last [] = true
rises last (stop ∷ stops) = (nat_lt last stop && nat_le stop 80) && rises stop stops

-- columns in decimal, each with a comma behind it
abbrev pub stops_text : List ℕ → List ℕ
stops_text stops = flat_map (λ stop. decimal stop ++ 44 ∷ []) stops

-- the text names these columns with commas between them; they rise, from 2 to 80
pub record AreStops (text : List ℕ) (stops : List ℕ) : Type 0 where
  pub rise : rises 1 stops ≡ true
  pub named : stops_text stops ≡ text ++ 44 ∷ []

-- the name of a table of signs
abbrev pub word_of_signs : Signs → List ℕ
word_of_signs Bureau = codes "glyphs"
word_of_signs Simh = codes "simh"

-- the name of what an empty line is
abbrev pub word_of_empty : line.EmptyLine → List ℕ
word_of_empty empty.Card = codes "card"
word_of_empty empty.Dropped = codes "drop"
word_of_empty empty.Fault = codes "fault"

-- the columns of the narrow listing of a source, or of the wide one
abbrev pub word_of_width : Bool → List ℕ
word_of_width true = codes "80"
word_of_width false = codes "120"
