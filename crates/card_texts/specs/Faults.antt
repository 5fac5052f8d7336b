-- what is wrong with the lines of a text
use Rattle.std.specs.Prelude.{ℕ, ◌+◌, ◌==◌, nat_lt, nat_le, Bool, true, false, ◌&&◌, ◌||◌, if◌then◌else◌, List, [], ◌∷◌, ◌++◌, slice_index_or, Option, Some, None}
use Rattle.std.specs.List.{list_all}
use Rattle.card_texts.specs.declared.rules.Rules.{Rules}
use Rattle.card_texts.specs.declared.faults.TextError.{TextError}
use Rattle.card_texts.specs.declared.faults.TextError.TheVariants.{NoCode, SmallLetter, Tab, PastTheCard, PunchLine}
use Rattle.card_texts.specs.declared.faults.TextFault.{TextFault}
use Rattle.card_texts.specs.declared.finding.Met.{Met}
use Rattle.card_forms.specs.PunchFiles.{is_punch_line}
use Rattle.card_forms.specs.Signs.{is_small}
use Rattle.card_texts.specs.Signs.{glyph_by, is_glyph}
use Rattle.card_texts.specs.Columns.{blank, tab, behind, is_spread}

-- nothing was met
abbrev pub nothing_met : Met
nothing_met = record { tab = false; small = false; inside = false }

-- whether a byte goes on with a character of several bytes
abbrev pub goes_on : ℕ → Bool
goes_on byte = nat_le 128 byte && nat_lt byte 192

-- the first four bytes, filled up with zeros
abbrev pub four_bytes : List ℕ → List ℕ
four_bytes bytes = slice_index_or bytes 0 0 ∷ slice_index_or bytes 1 0
    ∷ slice_index_or bytes 2 0 ∷ slice_index_or bytes 3 0 ∷ []

-- what is wrong with the first of these bytes, a character within the card
unfoldable pub error_within : Rules → ℕ → List ℕ → Option TextError
error_within rules byte rest = if is_spread rules byte then None
    else (if byte == tab then Some Tab
    else (if is_glyph (glyph_by rules.signs rules.folds byte) then None
    else (if is_small byte then Some SmallLetter
    else Some (NoCode (four_bytes (byte ∷ rest))))))

-- whether a fault is one of those that are told once in a line, and was told
abbrev pub is_told : Met → TextError → Bool
is_told met Tab = met.tab
is_told met SmallLetter = met.small
is_told met other = false

-- what was met behind a byte with this error
abbrev pub met_behind : Met → Option TextError → ℕ → Met
met_behind met (Some Tab) byte = record met { tab = true; inside = false }
met_behind met (Some SmallLetter) byte = record met { small = true; inside = false }
met_behind met other byte = record met { inside = nat_le 192 byte }

-- the fault of this line and column, unless it was told
abbrev pub told_of : ℕ → ℕ → Met → Option TextError → List TextFault
told_of number filled met None = []
told_of number filled met (Some error) = if is_told met error then []
    else record { line = number; column = filled + 1; error = error } ∷ []

-- whether a column behind so many is past the last one that is looked at
abbrev pub is_past : Option ℕ → ℕ → Bool
is_past None filled = false
is_past (Some last) filled = nat_le last filled

-- whether a byte goes on with the character of the byte before
abbrev pub is_inside : Met → ℕ → Bool
is_inside met byte = met.inside && goes_on byte

-- whether a byte leaves its columns blank
abbrev pub is_bare : Rules → ℕ → Bool
is_bare rules byte = is_spread rules byte || byte == blank

-- whether each of these bytes leaves its columns blank
abbrev pub are_bare : Rules → List ℕ → Bool
are_bare rules bytes = list_all (λ byte. is_bare rules byte) bytes

-- bytes up to the last one that does not leave its columns blank
unfoldable pub without_bare : Rules → List ℕ → List ℕ
without_bare rules [] = []
without_bare rules (byte ∷ rest) =
    if are_bare rules (byte ∷ rest) then [] else byte ∷ without_bare rules rest

-- how many columns are filled behind bytes, after so many: a character of several bytes fills one
unfoldable pub columns_behind : Rules → ℕ → Bool → List ℕ → ℕ
columns_behind rules filled inside [] = filled
columns_behind rules filled inside (byte ∷ rest) =
    if inside && goes_on byte then columns_behind rules filled inside rest
    else columns_behind rules (behind rules filled byte) (nat_le 192 byte) rest

-- how many columns a line has without the blanks at its end, where these bytes stand behind so many
abbrev pub width_behind : Rules → ℕ → List ℕ → ℕ
width_behind rules filled bytes = columns_behind rules filled false (without_bare rules bytes)

-- the faults of a line's bytes after so many columns, in order: columns that are not looked at have
-- none, and behind the card there is one, at the first character that is not blank, with the width
-- of the line
unfoldable pub faults_from : Rules → ℕ → ℕ → Met → List ℕ → List TextFault
faults_from rules number filled met [] = []
faults_from rules number filled met (byte ∷ rest) =
    if is_past rules.keeps filled then []
    else (if is_inside met byte then faults_from rules number filled met rest
    else (if nat_lt filled 80
    then told_of number filled met (error_within rules byte rest)
    ++ faults_from rules number (behind rules filled byte)
    (met_behind met (error_within rules byte rest) byte) rest
    else (if is_bare rules byte
    then faults_from rules number (behind rules filled byte) met rest
    else record {
      line = number;
      column = filled + 1;
      error = PastTheCard (width_behind rules filled (byte ∷ rest));
    } ∷ [])))

-- the faults of a line: that it is one of a punch file, or else those of its characters
abbrev pub faults_within : Rules → ℕ → List ℕ → List TextFault
faults_within rules number line =
    if is_punch_line line then record { line = number; column = 1; error = PunchLine } ∷ []
    else faults_from rules number 0 nothing_met line
