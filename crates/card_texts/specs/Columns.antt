-- the columns of a card that a line fills, as glyphs
use Rattle.std.specs.Prelude.{ℕ, ◌+◌, ◌-◌, ◌==◌, nat_lt, Bool, true, false, ◌&&◌, if◌then◌else◌, List, [], ◌∷◌, ◌++◌, take, replicate, Option, Some, None}
use Rattle.card_texts.specs.declared.rules.Rules.{Rules}
use Rattle.card_texts.specs.Signs.{glyph_by}

-- the byte of a blank
abbrev pub blank : ℕ
blank = 32

-- the byte of a tab
abbrev pub tab : ℕ
tab = 9

-- how many columns are filled behind a tab after so many: it goes on at the first of these columns
-- that is past the next one, and behind the last of them it is a blank
unfoldable pub behind_tab : List ℕ → ℕ → ℕ
behind_tab [] filled = filled + 1
behind_tab (stop ∷ stops) filled =
    if nat_lt (filled + 1) stop then stop - 1 else behind_tab stops filled

-- whether there is a column at which tabs go on
abbrev pub spreads : List ℕ → Bool
spreads [] = false
spreads (stop ∷ stops) = true

-- whether a byte is a tab that goes on at a column
abbrev pub is_spread : Rules → ℕ → Bool
is_spread rules byte = byte == tab && spreads rules.tabs.items

-- how many columns are filled behind a byte after so many
abbrev pub behind : Rules → ℕ → ℕ → ℕ
behind rules filled byte =
    if is_spread rules byte then behind_tab rules.tabs.items filled else filled + 1

-- the columns that a byte fills after so many: the blanks of a tab, or its glyph
abbrev pub columns_of : Rules → ℕ → ℕ → List ℕ
columns_of rules filled byte =
    if is_spread rules byte then replicate (behind_tab rules.tabs.items filled - filled) blank
    else glyph_by rules.signs rules.folds byte ∷ []

-- the columns that bytes fill after so many
unfoldable pub columns_from : Rules → ℕ → List ℕ → List ℕ
columns_from rules filled [] = []
columns_from rules filled (byte ∷ rest) =
    columns_of rules filled byte ++ columns_from rules (behind rules filled byte) rest

-- the first of these columns, up to the last one that is looked at
abbrev pub kept_of : Option ℕ → List ℕ → List ℕ
kept_of None columns = columns
kept_of (Some last) columns = take last columns

-- the columns of a line that are looked at
abbrev pub columns_kept : Rules → List ℕ → List ℕ
columns_kept rules line = kept_of rules.keeps (columns_from rules 0 line)

-- the columns of a line's card: those that are looked at, and blanks up to 80
abbrev pub filled_up : Rules → List ℕ → List ℕ
filled_up rules line = take 80 (columns_kept rules line ++ replicate 80 blank)
