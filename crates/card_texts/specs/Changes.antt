-- what was done to the lines of a text that are taken as cards
use Rattle.std.specs.Prelude.{ℕ, ◌+◌, ◌==◌, nat_lt, Bool, true, ◌&&◌, if◌then◌else◌, List, [], ◌∷◌, ◌++◌, length, count_by}
use Rattle.std.specs.List.{list_all, list_any}
use Rattle.card_forms.specs.Signs.{is_small}
use Rattle.card_texts.specs.declared.rules.Rules.{Rules}
use Rattle.card_texts.specs.declared.rules.Signs.{Signs}
use Rattle.card_texts.specs.declared.rules.Signs.TheVariants.{Bureau, Simh}
use Rattle.card_texts.specs.declared.changing.Change.{Change}
use Rattle.card_texts.specs.Columns.{blank, columns_from, filled_up, is_spread}
use Rattle.card_texts.specs.Lines.{lines_of}
use Rattle.card_texts.specs.Punching.{is_passed_over}

-- whether small letters are capitals: among SimH's signs they are
abbrev pub folds_by : Signs → Bool → Bool
folds_by Bureau folds = folds
folds_by Simh folds = true

-- whether small letters are capitals by the rules
abbrev pub folds_any : Rules → Bool
folds_any rules = folds_by rules.signs rules.folds

-- how many bytes of a line are tabs that go on at a column
abbrev pub tabs_spread : Rules → List ℕ → ℕ
tabs_spread rules line = count_by (λ byte. is_spread rules byte) line

-- whether a line has small letters
abbrev pub has_small : List ℕ → Bool
has_small line = list_any (λ byte. is_small byte) line

-- what was done to the line of this number
abbrev pub change_of : Rules → ℕ → List ℕ → Change
change_of rules number line = record {
  line = number;
  tabs = tabs_spread rules line;
  folded = folds_any rules && has_small line;
  filled = nat_lt (length (columns_from rules 0 line)) 80;
  blank = list_all (λ column. column == blank) (filled_up rules line);
}

-- the same in a list, or none where the line is passed over
abbrev pub changes_in : Rules → ℕ → List ℕ → List Change
changes_in rules number line =
    if is_passed_over rules number line then [] else change_of rules number line ∷ []

-- what was done to lines, from the line of this number on
unfoldable pub changes_of_lines : Rules → ℕ → List (List ℕ) → List Change
changes_of_lines rules number [] = []
changes_of_lines rules number (line ∷ lines) =
    changes_in rules number line ++ changes_of_lines rules (number + 1) lines

-- what was done to the lines of a text
abbrev pub changes_of : Rules → List ℕ → List Change
changes_of rules text = changes_of_lines rules 1 (lines_of text)
