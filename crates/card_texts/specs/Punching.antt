-- a text taken as a deck
use Rattle.std.specs.Prelude.{ℕ, ◌≡◌, ◌≢◌, ⊤, ◌⊎◌, ◌+◌, ◌==◌, Bool, true, false, ◌&&◌, if◌then◌else◌, List, [], ◌∷◌, ◌++◌}
use Rattle.card_texts.specs.declared.rules.Rules.{Rules}
use Rattle.card_texts.specs.declared.rules.EmptyLine as line
use Rattle.card_texts.specs.declared.rules.EmptyLine.TheVariants as empty
use Rattle.card_texts.specs.declared.faults.TextError.TheVariants.{EmptyLine, TooManyCards}
use Rattle.card_texts.specs.declared.faults.TextFault.{TextFault}
use Rattle.std.specs.List.{list_all}
use Rattle.card_texts.specs.declared.punching.Line.{Line}
use Rattle.card_texts.specs.declared.punching.Taken.{Taken}
use Rattle.card_texts.specs.declared.punching.Unpunched.{Unpunched}
use Rattle.card_texts.specs.declared.punching.Unpunched.TheVariants.{NoMemory, Faults}
use Rattle.card_texts.specs.Lines.{lines_of}
use Rattle.card_texts.specs.Columns.{blank, filled_up}
use Rattle.card_texts.specs.Faults.{faults_within}

-- whether there is no fault
abbrev pub are_none : List TextFault → Bool
are_none [] = true
are_none (fault ∷ faults) = false

-- whether lines without a character are passed over
abbrev pub drops : line.EmptyLine → Bool
drops empty.Dropped = true
drops other = false

-- whether a line without a character is a fault
abbrev pub refuses : line.EmptyLine → Bool
refuses empty.Fault = true
refuses other = false

-- whether a line with these faults and columns has no character but blanks, and no fault
abbrev pub has_nothing : List TextFault → List ℕ → Bool
has_nothing faults columns = are_none faults && list_all (λ column. column == blank) columns

-- whether a line that was looked at is empty
abbrev pub is_empty_line : Line → Bool
is_empty_line l = has_nothing l.faults.items l.columns.items

-- whether a line is empty
abbrev pub is_empty : Rules → ℕ → List ℕ → Bool
is_empty rules number l = has_nothing (faults_within rules number l) (filled_up rules l)

-- the fault that a line is empty, if it is and that is one
abbrev pub empty_fault : line.EmptyLine → ℕ → Bool → List TextFault
empty_fault empty number is_empty = if refuses empty && is_empty
    then record { line = number; column = 1; error = EmptyLine } ∷ [] else []

-- whether a line is no card, since it is empty and such lines are passed over
abbrev pub is_passed_over : Rules → ℕ → List ℕ → Bool
is_passed_over rules number l = drops rules.empty && is_empty rules number l

-- the faults of a line
abbrev pub line_faults : Rules → ℕ → List ℕ → List TextFault
line_faults rules number l =
    faults_within rules number l ++ empty_fault rules.empty number (is_empty rules number l)

-- the faults of lines, from the line of this number on, after so many cards. After 2,000 cards the
-- next card is one, and the lines behind it are not looked at
unfoldable pub faults_of_lines : Rules → ℕ → ℕ → List (List ℕ) → List TextFault
faults_of_lines rules number cards [] = []
faults_of_lines rules number cards (l ∷ lines) =
    if is_passed_over rules number l then faults_of_lines rules (number + 1) cards lines
    else (if cards == 2000 then record { line = number; column = 1; error = TooManyCards } ∷ []
    else line_faults rules number l ++ faults_of_lines rules (number + 1) (cards + 1) lines)

-- the cards of lines, from the line of this number on, as a deck text has them: 80 glyphs and a line
-- feed each
unfoldable pub cards_of_lines : Rules → ℕ → List (List ℕ) → List ℕ
cards_of_lines rules number [] = []
cards_of_lines rules number (l ∷ lines) =
    if is_passed_over rules number l then cards_of_lines rules (number + 1) lines
    else (filled_up rules l ++ 10 ∷ []) ++ cards_of_lines rules (number + 1) lines

-- the faults of a text
abbrev pub faults_of : Rules → List ℕ → List TextFault
faults_of rules text = faults_of_lines rules 1 0 (lines_of text)

-- the deck text that a text without faults is taken as
abbrev pub deck_text_of : Rules → List ℕ → List ℕ
deck_text_of rules text = cards_of_lines rules 1 (lines_of text)

-- why a text is no deck: want of memory, or its faults
abbrev pub IsUnpunched : Rules → List ℕ → Unpunched → Type 0
IsUnpunched rules text NoMemory = ⊤
IsUnpunched rules text (Faults faults) = (faults.items ≡ faults_of rules text) × (faults.items ≢ [])

-- what was taken behind a line, where the lines behind it are to be looked at: its card and its
-- faults
pub record HasCard (rules : Rules) (number : ℕ) (l : Line) (before after : Taken) : Type 0 where
  pub room : before.cards ≢ 2000
  pub text : after.text.items ≡ before.text.items ++ (l.columns.items ++ 10 ∷ [])
  pub faults : after.faults.items
      ≡ before.faults.items ++ (l.faults.items ++ empty_fault rules.empty number (is_empty_line l))
  pub cards : after.cards ≡ before.cards + 1

-- what was taken behind a line that is one card more than a deck has
pub record IsFull (number : ℕ) (before after : Taken) : Type 0 where
  pub full : before.cards ≡ 2000
  pub faults : after.faults.items
      ≡ before.faults.items ++ record { line = number; column = 1; error = TooManyCards } ∷ []

-- a line was added, or is one more than a deck has
abbrev pub HasPushed : Rules → ℕ → Line → Taken → Taken → Bool → Type 0
HasPushed rules number l before after true = HasCard rules number l before after
HasPushed rules number l before after false = IsFull number before after

-- nothing was taken of a line that is passed over
pub record IsPassed (rules : Rules) (l : Line) (before after : Taken) : Type 0 where
  pub passed : (drops rules.empty && is_empty_line l) ≡ true
  pub text : after.text.items ≡ before.text.items
  pub faults : after.faults.items ≡ before.faults.items
  pub cards : after.cards ≡ before.cards

-- a line was taken, or passed over; or it is one more than a deck has
abbrev pub HasTaken : Rules → ℕ → Line → Taken → Taken → Bool → Type 0
HasTaken rules number l before after true = IsPassed rules l before after
    ⊎ (((drops rules.empty && is_empty_line l) ≡ false) × HasCard rules number l before after)
HasTaken rules number l before after false =
    ((drops rules.empty && is_empty_line l) ≡ false) × IsFull number before after
