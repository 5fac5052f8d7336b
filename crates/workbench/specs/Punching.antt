-- the line that is printed of a text that was taken as a deck
use Rattle.std.specs.Prelude.{ℕ, ◌≡◌, ◌==◌, nat_lt, min, Bool, ◌&&◌, if◌then◌else◌, List, [], ◌∷◌, ◌++◌, codes, count_by, decimal, length}
use Rattle.std.specs.List.{sum_by}
use Rattle.card_texts.specs.declared.Change.{Change}
use Rattle.workbench.specs.declared.punching.Sum.{Sum}

-- whether the card of a line is blank, and the line had fewer than 80 columns
abbrev pub is_empty_line : Change → Bool
is_empty_line change = change.blank && change.filled

-- the tabs of lines, or the greatest number of 64 bits if they are more
abbrev pub tabs_of : List Change → ℕ
tabs_of changes = min (sum_by (λ change. change.tabs) changes) 0xffff_ffff_ffff_ffff

-- this is the sum of what was done to lines
pub record IsSum (changes : List Change) (done : Sum) : Type 0 where
  pub cards : done.cards ≡ length changes
  pub filled : done.filled ≡ count_by (λ change. change.filled) changes
  pub folded : done.folded ≡ count_by (λ change. change.folded) changes
  pub tabs : done.tabs ≡ tabs_of changes
  pub blank : done.blank ≡ count_by (λ change. change.blank) changes
  pub empty : done.empty ≡ count_by (λ change. is_empty_line change) changes

-- a word and a number behind a blank, unless the number is 0
abbrev pub count_told : List ℕ → ℕ → List ℕ
count_told word count = if count == 0 then [] else word ++ decimal count

-- the option that leaves out blank cards, where there are some and all of them were empty lines
abbrev pub empty_told : Sum → List ℕ
empty_told done = if nat_lt 0 done.blank && done.empty == done.blank
    then codes " (--empty drop)" else []

-- the option that leaves out the numbers in columns 73 to 80, where these rise
abbrev pub numbers_told : Bool → List ℕ
numbers_told rise = if rise then codes "; columns 73-80 hold rising numbers (--keep 72)" else []

-- the line: the counts, and behind them which options would leave out what may be no part of a deck
abbrev pub sum_line : Sum → Bool → List ℕ
sum_line done rise = codes "cards " ++ decimal done.cards
    ++ count_told (codes " filled ") done.filled ++ count_told (codes " folded ") done.folded
    ++ count_told (codes " tabs ") done.tabs ++ count_told (codes " blank ") done.blank
    ++ empty_told done ++ numbers_told rise ++ 10 ∷ []
