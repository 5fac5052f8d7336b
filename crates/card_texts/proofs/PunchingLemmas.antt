-- lines taken one by one
use Rattle.std.proofs.Common.{rules, arith, refl, sym, ap, ◌∙◌, ◌≡◌, ◌≢◌, ◌+◌, ℕ, ◌==◌, ◌&&◌, if◌then◌else◌, Bool, true, false, List, [], ◌∷◌, ◌++◌, append_assoc, inl, inr, ◌≤◌, length, length-append}
use Rattle.std.specs.List.{list_all}
use Rattle.card_texts.specs.Lines.{lines_from}
use Rattle.card_texts.specs.declared.rules.Rules.{Rules}
use Rattle.card_texts.specs.declared.faults.TextError.TheVariants.{EmptyLine, TooManyCards}
use Rattle.card_texts.specs.declared.faults.TextFault.{TextFault}
use Rattle.card_texts.specs.declared.punching.Line.{Line}
use Rattle.card_texts.specs.declared.punching.Taken.{Taken}
use Rattle.card_texts.specs.Columns.{blank, filled_up}
use Rattle.card_texts.specs.Faults.{faults_within}
use Rattle.card_texts.specs.Punching.{are_none, drops, empty_fault, is_empty_line, is_passed_over, refuses, line_faults, faults_of_lines, cards_of_lines, HasTaken}

-- the second of two values by a test
later : (a : Bool) (x y : List TextFault) → a ≡ false → (if a then x else y) ≡ y
later a x y is = ap (λ t. if t then x else y) is

earlier : (a : Bool) (x y : List TextFault) → a ≡ true → (if a then x else y) ≡ x
earlier a x y is = ap (λ t. if t then x else y) is

later_text : (a : Bool) (x y : List ℕ) → a ≡ false → (if a then x else y) ≡ y
later_text a x y is = ap (λ t. if t then x else y) is

earlier_text : (a : Bool) (x y : List ℕ) → a ≡ true → (if a then x else y) ≡ x
earlier_text a x y is = ap (λ t. if t then x else y) is

-- equal numbers, and numbers that differ
equal : (m n : ℕ) → m ≡ n → (m == n) ≡ true
equal m n same = grind (arith, same)

unequal : (m n : ℕ) → m ≢ n → (m == n) ≡ false
unequal m n other = grind (arith, other)

-- a line that is passed over has no faults
pub passed_faults : (rules : Rules) (number cards : ℕ) (l : List ℕ) (lines : List (List ℕ))
    → is_passed_over rules number l ≡ true
    → faults_of_lines rules number cards (l ∷ lines)
    ≡ faults_of_lines rules (number + 1) cards lines
unfolding faults_of_lines
passed_faults rules number cards l lines passed = earlier (is_passed_over rules number l) _ _ passed

-- and no card
pub passed_cards : (rules : Rules) (number : ℕ) (l : List ℕ) (lines : List (List ℕ))
    → is_passed_over rules number l ≡ true
    → cards_of_lines rules number (l ∷ lines) ≡ cards_of_lines rules (number + 1) lines
unfolding cards_of_lines
passed_cards rules number l lines passed = earlier_text (is_passed_over rules number l) _ _ passed

-- a line that is one card more than a deck has is the last fault
pub full_faults : (rules : Rules) (number cards : ℕ) (l : List ℕ) (lines : List (List ℕ))
    → is_passed_over rules number l ≡ false → cards ≡ 2000
    → faults_of_lines rules number cards (l ∷ lines)
    ≡ record { line = number; column = 1; error = TooManyCards } ∷ []
unfolding faults_of_lines
full_faults rules number cards l lines card full =
    later (is_passed_over rules number l) _ _ card
    ∙ earlier (cards == 2000) _ _ (equal cards 2000 full)

-- a line that is a card has its faults
pub card_faults : (rules : Rules) (number cards : ℕ) (l : List ℕ) (lines : List (List ℕ))
    → is_passed_over rules number l ≡ false → cards ≢ 2000
    → faults_of_lines rules number cards (l ∷ lines)
    ≡ line_faults rules number l ++ faults_of_lines rules (number + 1) (cards + 1) lines
unfolding faults_of_lines
card_faults rules number cards l lines card room =
    later (is_passed_over rules number l) _ _ card
    ∙ later (cards == 2000) _ _ (unequal cards 2000 room)

-- and is its 80 columns and a line feed
pub card_cards : (rules : Rules) (number : ℕ) (l : List ℕ) (lines : List (List ℕ))
    → is_passed_over rules number l ≡ false
    → cards_of_lines rules number (l ∷ lines)
    ≡ (filled_up rules l ++ 10 ∷ []) ++ cards_of_lines rules (number + 1) lines
unfolding cards_of_lines
card_cards rules number l lines card = later_text (is_passed_over rules number l) _ _ card

-- a line that was looked at: its columns and its faults
pub record IsLooked (rules : Rules) (number : ℕ) (bytes : List ℕ) (l : Line) : Type 0 where
  pub columns : l.columns.items ≡ filled_up rules bytes
  pub faults : l.faults.items ≡ faults_within rules number bytes

-- whether it is passed over
pub looked_passed : (rules : Rules) (number : ℕ) (bytes : List ℕ) (l : Line)
    → IsLooked rules number bytes l
    → is_passed_over rules number bytes ≡ (drops rules.empty && is_empty_line l)
looked_passed rules number bytes l looked = sym
    (ap (λ columns. drops rules.empty && (are_none l.faults.items && list_all (λ column. column == blank) columns)) looked.columns
    ∙ ap (λ faults. drops rules.empty && (are_none faults && list_all (λ column. column == blank) (filled_up rules bytes))) looked.faults)

-- its faults
pub looked_faults : (rules : Rules) (number : ℕ) (bytes : List ℕ) (l : Line)
    → IsLooked rules number bytes l
    → l.faults.items ++ empty_fault rules.empty number (is_empty_line l) ≡ line_faults rules number bytes
looked_faults rules number bytes l looked =
    ap (λ columns. l.faults.items ++ (if refuses rules.empty && (are_none l.faults.items && list_all (λ column. column == blank) columns)
    then record { line = number; column = 1; error = EmptyLine } ∷ [] else [])) looked.columns
    ∙ ap (λ faults. faults ++ (if refuses rules.empty && (are_none faults && list_all (λ column. column == blank) (filled_up rules bytes))
    then record { line = number; column = 1; error = EmptyLine } ∷ [] else [])) looked.faults

-- the faults of a text after one line more
pub faults_step : (rules : Rules) (number : ℕ) (bytes rest behind : List ℕ) (l : Line)
    (before after : Taken) (found : List TextFault)
    → IsLooked rules number bytes l
    → lines_from false rest ≡ bytes ∷ lines_from false behind
    → HasTaken rules number l before after true
    → before.faults.items ++ faults_of_lines rules number before.cards (lines_from false rest) ≡ found
    → after.faults.items ++ faults_of_lines rules (number + 1) after.cards (lines_from false behind) ≡ found
faults_step rules number bytes rest behind l before after found looked split taken known =
    let lines : List (List ℕ) = lines_from false behind in
    let same = looked_passed rules number bytes l looked in
    elim taken [
      | inl passed ↦
          let step : faults_of_lines rules number before.cards (lines_from false rest)
          ≡ faults_of_lines rules (number + 1) before.cards lines =
          ap (faults_of_lines rules number before.cards) split
          ∙ passed_faults rules number before.cards bytes lines (same ∙ passed.passed) in
          ap (λ faults. faults ++ faults_of_lines rules (number + 1) after.cards lines) passed.faults
          ∙ ap (λ cards. before.faults.items ++ faults_of_lines rules (number + 1) cards lines) passed.cards
          ∙ ap (λ faults. before.faults.items ++ faults) (sym step)
          ∙ known
      | inr card ↦
          let step : faults_of_lines rules number before.cards (lines_from false rest)
          ≡ line_faults rules number bytes ++ faults_of_lines rules (number + 1) (before.cards + 1) lines =
          ap (faults_of_lines rules number before.cards) split
          ∙ card_faults rules number before.cards bytes lines (same ∙ card.0) card.1.room in
          let own : List TextFault = l.faults.items ++ empty_fault rules.empty number (is_empty_line l) in
          let later : List TextFault = faults_of_lines rules (number + 1) (before.cards + 1) lines in
          ap (λ faults. faults ++ faults_of_lines rules (number + 1) after.cards lines) card.1.faults
          ∙ ap (λ cards. (before.faults.items ++ own) ++ faults_of_lines rules (number + 1) cards lines) card.1.cards
          ∙ append_assoc before.faults.items own later
          ∙ ap (λ faults. before.faults.items ++ (faults ++ later)) (looked_faults rules number bytes l looked)
          ∙ ap (λ faults. before.faults.items ++ faults) (sym step)
          ∙ known
    ]

-- its cards
pub cards_step : (rules : Rules) (number : ℕ) (bytes rest behind : List ℕ) (l : Line)
    (before after : Taken) (text : List ℕ)
    → IsLooked rules number bytes l
    → lines_from false rest ≡ bytes ∷ lines_from false behind
    → HasTaken rules number l before after true
    → before.text.items ++ cards_of_lines rules number (lines_from false rest) ≡ text
    → after.text.items ++ cards_of_lines rules (number + 1) (lines_from false behind) ≡ text
cards_step rules number bytes rest behind l before after text looked split taken known =
    let lines : List (List ℕ) = lines_from false behind in
    let same = looked_passed rules number bytes l looked in
    let later : List ℕ = cards_of_lines rules (number + 1) lines in
    elim taken [
      | inl passed ↦
          let step : cards_of_lines rules number (lines_from false rest) ≡ later =
          ap (cards_of_lines rules number) split
          ∙ passed_cards rules number bytes lines (same ∙ passed.passed) in
          ap (λ cards. cards ++ later) passed.text
          ∙ ap (λ cards. before.text.items ++ cards) (sym step)
          ∙ known
      | inr card ↦
          let step : cards_of_lines rules number (lines_from false rest)
          ≡ (filled_up rules bytes ++ 10 ∷ []) ++ later =
          ap (cards_of_lines rules number) split
          ∙ card_cards rules number bytes lines (same ∙ card.0) in
          ap (λ cards. cards ++ later) card.1.text
          ∙ append_assoc before.text.items (l.columns.items ++ 10 ∷ []) later
          ∙ ap (λ columns. before.text.items ++ ((columns ++ 10 ∷ []) ++ later)) looked.columns
          ∙ ap (λ cards. before.text.items ++ cards) (sym step)
          ∙ known
    ]

-- the faults of a text whose deck is full
pub full_step : (rules : Rules) (number : ℕ) (bytes rest behind : List ℕ) (l : Line)
    (before after : Taken) (found : List TextFault)
    → IsLooked rules number bytes l
    → lines_from false rest ≡ bytes ∷ lines_from false behind
    → HasTaken rules number l before after false
    → before.faults.items ++ faults_of_lines rules number before.cards (lines_from false rest) ≡ found
    → after.faults.items ≡ found
full_step rules number bytes rest behind l before after found looked split taken known =
    let same = looked_passed rules number bytes l looked in
    taken.1.faults
    ∙ ap (λ faults. before.faults.items ++ faults)
    (sym (ap (faults_of_lines rules number before.cards) split
    ∙ full_faults rules number before.cards bytes (lines_from false behind) (same ∙ taken.0) taken.1.full))
    ∙ known

-- a deck that was not full has room for the next card
pub room_step : (rules : Rules) (number : ℕ) (l : Line) (before after : Taken)
    → HasTaken rules number l before after true → before.cards ≤ 2000 → after.cards ≤ 2000
room_step rules number l before after taken room =
    elim taken [
      | inl passed ↦ omega (arith, passed.cards, room)
      | inr card ↦ omega (arith, card.1.cards, card.1.room, room)
    ]

-- where a fault was added there is one
pub some_fault : (before after found : List TextFault) (fault : TextFault)
    → after ≡ before ++ fault ∷ [] → after ≡ found → found ≡ [] → ⊥
some_fault before after found fault added same none =
    omega (arith, ap (λ faults. length faults) added, ap (λ faults. length faults) same, ap (λ faults. length faults) none, length-append before (fault ∷ []))

-- a number that is tested to be 0
pub is_zero : (n : ℕ) → true ≡ (n == 0) → n ≡ 0
is_zero n same = grind (arith, same)

-- no bytes have no lines
pub no_lines : (rest : List ℕ) → length rest ≡ 0 → lines_from false rest ≡ []
unfolding lines_from
no_lines [] none = refl
no_lines (byte ∷ rest) none = absurd (omega (arith, none))
