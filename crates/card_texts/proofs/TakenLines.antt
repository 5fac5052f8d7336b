-- the cards that lines are taken as, and lines that are such cards
use Rattle.std.proofs.Common.{rules, arith, refl, sym, ap, subst, ◌∙◌, ◌≡◌, ◌≢◌, ◌≤◌, ◌+◌, ◌-◌, ◌==◌, ℕ, Bool, true, false, ◌&&◌, if◌then◌else◌, List, [], ◌∷◌, ◌++◌, length, take, replicate, zero, suc, inl, inr, Option, Some, None}
use Rattle.std.specs.List.{list_all}
use Rattle.std.proofs.lemmas.Bool.{cases_Bool}
use Rattle.std.proofs.lemmas.List.{length-take, length-append, length-replicate, take-append-le}
use Rattle.card_forms.specs.PunchFiles.{is_punch_line}
use Rattle.card_texts.specs.declared.rules.Rules.{Rules}
use Rattle.card_texts.specs.declared.rules.Signs.TheVariants.{Bureau}
use Rattle.card_texts.specs.declared.rules.EmptyLine as line
use Rattle.card_texts.specs.declared.faults.TextError.TheVariants.{EmptyLine, PunchLine}
use Rattle.card_texts.specs.declared.faults.TextFault.{TextFault}
use Rattle.card_texts.specs.Columns.{blank, columns_from, filled_up, kept_of}
use Rattle.card_texts.specs.Faults.{faults_from, faults_within, nothing_met}
use Rattle.card_texts.specs.DeckTexts.{in_glyphs}
use Rattle.card_texts.specs.Punching.{cards_of_lines, drops, empty_fault, faults_of_lines, is_empty, is_passed_over, line_faults, refuses}
use Rattle.card_texts.proofs.ColumnLemmas.{filled_to_80}
use Rattle.card_texts.proofs.GlyphLemmas.{take_twice}
use Rattle.card_texts.proofs.FaultlessColumns.{filled_glyphs, filled_length, none_of_both}
use Rattle.card_texts.proofs.CardLines.{AreCardLines, IsCardLine, glyphs_faultless, glyphs_spread, text_of_lines}

-- no column is other than blank
abbrev pub is_blank : List ℕ → Bool
is_blank columns = list_all (λ column. column == blank) columns

-- a line is a card by these rules as it stands
pub record IsSettled (rules : Rules) (line : List ℕ) : Type 0 where
  pub card : IsCardLine line
  pub kept : filled_up rules line ≡ line
  pub passed : (drops rules.empty && is_blank line) ≡ false
  pub refused : (refuses rules.empty && is_blank line) ≡ false

-- each line is
abbrev pub AreSettled : Rules → List (List ℕ) → Type 0
AreSettled rules [] = Unit {0}
AreSettled rules (line ∷ lines) = IsSettled rules line × AreSettled rules lines

pub settled_cards : (rules : Rules) (lines : List (List ℕ)) → AreSettled rules lines → AreCardLines lines
settled_cards rules [] all = tt
settled_cards rules (line ∷ lines) all = (all.0.card, settled_cards rules lines all.1)

-- ---- lines that are settled

-- a line of 80 columns is none of a punch file
no_punch_line : (line : List ℕ) → length line ≡ 80 → is_punch_line line ≡ false
no_punch_line line columns = rw columns refl

no_faults : (rules : Rules) (number : ℕ) (line : List ℕ) → rules.signs ≡ Bureau → IsSettled rules line
    → faults_within rules number line ≡ []
no_faults rules number line signs is =
    ap (λ test. if test then record { line = number; column = 1; error = PunchLine } ∷ [] else faults_from rules number 0 nothing_met line)
    (no_punch_line line is.card.columns)
    ∙ glyphs_faultless rules number 0 line signs is.card.glyphs (omega (arith, is.card.columns))

nothing_in : (rules : Rules) (number : ℕ) (line : List ℕ) → rules.signs ≡ Bureau → IsSettled rules line
    → is_empty rules number line ≡ is_blank line
nothing_in rules number line signs is = rw (no_faults rules number line signs is) (rw is.kept refl)

taken_whole : (rules : Rules) (number : ℕ) (line : List ℕ) → rules.signs ≡ Bureau → IsSettled rules line
    → is_passed_over rules number line ≡ false
taken_whole rules number line signs is =
    ap (λ nothing. drops rules.empty && nothing) (nothing_in rules number line signs is) ∙ is.passed

no_empty_fault : (e : line.EmptyLine) (number : ℕ) (nothing : Bool) → (refuses e && nothing) ≡ false
    → empty_fault e number nothing ≡ []
no_empty_fault e number nothing refused = rw refused refl

without_faults : (rules : Rules) (number : ℕ) (line : List ℕ) → rules.signs ≡ Bureau → IsSettled rules line
    → line_faults rules number line ≡ []
without_faults rules number line signs is =
    ap (λ faults. faults ++ empty_fault rules.empty number (is_empty rules number line)) (no_faults rules number line signs is)
    ∙ ap (λ nothing. empty_fault rules.empty number nothing) (nothing_in rules number line signs is)
    ∙ no_empty_fault rules.empty number (is_blank line) is.refused

-- so many cards are fewer than a deck's
room : (cards more : ℕ) → cards + suc more ≤ 2000 → (cards == 2000) ≡ false
room cards more fits = grind (arith, fits)

pub settled_faultless : (rules : Rules) (number cards : ℕ) (lines : List (List ℕ)) → rules.signs ≡ Bureau
    → AreSettled rules lines → cards + length lines ≤ 2000
    → faults_of_lines rules number cards lines ≡ []
unfolding faults_of_lines
settled_faultless rules number cards [] signs all fits = refl
settled_faultless rules number cards (line ∷ lines) signs all fits =
    rw (taken_whole rules number line signs all.0)
    (rw (room cards (length lines) fits)
    (rw (without_faults rules number line signs all.0)
    (settled_faultless rules (number + 1) (cards + 1) lines signs all.1 (omega (arith, fits)))))

pub settled_same : (rules : Rules) (number : ℕ) (lines : List (List ℕ)) → rules.signs ≡ Bureau
    → AreSettled rules lines → cards_of_lines rules number lines ≡ text_of_lines lines
unfolding cards_of_lines
settled_same rules number [] signs all = refl
settled_same rules number (line ∷ lines) signs all =
    rw (taken_whole rules number line signs all.0)
    (rw all.0.kept
    (ap (λ rest. (line ++ 10 ∷ []) ++ rest) (settled_same rules (number + 1) lines signs all.1)))

-- ---- what lines are taken as

-- the cards that lines are taken as
unfoldable pub taken_lines : Rules → ℕ → List (List ℕ) → List (List ℕ)
taken_lines rules number [] = []
taken_lines rules number (line ∷ lines) =
    if is_passed_over rules number line then taken_lines rules (number + 1) lines
    else filled_up rules line ∷ taken_lines rules (number + 1) lines

chosen : (test : Bool) (before : List ℕ) (line : List ℕ) (lines more : List (List ℕ))
    → (if test then text_of_lines lines else (line ++ 10 ∷ []) ++ text_of_lines more)
    ≡ text_of_lines (if test then lines else line ∷ more)
chosen true before line lines more = refl
chosen false before line lines more = refl

pub cards_taken : (rules : Rules) (number : ℕ) (lines : List (List ℕ))
    → cards_of_lines rules number lines ≡ text_of_lines (taken_lines rules number lines)
unfolding cards_of_lines taken_lines
cards_taken rules number [] = refl
cards_taken rules number (line ∷ lines) =
    ap (λ rest. if is_passed_over rules number line then rest else (filled_up rules line ++ 10 ∷ []) ++ rest) (cards_taken rules (number + 1) lines)
    ∙ chosen (is_passed_over rules number line) [] (filled_up rules line) (taken_lines rules (number + 1) lines) (taken_lines rules (number + 1) lines)

-- columns that are cut and filled up, cut and filled up again
abbrev filled : ℕ → List ℕ → List ℕ
filled n xs = take n xs ++ replicate (n - length xs) blank

none_filled : (n : ℕ) → replicate (zero - n) blank ≡ []
none_filled n = let none : zero - n ≡ zero = omega arith in rw none refl

filled_none : (n : ℕ) → filled n [] ≡ replicate n blank
filled_none zero = refl
filled_none (suc n) = let all : suc n - zero ≡ suc n = omega arith in rw all refl

filled_cons : (n x : ℕ) (xs : List ℕ) → filled (suc n) (x ∷ xs) ≡ x ∷ filled n xs
filled_cons n x xs = let less : suc n - suc (length xs) ≡ n - length xs = omega arith in rw less refl

all_blank : (n k : ℕ) → filled n (take k (replicate n blank)) ≡ replicate n blank
all_blank zero k = none_filled (length (take k (replicate zero blank)))
all_blank (suc n) zero = filled_none (suc n)
all_blank (suc n) (suc k) =
    filled_cons n blank (take k (replicate n blank)) ∙ ap (λ xs. blank ∷ xs) (all_blank n k)

filled_twice : (n k : ℕ) (xs : List ℕ) → filled n (take k (filled n (take k xs))) ≡ filled n (take k xs)
filled_twice zero k xs =
    none_filled (length (take k (filled zero (take k xs)))) ∙ sym (none_filled (length (take k xs)))
filled_twice (suc n) zero xs = refl
filled_twice (suc n) (suc k) [] =
    ap (λ xs. filled (suc n) (take (suc k) xs)) (filled_none (suc n))
    ∙ all_blank (suc n) (suc k) ∙ sym (filled_none (suc n))
filled_twice (suc n) (suc k) (x ∷ xs) =
    ap (λ ys. filled (suc n) (take (suc k) ys)) (filled_cons n x (take k xs))
    ∙ filled_cons n x (take k (filled n (take k xs)))
    ∙ ap (λ ys. x ∷ ys) (filled_twice n k xs) ∙ sym (filled_cons n x (take k xs))

long_enough : (columns : List ℕ) → 80 ≤ length (take 80 (columns ++ replicate 80 blank))
long_enough columns =
    omega (arith, length-take 80 (columns ++ replicate 80 blank), length-append columns (replicate 80 blank), length-replicate 80 blank)

kept_twice : (keeps : Option ℕ) (columns : List ℕ)
    → take 80 (kept_of keeps (take 80 (kept_of keeps columns ++ replicate 80 blank)) ++ replicate 80 blank)
    ≡ take 80 (kept_of keeps columns ++ replicate 80 blank)
kept_twice None columns =
    take-append-le 80 (take 80 (columns ++ replicate 80 blank)) (replicate 80 blank) (long_enough columns)
    ∙ take_twice 80 80 (columns ++ replicate 80 blank)
kept_twice (Some last) columns =
    sym (filled_to_80 (take last (take 80 (take last columns ++ replicate 80 blank))))
    ∙ ap (λ xs. filled 80 (take last xs)) (sym (filled_to_80 (take last columns)))
    ∙ filled_twice 80 last columns ∙ filled_to_80 (take last columns)

refilled : (rules : Rules) (number : ℕ) (line : List ℕ) → faults_within rules number line ≡ []
    → filled_up (in_glyphs rules) (filled_up rules line) ≡ filled_up rules line
refilled rules number line none =
    ap (λ columns. take 80 (kept_of rules.keeps columns ++ replicate 80 blank))
    (glyphs_spread (in_glyphs rules) 0 (filled_up rules line) refl (filled_glyphs rules number line none))
    ∙ kept_twice rules.keeps (columns_from rules 0 line)

not_refused : (b : Bool) (number : ℕ) → (if b then (let f : TextFault = record { line = number; column = 1; error = EmptyLine } in f ∷ []) else []) ≡ []
    → b ≡ false
not_refused true number none = absurd (omega (arith, ap (λ faults. length faults) none))
not_refused false number none = refl

-- what holds of a line that is taken without faults
taken_line : (rules : Rules) (number : ℕ) (line : List ℕ) → is_passed_over rules number line ≡ false
    → line_faults rules number line ≡ [] → IsSettled (in_glyphs rules) (filled_up rules line)
taken_line rules number line passed none =
    let parts = none_of_both (faults_within rules number line) (empty_fault rules.empty number (is_empty rules number line)) none in
    let nothing : is_empty rules number line ≡ is_blank (filled_up rules line) = rw parts.0 refl in
    record {
      card = record { glyphs = filled_glyphs rules number line parts.0; columns = filled_length rules line };
      kept = refilled rules number line parts.0;
      passed = subst (λ b. (drops rules.empty && b) ≡ false) nothing passed;
      refused = subst (λ b. (refuses rules.empty && b) ≡ false) nothing (not_refused (refuses rules.empty && is_empty rules number line) number parts.1);
    }

-- what is taken without faults are settled cards, at most 2,000 with those before
pub record AreTaken (rules : Rules) (cards : ℕ) (lines : List (List ℕ)) : Type 0 where
  pub settled : AreSettled (in_glyphs rules) lines
  pub fits : cards + length lines ≤ 2000

-- what is none of two by a test
passed_on : (b : Bool) (xs ys : List TextFault) → b ≡ true → (if b then xs else ys) ≡ [] → xs ≡ []
passed_on true xs ys is none = none
passed_on false xs ys is none = absurd (cc)

taken_on : (b : Bool) (xs ys : List TextFault) → b ≡ false → (if b then xs else ys) ≡ [] → ys ≡ []
taken_on true xs ys is none = absurd (cc)
taken_on false xs ys is none = none

some_fault : (fault : TextFault) → fault ∷ [] ≢ []
some_fault fault none = omega (arith, ap (λ faults. length faults) none)

pub lines_taken : (rules : Rules) (number cards : ℕ) (lines : List (List ℕ)) → cards ≤ 2000
    → faults_of_lines rules number cards lines ≡ []
    → AreTaken rules cards (taken_lines rules number lines)
unfolding faults_of_lines taken_lines
lines_taken rules number cards [] within none = record { settled = tt; fits = omega (arith, within) }
lines_taken rules number cards (line ∷ lines) within none =
    let rest : List TextFault = faults_of_lines rules (number + 1) (cards + 1) lines in
    elim (cases_Bool (is_passed_over rules number line)) [
      | inl passed ↦
          let later = passed_on (is_passed_over rules number line) _ _ passed none in
          rw passed (lines_taken rules (number + 1) cards lines within later)
      | inr taken ↦ elim (cases_Bool (cards == 2000)) [
        | inl full ↦ absurd (some_fault _ (passed_on (cards == 2000) _ _ full (taken_on (is_passed_over rules number line) _ _ taken none)))
        | inr more ↦
            let own = taken_on (cards == 2000) _ _ more (taken_on (is_passed_over rules number line) _ _ taken none) in
            let parts = none_of_both (line_faults rules number line) rest own in
            let next : cards + 1 ≤ 2000 = grind (arith, within, more) in
            let later = lines_taken rules (number + 1) (cards + 1) lines next parts.1 in
            rw taken (record {
              settled = (taken_line rules number line taken parts.0, later.settled);
              fits = omega (arith, later.fits);
            })
      ]
    ]
