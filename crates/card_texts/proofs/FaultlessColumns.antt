-- the columns of a line without faults are glyphs
use Rattle.std.proofs.Common.{rules, arith, refl, ap, subst, ◌∙◌, ◌≡◌, ◌≢◌, ◌<◌, ◌≤◌, ◌+◌, ◌-◌, ◌==◌, ℕ, nat_le, nat_lt, min, Bool, true, false, ◌&&◌, if◌then◌else◌, List, [], ◌∷◌, ◌++◌, length, take, replicate, zero, inl, inr, Option, Some, None, length-append}
use Rattle.std.proofs.lemmas.Bool.{cases_Bool}
use Rattle.std.proofs.lemmas.List.{length-take, length-replicate}
use Rattle.card_texts.specs.declared.rules.Rules.{Rules}
use Rattle.card_texts.specs.declared.faults.TextError.{TextError}
use Rattle.card_texts.specs.declared.faults.TextError.TheVariants.{NoCode, SmallLetter, Tab, PastTheCard, PunchLine, EmptyLine, TooManyCards}
use Rattle.card_texts.specs.declared.faults.TextFault.{TextFault}
use Rattle.card_texts.specs.declared.finding.Met.{Met}
use Rattle.card_forms.specs.PunchFiles.{is_punch_line}
use Rattle.card_forms.specs.Signs.{is_small}
use Rattle.card_texts.specs.Signs.{glyph_by, is_glyph}
use Rattle.card_texts.specs.Columns.{blank, tab, behind, behind_tab, columns_from, columns_kept, columns_of, filled_up, is_spread, kept_of, spreads}
use Rattle.card_texts.specs.Faults.{error_within, faults_from, faults_within, four_bytes, is_past, met_behind, nothing_met, told_of}
use Rattle.card_texts.proofs.ColumnLemmas.{length_of_columns}
use Rattle.card_texts.proofs.FaultLemmas.{within_step}
use Rattle.card_texts.proofs.GlyphLemmas.{are_glyphs, blanks_are_glyphs, both, first_are_glyphs, glyph_alone, joined_are_glyphs, take_joined, take_twice}

-- the columns of a card that are looked at
abbrev pub looked_at : Option ℕ → ℕ
looked_at None = 80
looked_at (Some last) = min 80 last

-- no column behind the last one is looked at
past_all : (keeps : Option ℕ) (filled : ℕ) → is_past keeps filled ≡ true → looked_at keeps ≤ filled
past_all None filled past = absurd (cc)
past_all (Some last) filled past = grind (arith, past)

within_80 : (keeps : Option ℕ) → looked_at keeps ≤ 80
within_80 None = omega arith
within_80 (Some last) = omega arith

-- where nothing is told there was no error
told_none : (number filled : ℕ) (error : Option TextError)
    → told_of number filled nothing_met error ≡ [] → error ≡ None
told_none number filled None none = refl
told_none number filled (Some (NoCode bytes)) none = absurd (omega (arith, ap (λ faults. length faults) none))
told_none number filled (Some SmallLetter) none = absurd (omega (arith, ap (λ faults. length faults) none))
told_none number filled (Some Tab) none = absurd (omega (arith, ap (λ faults. length faults) none))
told_none number filled (Some (PastTheCard width)) none = absurd (omega (arith, ap (λ faults. length faults) none))
told_none number filled (Some PunchLine) none = absurd (omega (arith, ap (λ faults. length faults) none))
told_none number filled (Some EmptyLine) none = absurd (omega (arith, ap (λ faults. length faults) none))
told_none number filled (Some TooManyCards) none = absurd (omega (arith, ap (λ faults. length faults) none))

-- where two lists are empty behind each other, both are
pub none_of_both : (xs ys : List TextFault) → xs ++ ys ≡ [] → (xs ≡ []) × (ys ≡ [])
none_of_both [] ys none = (refl, none)
none_of_both (x ∷ xs) ys none = absurd (omega (arith, ap (λ faults. length faults) none))

some_error : (error : TextError) → Some error ≢ None
some_error error same = cc

-- of five values the first and the third are none
no_error : (a b c d : Bool) (x y z : TextError)
    → (if a then None else (if b then Some x else (if c then None else (if d then Some y else Some z)))) ≡ None
    → a ≡ false → c ≡ true
no_error true b c d x y z none is = absurd (cc)
no_error false true c d x y z none is = absurd (some_error x none)
no_error false false true d x y z none is = refl
no_error false false false true x y z none is = absurd (some_error y none)
no_error false false false false x y z none is = absurd (some_error z none)

-- a byte without an error that is no tab stands for a glyph
glyph_without_error : (rules : Rules) (byte : ℕ) (rest : List ℕ) → error_within rules byte rest ≡ None
    → is_spread rules byte ≡ false → is_glyph (glyph_by rules.signs rules.folds byte) ≡ true
unfolding error_within
glyph_without_error rules byte rest none other =
    no_error (is_spread rules byte) (byte == tab) (is_glyph (glyph_by rules.signs rules.folds byte))
    (is_small byte) Tab SmallLetter (NoCode (four_bytes (byte ∷ rest))) none other

-- a tab does not begin a character of several bytes
tab_alone : (byte : ℕ) (stops : Bool) → (byte == tab && stops) ≡ true → nat_le 192 byte ≡ false
tab_alone byte stops is = grind (arith, (both (byte == tab) stops is).0)

-- a byte without an error does not begin a character of several bytes
alone : (rules : Rules) (byte : ℕ) (rest : List ℕ) → error_within rules byte rest ≡ None
    → nat_le 192 byte ≡ false
alone rules byte rest none =
    elim (cases_Bool (is_spread rules byte)) [
      | inl tabbed ↦ tab_alone byte (spreads rules.tabs.items) tabbed
      | inr other ↦
          glyph_alone rules.signs rules.folds byte (glyph_without_error rules byte rest none other)
    ]

-- behind a byte without an error nothing was met still
nothing_still : (rules : Rules) (byte : ℕ) (rest : List ℕ) → error_within rules byte rest ≡ None
    → met_behind nothing_met (error_within rules byte rest) byte ≡ nothing_met
nothing_still rules byte rest none =
    ap (λ error. met_behind nothing_met error byte) none
    ∙ ap (λ (inside : Bool). let met : Met = record { tab = false; small = false; inside = inside } in met)
    (alone rules byte rest none)

-- the columns of a byte without an error are glyphs
own_glyphs : (rules : Rules) (filled byte : ℕ) (rest : List ℕ) → error_within rules byte rest ≡ None
    → are_glyphs (columns_of rules filled byte) ≡ true
own_glyphs rules filled byte rest none =
    elim (cases_Bool (is_spread rules byte)) [
      | inl tabbed ↦
          rw tabbed (blanks_are_glyphs (behind_tab rules.tabs.items filled - filled))
      | inr other ↦ rw other (rw (glyph_without_error rules byte rest none other) refl)
    ]

-- the columns that are looked at behind some that are, are those behind
glyphs_on : (looked filled beyond : ℕ) (xs ys : List ℕ) → filled + length xs ≡ beyond
    → are_glyphs xs ≡ true → are_glyphs (take (looked - beyond) ys) ≡ true
    → are_glyphs (take (looked - filled) (xs ++ ys)) ≡ true
glyphs_on looked filled beyond xs ys long own later =
    let less : looked - filled - length xs ≡ looked - beyond = omega (arith, long) in
    rw (take_joined (looked - filled) xs ys)
    (rw less (joined_are_glyphs (take (looked - filled) xs) (take (looked - beyond) ys)
    (first_are_glyphs (looked - filled) xs own) later))

no_columns : (looked filled : ℕ) (xs : List ℕ) → looked ≤ filled → are_glyphs (take (looked - filled) xs) ≡ true
no_columns looked filled xs over =
    let none : looked - filled ≡ zero = omega (arith, over) in rw none refl

-- the columns that are looked at of bytes without faults are glyphs
pub glyphs_from : (rules : Rules) (number filled : ℕ) (line : List ℕ)
    → faults_from rules number filled nothing_met line ≡ []
    → are_glyphs (take (looked_at rules.keeps - filled) (columns_from rules filled line)) ≡ true
unfolding columns_from
glyphs_from rules number filled [] none = first_are_glyphs (looked_at rules.keeps - filled) [] refl
glyphs_from rules number filled (byte ∷ rest) none =
    elim (cases_Bool (is_past rules.keeps filled)) [
      | inl past ↦ no_columns (looked_at rules.keeps) filled _ (past_all rules.keeps filled past)
      | inr looked ↦ elim (cases_Bool (nat_lt filled 80)) [
        | inl within ↦
            let below : filled < 80 = grind (arith, within) in
            let step = within_step rules number filled nothing_met byte rest (byte ∷ rest) [] [] looked refl below refl none in
            let parts = none_of_both (told_of number filled nothing_met (error_within rules byte rest)) _ step in
            let error = told_none number filled (error_within rules byte rest) parts.0 in
            let later = subst (λ met. faults_from rules number (behind rules filled byte) met rest ≡ []) (nothing_still rules byte rest error) parts.1 in
            glyphs_on (looked_at rules.keeps) filled (behind rules filled byte) (columns_of rules filled byte) (columns_from rules (behind rules filled byte) rest)
            (length_of_columns rules filled byte) (own_glyphs rules filled byte rest error)
            (glyphs_from rules number (behind rules filled byte) rest later)
        | inr beyond ↦
            let over : 80 ≤ filled = grind (arith, beyond) in
            no_columns (looked_at rules.keeps) filled _ (omega (arith, over, within_80 rules.keeps))
      ]
    ]

-- the kept columns within the card are those that are looked at
kept_first : (keeps : Option ℕ) (columns : List ℕ) → are_glyphs (take (looked_at keeps - 0) columns) ≡ true
    → are_glyphs (take 80 (kept_of keeps columns)) ≡ true
kept_first None columns all = all
kept_first (Some last) columns all =
    let same : min 80 last - 0 ≡ min 80 last = omega arith in
    rw (take_twice 80 last columns) (subst (λ n. are_glyphs (take n columns) ≡ true) same all)

-- of two lists the first is not empty
second_none : (test : Bool) (fault : TextFault) (others : List TextFault)
    → (if test then fault ∷ [] else others) ≡ [] → others ≡ []
second_none true fault others none = absurd (omega (arith, ap (λ faults. length faults) none))
second_none false fault others none = none

-- the characters of a line without faults have none
characters_faultless : (rules : Rules) (number : ℕ) (line : List ℕ) → faults_within rules number line ≡ []
    → faults_from rules number 0 nothing_met line ≡ []
characters_faultless rules number line none =
    second_none (is_punch_line line) (record { line = number; column = 1; error = PunchLine })
    (faults_from rules number 0 nothing_met line) none

-- the card of a line without faults has glyphs
pub filled_glyphs : (rules : Rules) (number : ℕ) (line : List ℕ) → faults_within rules number line ≡ []
    → are_glyphs (filled_up rules line) ≡ true
filled_glyphs rules number line none =
    rw (take_joined 80 (columns_kept rules line) (replicate 80 blank))
    (joined_are_glyphs (take 80 (columns_kept rules line)) _
    (kept_first rules.keeps (columns_from rules 0 line) (glyphs_from rules number 0 line (characters_faultless rules number line none)))
    (first_are_glyphs (80 - length (columns_kept rules line)) (replicate 80 blank) (blanks_are_glyphs 80)))

-- and 80 of them
pub filled_length : (rules : Rules) (line : List ℕ) → length (filled_up rules line) ≡ 80
filled_length rules line =
    omega (arith, length-take 80 (columns_kept rules line ++ replicate 80 blank), length-append (columns_kept rules line) (replicate 80 blank), length-replicate 80 blank)
