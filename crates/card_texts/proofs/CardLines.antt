-- lines that are cards as they stand
use Rattle.std.proofs.Common.{rules, arith, refl, sym, ap, ◌∙◌, ◌≡◌, ◌≢◌, ◌≤◌, ◌+◌, ◌==◌, ℕ, nat_le, nat_lt, Bool, true, false, ◌&&◌, if◌then◌else◌, List, [], ◌∷◌, ◌++◌, length, take, replicate, zero, suc, inl, inr, Option, None, append_assoc}
use Rattle.std.specs.List.{flat_map}
use Rattle.std.proofs.lemmas.Bool.{cases_Bool}
use Rattle.std.proofs.lemmas.List.{take-append-le, take_all}
use Rattle.card_texts.specs.declared.rules.Rules.{Rules}
use Rattle.card_texts.specs.declared.rules.Signs.TheVariants.{Bureau}
use Rattle.card_texts.specs.Signs.{glyph_by, is_glyph}
use Rattle.card_texts.specs.Columns.{blank, tab, behind, columns_from, columns_of, filled_up, is_spread, kept_of, spreads}
use Rattle.card_texts.specs.Lines.{lines_from, lines_of, without_ends, without_front}
use Rattle.card_texts.specs.Faults.{error_within, faults_from, is_past, met_behind, nothing_met}
use Rattle.card_texts.proofs.FaultLemmas.{below_told}
use Rattle.card_texts.proofs.GlyphLemmas.{are_glyphs, both, glyph_kept, plain}
use Rattle.card_texts.proofs.LineLemmas.{IsWithin, line_before_feed, no_end_stays}

-- a line of 80 glyphs
pub record IsCardLine (line : List ℕ) : Type 0 where
  pub glyphs : are_glyphs line ≡ true
  pub columns : length line ≡ 80

-- each line is one of 80 glyphs
abbrev pub AreCardLines : List (List ℕ) → Type 0
AreCardLines [] = Unit {0}
AreCardLines (line ∷ lines) = IsCardLine line × AreCardLines lines

-- the text of lines: each with a line feed behind it
abbrev pub text_of_lines : List (List ℕ) → List ℕ
text_of_lines = flat_map (λ line. line ++ 10 ∷ [])

pub unequal : (m n : ℕ) → m ≢ n → (m == n) ≡ false
unequal m n other = grind (arith, other)

-- a glyph is no tab, no line end and no mark of a text's front
pub no_tab : (byte : ℕ) → is_glyph byte ≡ true → (byte == tab) ≡ false
no_tab byte is = let p = plain byte is in unequal byte tab (λ same. omega (arith, same, p.above))

pub no_spread : (rules : Rules) (byte : ℕ) → is_glyph byte ≡ true → is_spread rules byte ≡ false
no_spread rules byte is = ap (λ t. t && spreads rules.tabs.items) (no_tab byte is)

-- ---- columns

pub column_of_glyph : (rules : Rules) (filled byte : ℕ) → rules.signs ≡ Bureau → is_glyph byte ≡ true
    → columns_of rules filled byte ≡ byte ∷ []
column_of_glyph rules filled byte signs is =
    rw (no_spread rules byte is) (rw signs (ap (λ glyph. glyph ∷ []) (glyph_kept rules.folds byte is)))

behind_glyph : (rules : Rules) (filled byte : ℕ) → is_glyph byte ≡ true → behind rules filled byte ≡ filled + 1
behind_glyph rules filled byte is = rw (no_spread rules byte is) refl

-- glyphs fill columns of their own
pub glyphs_spread : (rules : Rules) (filled : ℕ) (line : List ℕ) → rules.signs ≡ Bureau → are_glyphs line ≡ true
    → columns_from rules filled line ≡ line
unfolding columns_from
glyphs_spread rules filled [] signs all = refl
glyphs_spread rules filled (byte ∷ rest) signs all =
    let parts = both (is_glyph byte) (are_glyphs rest) all in
    rw (column_of_glyph rules filled byte signs parts.0)
    (ap (λ later. byte ∷ later) (glyphs_spread rules (behind rules filled byte) rest signs parts.1))

-- a card's line that is looked at whole is its own card
pub whole_line : (rules : Rules) (line : List ℕ) → rules.signs ≡ Bureau → rules.keeps ≡ None
    → IsCardLine line → filled_up rules line ≡ line
whole_line rules line signs keeps is =
    ap (λ kept. take 80 (kept_of kept (columns_from rules 0 line) ++ replicate 80 blank)) keeps
    ∙ ap (λ columns. take 80 (columns ++ replicate 80 blank)) (glyphs_spread rules 0 line signs is.glyphs)
    ∙ take-append-le 80 line (replicate 80 blank) (omega (arith, is.columns))
    ∙ take_all 80 line (omega (arith, is.columns))

-- ---- faults

-- of five values the third, by three tests
third_of_five : (a b c : Bool) (v w x : Option Rattle.card_texts.specs.declared.faults.TextError.TextError) → a ≡ false → b ≡ false → c ≡ true
    → (if a then None else (if b then v else (if c then None else w))) ≡ None
third_of_five a b c v w x one two three = rw one (rw two (rw three refl))

error_of_glyph : (rules : Rules) (byte : ℕ) (rest : List ℕ) → rules.signs ≡ Bureau → is_glyph byte ≡ true
    → error_within rules byte rest ≡ None
unfolding error_within
error_of_glyph rules byte rest signs is =
    let same : glyph_by rules.signs rules.folds byte ≡ byte = rw signs (glyph_kept rules.folds byte is) in
    rw (no_spread rules byte is) (rw (no_tab byte is) (rw same (rw is refl)))

met_still : (rules : Rules) (byte : ℕ) (rest : List ℕ) → rules.signs ≡ Bureau → is_glyph byte ≡ true
    → met_behind nothing_met (error_within rules byte rest) byte ≡ nothing_met
met_still rules byte rest signs is =
    let p = plain byte is in
    let low : nat_le 192 byte ≡ false = grind (arith, p.below) in
    rw (error_of_glyph rules byte rest signs is) (rw low refl)

-- glyphs within the card have no faults
pub glyphs_faultless : (rules : Rules) (number filled : ℕ) (line : List ℕ) → rules.signs ≡ Bureau
    → are_glyphs line ≡ true → filled + length line ≤ 80
    → faults_from rules number filled nothing_met line ≡ []
unfolding faults_from
glyphs_faultless rules number filled [] signs all short = refl
glyphs_faultless rules number filled (byte ∷ rest) signs all short =
    let parts = both (is_glyph byte) (are_glyphs rest) all in
    let below : nat_lt filled 80 ≡ true = below_told filled 80 (omega (arith, short)) in
    let next : behind rules filled byte + length rest ≤ 80 = rw (behind_glyph rules filled byte parts.0) (omega (arith, short)) in
    let later = glyphs_faultless rules number (behind rules filled byte) rest signs parts.1 next in
    elim (cases_Bool (is_past rules.keeps filled)) [
      | inl past ↦ rw past refl
      | inr looked ↦
          rw looked (rw below
          (rw (met_still rules byte rest signs parts.0)
          (rw (error_of_glyph rules byte rest signs parts.0) later)))
    ]

-- ---- lines

others_within : (x : ℕ) (xs : List ℕ) → (x ≢ 10) × (x ≢ 13) → IsWithin xs → IsWithin (x ∷ xs)
others_within x xs first others zero d below = first
others_within x xs first others (suc k) d below = others k d (omega (arith, below))

-- no glyph ends a line
pub glyphs_within : (line : List ℕ) → are_glyphs line ≡ true → IsWithin line
glyphs_within [] all = λ k d below. absurd (omega (arith, below))
glyphs_within (byte ∷ rest) all =
    let parts = both (is_glyph byte) (are_glyphs rest) all in
    let p = plain byte parts.0 in
    others_within byte rest
    ((λ same. omega (arith, same, p.above)), (λ same. omega (arith, same, p.above)))
    (glyphs_within rest parts.1)

-- the lines of a text are those that it was made of
pub lines_read : (lines : List (List ℕ)) → AreCardLines lines → lines_from false (text_of_lines lines) ≡ lines
unfolding lines_from
lines_read [] all = refl
lines_read (line ∷ lines) all =
    ap (lines_from false) (append_assoc line (10 ∷ []) (text_of_lines lines))
    ∙ line_before_feed line (text_of_lines lines) (glyphs_within line all.0.glyphs)
    ∙ ap (λ later. line ∷ later) (lines_read lines all.1)

-- a text of lines ends with a line feed
ends_with_feed : (line : List ℕ) (lines : List (List ℕ))
    → (before : List ℕ) × (text_of_lines (line ∷ lines) ≡ before ++ 10 ∷ [])
ends_with_feed line [] = (line, append_assoc line (10 ∷ []) [])
ends_with_feed line (next ∷ lines) =
    let later = ends_with_feed next lines in (
      (line ++ 10 ∷ []) ++ later.0,
      ap (λ rest. (line ++ 10 ∷ []) ++ rest) later.1 ∙ sym (append_assoc (line ++ 10 ∷ []) later.0 (10 ∷ [])),
    )

ends_stay : (lines : List (List ℕ)) → without_ends (text_of_lines lines) ≡ text_of_lines lines
unfolding without_ends
ends_stay [] = refl
ends_stay (line ∷ lines) =
    let found = ends_with_feed line lines in
    rw found.1 (no_end_stays found.0 10 (λ same. omega (arith, same)))

-- a text that begins with a glyph has no mark at its front
no_mark : (byte : ℕ) (rest : List ℕ) → is_glyph byte ≡ true → without_front (byte ∷ rest) ≡ byte ∷ rest
no_mark byte rest is =
    let p = plain byte is in
    let other : (byte == 239) ≡ false = unequal byte 239 (λ same. omega (arith, same, p.below)) in
    rw other refl

front_stays : (lines : List (List ℕ)) → AreCardLines lines → without_front (text_of_lines lines) ≡ text_of_lines lines
front_stays [] all = refl
front_stays ([] ∷ lines) all = absurd (omega (arith, all.0.columns))
front_stays ((byte ∷ rest) ∷ lines) all =
    no_mark byte ((rest ++ 10 ∷ []) ++ text_of_lines lines) (both (is_glyph byte) (are_glyphs rest) all.0.glyphs).0

-- what is read of a text of card lines is these lines
pub lines_of_text : (lines : List (List ℕ)) → AreCardLines lines → lines_of (text_of_lines lines) ≡ lines
lines_of_text lines all =
    ap (λ text. lines_from false (without_ends text)) (front_stays lines all)
    ∙ ap (lines_from false) (ends_stay lines) ∙ lines_read lines all
