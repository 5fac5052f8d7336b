-- the columns of a line, by their places
use Rattle.std.proofs.Common.{◌≡◌, ℕ, zero, suc, ◌+◌, ◌*◌, ◌<◌, true, List, [], ◌∷◌, ◌++◌, refl, sym, ◌∙◌, ap, arith, length, get_or, take, drop, eqb, ltb, cond}
use Rattle.std.specs.List.{flat_map}
use Rattle.std.proofs.lemmas.Bool.{eqb-true, lt-ltb}
use Rattle.bcd.proofs.Tables.{at_each}
use Rattle.bcd.specs.Table.{glyph_of}
use Rattle.cards.specs.declared.forms.Form.{Form}
use Rattle.cards.specs.declared.forms.Form.TheVariants.{Text, Punched}
use Rattle.cards.specs.declared.lines.TheConstants.{NUMBERS}
use Rattle.cards.specs.Files.{column_at, column_of}

-- a number of the table that is a character's has the glyph of its place
glyph_at : (byte : ℕ) → byte < 256 → get_or NUMBERS byte 0 < 64 → glyph_of (get_or NUMBERS byte 0) ≡ byte
unfolding glyph_of
glyph_at byte h below =
    let test = at_each (λ k. cond (ltb (get_or NUMBERS k 0) 64) (eqb (glyph_of (get_or NUMBERS k 0)) k) true) 256 refl byte h in
    eqb-true _ _ (rw (lt-ltb _ _ below) at test)

-- and each character has its number at the place of its glyph
number_at : (code : ℕ) → code < 64 → get_or NUMBERS (glyph_of code) 0 ≡ code
unfolding glyph_of
number_at code h = eqb-true _ _ (at_each (λ k. eqb (get_or NUMBERS (glyph_of k) 0) k) 64 refl code h)

text_column : (line : List ℕ) (i : ℕ) → i < length line → column_at Text line i ≡ get_or line i 0 ∷ []
text_column [] i h = absurd (omega arith)
text_column (byte ∷ line) zero h = refl
text_column (byte ∷ line) (suc i) h = let next : 1 * suc i ≡ suc (1 * i) = omega arith in rw next (text_column line i (omega arith))

-- a column of a text, by the table
pub glyph_found : (line : List ℕ) (i : ℕ) → i < length line → get_or line i 0 < 256 → get_or NUMBERS (get_or line i 0) 0 < 64 →
    column_at Text line i ≡ column_of Text (get_or NUMBERS (get_or line i 0) 0)
unfolding column_of
glyph_found line i h byte below = text_column line i h ∙ ap (λ b. b ∷ []) (sym (glyph_at (get_or line i 0) byte below))

pub glyph_each : (line : List ℕ) (i code : ℕ) → i < length line → code < 64 → column_at Text line i ≡ column_of Text code →
    get_or NUMBERS (get_or line i 0) 0 ≡ code
unfolding column_of
glyph_each line i code h below stands =
    let same : get_or line i 0 ∷ [] ≡ glyph_of code ∷ [] = sym (text_column line i h) ∙ stands in
    let byte : get_or line i 0 ≡ glyph_of code = cc in
    ap (λ b. get_or NUMBERS b 0) byte ∙ number_at code below

-- three bytes of a list
pub three_at : (line : List ℕ) (n : ℕ) → n + 2 < length line → take 3 (drop n line) ≡ get_or line n 0 ∷ get_or line (n + 1) 0 ∷ get_or line (n + 2) 0 ∷ []
three_at [] n h = absurd (omega arith)
three_at (a ∷ []) zero h = absurd (omega arith)
three_at (a ∷ b ∷ []) zero h = absurd (omega arith)
three_at (a ∷ b ∷ c ∷ line) zero h = refl
three_at (a ∷ line) (suc n) h =
    let one : suc n + 1 ≡ suc (n + 1) = omega arith in
    let two : suc n + 2 ≡ suc (n + 2) = omega arith in
    rw (one, two) (three_at line n (omega arith))

-- a column of the line of a card
pub column_of_line : (form : Form) (codes rest : List ℕ) (i : ℕ) → i < length codes →
    column_at form (flat_map (column_of form) codes ++ rest) i ≡ column_of form (get_or codes i 0)
unfolding column_of
column_of_line form [] rest i h = absurd (omega arith)
column_of_line Text (code ∷ codes) rest zero h = refl
column_of_line Text (code ∷ codes) rest (suc i) h =
    let next : 1 * suc i ≡ suc (1 * i) = omega arith in rw next (column_of_line Text codes rest i (omega arith))
column_of_line Punched (code ∷ codes) rest zero h = refl
column_of_line Punched (code ∷ codes) rest (suc i) h =
    let next : 3 * suc i ≡ suc (suc (suc (3 * i))) = omega arith in rw next (column_of_line Punched codes rest i (omega arith))
