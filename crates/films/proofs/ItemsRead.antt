-- the words for items are read as these items
use Rattle.std.proofs.Common.{◌≡◌, ℕ, ◌+◌, ◌%◌, ◌^◌, ◌<◌, ◌==◌, ◌&&◌, not, nat_le, Bool, true, false, List, [], ◌∷◌, ◌++◌, decimal, refl, sym, ap, ap₂, ◌∙◌, append_assoc}
use Rattle.std.specs.Prelude.{Option, Some, None, position, slice_index}
use Rattle.std.proofs.lemmas.Bool.{eqb-true}
use Rattle.std.proofs.lemmas.Fmt.{decimal_by_steps, decimal_is_IsNumeral}
use Rattle.bcd.proofs.Tables.{at_each}
use Rattle.bcd.specs.Table.{glyph_of}
use Rattle.pictures.proofs.PiecesRead.{after_mark, before_mark, has_none, none_in_both, none_in_decimal}
use Rattle.films.specs.Changes.{Item, cell_is, number_is, printed, punched}
use Rattle.films.specs.Frames.{CardShown, LineShown}
use Rattle.films.specs.Reading.{before, behind, card_read, cell_read, code_read, line_read, number_at, number_read, word_read, word_read_by}
use Rattle.films.specs.Signs.{sign_of, sign_of_code, signs}
use Rattle.films.specs.Texts.{cell_text, item_text, letters}

-- ---- numbers

no_dot : (n : ℕ) → n < 2 ^ 64 → has_none 46 (decimal n) ≡ true
no_dot = none_in_decimal 46 (at_each (λ d. not (48 + d == 46)) 10 refl)

no_colon : (n : ℕ) → n < 2 ^ 64 → has_none 58 (decimal n) ≡ true
no_colon = none_in_decimal 58 (at_each (λ d. not (48 + d == 58)) 10 refl)

no_blank : (n : ℕ) → n < 2 ^ 64 → has_none 32 (decimal n) ≡ true
no_blank = none_in_decimal 32 (at_each (λ d. not (48 + d == 32)) 10 refl)

no_feed : (n : ℕ) → n < 2 ^ 64 → has_none 10 (decimal n) ≡ true
no_feed = none_in_decimal 10 (at_each (λ d. not (48 + d == 10)) 10 refl)

number_again : (n : ℕ) → n < 2 ^ 64 → number_read (decimal n) ≡ n
number_again n h = (decimal_is_IsNumeral n h).1

-- a text begins with a digit
abbrev Begins : List ℕ → Type 0
Begins ds = (d : ℕ) × (rest : List ℕ) × (ds ≡ d ∷ rest) × ((nat_le 48 d && nat_le d 57) ≡ true)

digit_passes : (n : ℕ) → n < 10 → (nat_le 48 (48 + n) && nat_le (48 + n) 57) ≡ true
digit_passes = at_each (λ k. nat_le 48 (48 + k) && nat_le (48 + k) 57) 10 refl

first_digit : (n : ℕ) → n < 2 ^ 64 → Begins (decimal n)
first_digit =
    decimal_by_steps (λ n ds. Begins ds)
    (λ n small. (48 + n, [], refl, digit_passes n small))
    (λ n ds above front. (front.0, front.1 ++ ((48 + n % 10) ∷ []), ap (λ xs. xs ++ ((48 + n % 10) ∷ [])) front.2, front.3))

-- ---- the word for a number

is_at : Option ℕ → ℕ → Bool
is_at None n = false
is_at (Some k) n = k == n

at_place : (o : Option ℕ) (n : ℕ) → is_at o n ≡ true → o ≡ Some n
unfolding is_at
at_place None n h = absurd (cc)
at_place (Some k) n h = ap Some (eqb-true k n h)

letter_test : ℕ → Bool
letter_test place =
    not (nat_le 48 (slice_index letters place) && nat_le (slice_index letters place) 57) && (not (slice_index letters place == 112)
    && (not (slice_index letters place == 117) && is_at (position (λ other. other == slice_index letters place) letters) place))

letters_pass : (place : ℕ) → place < 14 → letter_test place ≡ true
unfolding letter_test is_at
letters_pass = at_each letter_test 14 refl

read_by : (letter : ℕ) (text : List ℕ) (place : ℕ) (a b c : Bool) (o : Option ℕ) → (nat_le 48 letter && nat_le letter 57) ≡ a → (letter == 112) ≡ b → (letter == 117) ≡ c
    → position (λ other. other == letter) letters ≡ o → (not a && (not b && (not c && is_at o place))) ≡ true → word_read_by letter text ≡ number_at (Some place) text
unfolding word_read_by
read_by letter text place false false false o ea eb ec eo h = rw (ea, eb, ec, eo) (ap (λ p. number_at p text) (at_place o place h))
read_by letter text place true b c o ea eb ec eo h = absurd (cc)
read_by letter text place false true c o ea eb ec eo h = absurd (cc)
read_by letter text place false false true o ea eb ec eo h = absurd (cc)

number_item : (place value : ℕ) → place < 14 → value < 2 ^ 64 → word_read (item_text (number_is place value)) ≡ number_is place value ∷ []
unfolding letter_test
number_item place value low small =
    read_by (slice_index letters place) (decimal value) place _ _ _ _ refl refl refl refl (letters_pass place low)
    ∙ ap (λ v. number_is place v ∷ []) (number_again value small)

-- ---- the word for a position

code_again : (n : ℕ) → n < 64 → code_read (sign_of_code n) ≡ n
unfolding code_read signs sign_of_code sign_of glyph_of
code_again n h = eqb-true _ _ (at_each (λ k. code_read (sign_of_code k) == k) 64 refl n h)

opposite : (b : Bool) → not b ≡ true → b ≡ false
opposite true is = absurd (cc)
opposite false is = refl

no_apostrophe : (n : ℕ) → n < 64 → (sign_of_code n == 39) ≡ false
unfolding sign_of_code sign_of glyph_of
no_apostrophe n h = opposite (sign_of_code n == 39) (at_each (λ k. not (sign_of_code k == 39)) 64 refl n h)

cell_by : (code : ℕ) (mark : Bool) → code < 64 → cell_read (cell_text (code, mark)) ≡ (code, mark)
unfolding cell_read
cell_by code true h = ap (λ (n : ℕ). (n, true)) (code_again code h)
cell_by code false h = ap₂ (λ (n : ℕ) (b : Bool). (n, b)) (code_again code h) (no_apostrophe code h)

cell_found : (p : ℕ) (rest : List ℕ) (d : ℕ) (more : List ℕ) → p < 2 ^ 64 → decimal p ≡ d ∷ more → (nat_le 48 d && nat_le d 57) ≡ true
    → word_read_by d (more ++ 58 ∷ rest) ≡ cell_is p (cell_read rest) ∷ []
unfolding word_read_by
cell_found p rest d more small is test =
    let none = no_colon p small in
    let whole : d ∷ (more ++ 58 ∷ rest) ≡ decimal p ++ 58 ∷ rest = ap (λ xs. xs ++ 58 ∷ rest) (sym is) in
    rw test
    (ap (λ (t : List ℕ). cell_is (number_read (before 58 t)) (cell_read (behind 58 t)) ∷ []) whole
    ∙ ap (λ (t : List ℕ). cell_is (number_read t) (cell_read (behind 58 (decimal p ++ 58 ∷ rest))) ∷ []) (before_mark 58 (decimal p) rest none)
    ∙ ap (λ (t : List ℕ). cell_is (number_read (decimal p)) (cell_read t) ∷ []) (after_mark 58 (decimal p) rest none)
    ∙ ap (λ n. cell_is n (cell_read rest) ∷ []) (number_again p small))

cell_item : (p : ℕ) (cell : ℕ × Bool) → p < 2 ^ 64 → cell.0 < 64 → word_read (item_text (cell_is p cell)) ≡ cell_is p cell ∷ []
cell_item p cell small low =
    let digit = first_digit p small in
    ap word_read (append_assoc (decimal p) (58 ∷ []) (cell_text cell))
    ∙ ap (λ xs. word_read (xs ++ 58 ∷ cell_text cell)) digit.2
    ∙ cell_found p (cell_text cell) digit.0 digit.1 small digit.2 digit.3
    ∙ ap (λ (c : ℕ × Bool). cell_is p c ∷ []) (cell_by cell.0 cell.1 low)

-- ---- the words for lines and cards

line_item : (line : LineShown) → line.form < 2 ^ 64 → line.line < 2 ^ 64 → word_read (item_text (printed line)) ≡ printed line ∷ []
unfolding word_read_by
line_item line on at =
    let f = decimal line.form in
    let l = decimal line.line in
    let s = line.signs in
    let t = f ++ 46 ∷ (l ++ 58 ∷ s) in
    let regroup : (((f ++ 46 ∷ []) ++ l) ++ 58 ∷ []) ++ s ≡ t =
    append_assoc ((f ++ 46 ∷ []) ++ l) (58 ∷ []) s ∙ append_assoc (f ++ 46 ∷ []) l (58 ∷ s) ∙ append_assoc f (46 ∷ []) (l ++ 58 ∷ s) in
    let dot = no_dot line.form on in
    let colon = no_colon line.line at in
    ap (λ (x : List ℕ). printed (line_read x) ∷ []) regroup
    ∙ ap (λ (x : List ℕ). printed (record { form = number_read x; line = number_read (before 58 (behind 46 t)); signs = behind 58 (behind 46 t) }) ∷ []) (before_mark 46 f (l ++ 58 ∷ s) dot)
    ∙ ap (λ (x : List ℕ). printed (record { form = number_read f; line = number_read (before 58 x); signs = behind 58 x }) ∷ []) (after_mark 46 f (l ++ 58 ∷ s) dot)
    ∙ ap (λ (x : List ℕ). printed (record { form = number_read f; line = number_read x; signs = behind 58 (l ++ 58 ∷ s) }) ∷ []) (before_mark 58 l s colon)
    ∙ ap (λ (x : List ℕ). printed (record { form = number_read f; line = number_read l; signs = x }) ∷ []) (after_mark 58 l s colon)
    ∙ ap₂ (λ (x y : ℕ). printed (record { form = x; line = y; signs = s }) ∷ []) (number_again line.form on) (number_again line.line at)

card_item : (card : CardShown) → card.pocket < 2 ^ 64 → word_read (item_text (punched card)) ≡ punched card ∷ []
unfolding word_read_by
card_item card small =
    let p = decimal card.pocket in
    let s = card.signs in
    let colon = no_colon card.pocket small in
    ap (λ (x : List ℕ). punched (card_read x) ∷ []) (append_assoc p (58 ∷ []) s)
    ∙ ap (λ (x : List ℕ). punched (record { pocket = number_read x; signs = behind 58 (p ++ 58 ∷ s) }) ∷ []) (before_mark 58 p s colon)
    ∙ ap (λ (x : List ℕ). punched (record { pocket = number_read p; signs = x }) ∷ []) (after_mark 58 p s colon)
    ∙ ap (λ (x : ℕ). punched (record { pocket = x; signs = s }) ∷ []) (number_again card.pocket small)

-- ---- items

-- no blank and no line feed is in a text
abbrev pub IsClean : List ℕ → Type 0
IsClean text = (has_none 32 text ≡ true) × (has_none 10 text ≡ true)

-- an item can be read of its word
abbrev pub IsItem : Item → Type 0
IsItem (number_is place value) = (place < 14) × (value < 2 ^ 64)
IsItem (cell_is p cell) = (p < 2 ^ 64) × (cell.0 < 64)
IsItem (printed line) = (line.form < 2 ^ 64) × (line.line < 2 ^ 64) × IsClean line.signs
IsItem (punched card) = (card.pocket < 2 ^ 64) × IsClean card.signs

pub item_again : (item : Item) → IsItem item → word_read (item_text item) ≡ item ∷ []
item_again (number_is place value) h = number_item place value h.0 h.1
item_again (cell_is p cell) h = cell_item p cell h.0 h.1
item_again (printed line) h = line_item line h.0 h.1
item_again (punched card) h = card_item card h.0

both_clean : (a b : List ℕ) → IsClean a → IsClean b → IsClean (a ++ b)
both_clean a b x y = (none_in_both 32 a b x.0 y.0, none_in_both 10 a b x.1 y.1)

pub number_clean : (n : ℕ) → n < 2 ^ 64 → IsClean (decimal n)
number_clean n h = (no_blank n h, no_feed n h)

letter_clean : (place : ℕ) → place < 14 → (has_none 32 (slice_index letters place ∷ []) && has_none 10 (slice_index letters place ∷ [])) ≡ true
letter_clean = at_each (λ k. has_none 32 (slice_index letters k ∷ []) && has_none 10 (slice_index letters k ∷ [])) 14 refl

sign_clean : (n : ℕ) → n < 64 → (has_none 32 (sign_of_code n ∷ []) && has_none 10 (sign_of_code n ∷ [])) ≡ true
unfolding sign_of_code sign_of glyph_of
sign_clean = at_each (λ k. has_none 32 (sign_of_code k ∷ []) && has_none 10 (sign_of_code k ∷ [])) 64 refl

two : (a b : Bool) → (a && b) ≡ true → (a ≡ true) × (b ≡ true)
two true b h = (refl, h)
two false b h = absurd (cc)

cell_clean : (code : ℕ) (mark : Bool) → code < 64 → IsClean (cell_text (code, mark))
cell_clean code true h = both_clean (39 ∷ []) (sign_of_code code ∷ []) (refl, refl) (two (has_none 32 (sign_of_code code ∷ [])) (has_none 10 (sign_of_code code ∷ [])) (sign_clean code h))
cell_clean code false h = two (has_none 32 (sign_of_code code ∷ [])) (has_none 10 (sign_of_code code ∷ [])) (sign_clean code h)

pub word_clean : (item : Item) → IsItem item → IsClean (item_text item)
word_clean (number_is place value) h =
    both_clean (slice_index letters place ∷ []) (decimal value)
    (two (has_none 32 (slice_index letters place ∷ [])) (has_none 10 (slice_index letters place ∷ [])) (letter_clean place h.0)) (number_clean value h.1)
word_clean (cell_is p cell) h =
    both_clean (decimal p ++ 58 ∷ []) (cell_text cell) (both_clean (decimal p) (58 ∷ []) (number_clean p h.0) (refl, refl)) (cell_clean cell.0 cell.1 h.1)
word_clean (printed line) h =
    let f = both_clean (112 ∷ []) (decimal line.form) (refl, refl) (number_clean line.form h.0) in
    let d = both_clean (112 ∷ decimal line.form) (46 ∷ []) f (refl, refl) in
    let l = both_clean ((112 ∷ decimal line.form) ++ 46 ∷ []) (decimal line.line) d (number_clean line.line h.1) in
    let c = both_clean (((112 ∷ decimal line.form) ++ 46 ∷ []) ++ decimal line.line) (58 ∷ []) l (refl, refl) in
    both_clean ((((112 ∷ decimal line.form) ++ 46 ∷ []) ++ decimal line.line) ++ 58 ∷ []) line.signs c h.2
word_clean (punched card) h =
    let p = both_clean (117 ∷ []) (decimal card.pocket) (refl, refl) (number_clean card.pocket h.0) in
    let c = both_clean (117 ∷ decimal card.pocket) (58 ∷ []) p (refl, refl) in
    both_clean ((117 ∷ decimal card.pocket) ++ 58 ∷ []) card.signs c h.1
