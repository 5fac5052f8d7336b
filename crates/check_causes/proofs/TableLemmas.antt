-- each row of the table of operations is found by its character, and each of its forms by its length
use Rattle.std.proofs.Common.{◌≡◌, ℕ, zero, suc, ◌-◌, ◌<◌, ◌==◌, ◌&&◌, not, Bool, true, false, List, [], ◌∷◌, Some, None, refl, sym, ap, ◌∙◌, arith, length, get_or}
use Rattle.std.specs.Option.{option_and_then}
use Rattle.std.proofs.lemmas.Bool.{eqb-true, eq-eqb}
use Rattle.bcd.specs.Table.{glyph_of, byte}
use Rattle.machine.specs.Glyphs.{is_glyph}
use Rattle.machine.specs.Operations.{Row, Form, operations, row_among, row_of, form_among, meant, modifier_at}
use Rattle.check_causes.specs.Sentences.{HasNoForm}

both : (x y : Bool) → (x && y) ≡ true → (x ≡ true) × (y ≡ true)
both true y h = (refl, h)
both false y h = absurd (cc)

-- ---- no number is there twice

-- whether a number is none of these
abbrev is_new : ℕ → List ℕ → Bool
is_new n [] = true
is_new n (k ∷ ks) = not (n == k) && is_new n ks

-- whether each number is there once
abbrev are_new : List ℕ → Bool
are_new [] = true
are_new (n ∷ ns) = is_new n ns && are_new ns

abbrev letters : List Row → List ℕ
letters [] = []
letters (row ∷ rows) = byte row.character ∷ letters rows

abbrev lengths : List Form → List ℕ
lengths [] = []
lengths (form ∷ forms) = form.length ∷ lengths forms

abbrev forms_are_new : List Row → Bool
forms_are_new [] = true
forms_are_new (row ∷ rows) = are_new (lengths row.forms) && forms_are_new rows

not_twice : (n k : ℕ) (rest : Bool) → (not (n == k) && rest) ≡ true → (n == k) ≡ false
not_twice n k rest h = go (n == k) h
  where
    go : (b : Bool) → (not b && rest) ≡ true → b ≡ false
    go true h = absurd (cc)
    go false h = refl

other_number : (n k m : ℕ) → n ≡ m → (k == m) ≡ false → (n == k) ≡ false
other_number n k m same f = go (n == k) refl
  where
    go : (b : Bool) → (n == k) ≡ b → b ≡ false
    go true e = absurd (let t : (k == m) ≡ true = eq-eqb k m (sym (eqb-true n k e) ∙ same) in let clash : true ≡ false = sym t ∙ f in cc)
    go false e = refl

-- ---- the rows

other_letter : (n : ℕ) (rows : List Row) (k : ℕ) (row : Row) → is_new n (letters rows) ≡ true → k < length rows → get_or rows k row ≡ row → (n == byte row.character) ≡ false
other_letter n [] k row all lt e = absurd (omega arith)
other_letter n (first ∷ rows) zero row all lt e = ap (λ (r : Row). n == byte r.character) (sym e) ∙ not_twice n (byte first.character) _ all
other_letter n (first ∷ rows) (suc k) row all lt e = other_letter n rows k row (both _ _ all).1 (omega arith) e

row_at : (rows : List Row) (k code : ℕ) (row : Row) → are_new (letters rows) ≡ true → k < length rows → get_or rows k row ≡ row → is_glyph code row.character ≡ true → row_among rows code ≡ Some row
row_at [] k code row all lt e named = absurd (omega arith)
row_at (first ∷ rows) zero code row all lt e named = rw e (rw named refl)
row_at (first ∷ rows) (suc k) code row all lt e named =
    let same : glyph_of code ≡ byte row.character = eqb-true _ _ named in
    let below : k < length rows = omega arith in
    let parts = both (is_new (byte first.character) (letters rows)) (are_new (letters rows)) all in
    let other : is_glyph code first.character ≡ false = other_number (glyph_of code) (byte first.character) (byte row.character) same (other_letter (byte first.character) rows k row parts.0 below e) in
    rw other (row_at rows k code row parts.1 below e named)

-- ---- the forms

other_length : (n : ℕ) (forms : List Form) (k : ℕ) (form : Form) → is_new n (lengths forms) ≡ true → k < length forms → get_or forms k form ≡ form → (n == form.length) ≡ false
other_length n [] k form all lt e = absurd (omega arith)
other_length n (first ∷ forms) zero form all lt e = ap (λ (f : Form). n == f.length) (sym e) ∙ not_twice n first.length _ all
other_length n (first ∷ forms) (suc k) form all lt e = other_length n forms k form (both _ _ all).1 (omega arith) e

form_at : (forms : List Form) (k count : ℕ) (form : Form) → are_new (lengths forms) ≡ true → k < length forms → get_or forms k form ≡ form → form.length ≡ count → form_among forms count ≡ Some form
form_at [] k count form all lt e long = absurd (omega arith)
form_at (first ∷ forms) zero count form all lt e long = rw (eq-eqb count first.length (sym (ap (λ (f : Form). f.length) e ∙ long))) (ap Some e)
form_at (first ∷ forms) (suc k) count form all lt e long =
    let below : k < length forms = omega arith in
    let parts = both (is_new first.length (lengths forms)) (are_new (lengths forms)) all in
    let other : (count == first.length) ≡ false = other_number count first.length form.length (sym long) (other_length first.length forms k form parts.0 below e) in
    rw other (form_at forms k count form parts.1 below e long)

forms_new : (rows : List Row) (k : ℕ) (row : Row) → forms_are_new rows ≡ true → k < length rows → get_or rows k row ≡ row → are_new (lengths row.forms) ≡ true
forms_new [] k row all lt e = absurd (omega arith)
forms_new (first ∷ rows) zero row all lt e = ap (λ (r : Row). are_new (lengths r.forms)) (sym e) ∙ (both _ _ all).0
forms_new (first ∷ rows) (suc k) row all lt e = forms_new rows k row (both _ _ all).1 (omega arith) e

-- ---- the whole table

row_is : (k code : ℕ) (row : Row) → k < length operations → get_or operations k row ≡ row → is_glyph code row.character ≡ true → row_of code ≡ Some row
unfolding row_of operations
row_is k code row lt e named = row_at operations k code row refl lt e named

form_is : (j k count : ℕ) (row : Row) (form : Form) → j < length operations → get_or operations j row ≡ row → k < length row.forms → get_or row.forms k form ≡ form → form.length ≡ count → form_among row.forms count ≡ Some form
unfolding operations
form_is j k count row form jlt je lt e long = form_at row.forms k count form (forms_new operations j row refl jlt je) lt e long

-- without a meaning of the last character there is no form
pub no_form : (codes : List ℕ) → modifier_at (get_or codes 0 0) (length codes) (get_or codes (length codes - 1) 0) ≡ None → HasNoForm codes
no_form codes none row (j, jlt, je) named form (k, klt, ke) long =
    ap (λ found. option_and_then (λ (f : Form). meant f.last (get_or codes (length codes - 1) 0)) found)
    (sym (ap (λ found. option_and_then (λ (r : Row). form_among r.forms (length codes)) found) (row_is j (get_or codes 0 0) row jlt je named) ∙ form_is j k (length codes) row form jlt je klt ke long))
    ∙ none
