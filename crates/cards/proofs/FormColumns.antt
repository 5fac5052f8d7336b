-- what a column and a digit begin with
use Rattle.std.proofs.Common.{◌≡◌, ◌≢◌, ℕ, suc, ◌+◌, ◌-◌, ◌<◌, ◌/◌, ◌%◌, ◌*◌, Bool, true, false, List, [], ◌∷◌, ◌++◌, refl, sym, ◌∙◌, ap, arith, eqb, ltb, cond}
use Rattle.std.proofs.lemmas.Bool.{eqb-true, eqb-false, ne_eqb, ltb-true}
use Rattle.std.proofs.lemmas.List.Elements.{All-from_get_or}
use Rattle.std.proofs.lemmas.List.Folds.{list_any_none}
use Rattle.bcd.proofs.Tables.{at_each}
use Rattle.bcd.specs.Table.{glyph_of, punches_of, zone_of}
use Rattle.cards.specs.declared.faults.CardError.TheVariants.{Punches}
use Rattle.cards.specs.declared.forms.Form.TheVariants.{Text, Punched}
use Rattle.cards.specs.Faults.{IsCutOff, IsNoDigit, IsNoColumn, is_digit, is_cut_short, digits_error}
use Rattle.cards.specs.Files.{column_of, hexadecimal, digits, BeginsWithDigit}

abbrev are_apart : ℕ → ℕ → Bool
are_apart n m = cond (eqb n m) false true

apart_from : (n m : ℕ) → are_apart n m ≡ true → eqb n m ≡ false
apart_from n m test = (elim (eqb n m) as (λ b. cond b false true ≡ true → b ≡ false) [ true ↦ λ e. absurd (cc) | false ↦ λ e. refl ]) test

glyph_no_line_feed : (n : ℕ) → n < 64 → eqb (glyph_of n) 10 ≡ false
unfolding glyph_of
glyph_no_line_feed n h = apart_from _ _ (at_each (λ k. are_apart (glyph_of k) 10) 64 refl n h)

hexadecimal_no_line_feed : (d : ℕ) → d < 16 → eqb (hexadecimal d) 10 ≡ false
hexadecimal_no_line_feed d h = apart_from _ _ (at_each (λ k. are_apart (hexadecimal k) 10) 16 refl d h)

hexadecimal_is_digit : (d : ℕ) → d < 16 → is_digit (hexadecimal d) ≡ true
hexadecimal_is_digit d h = at_each (λ k. is_digit (hexadecimal k)) 16 refl d h

-- the number of a digit
abbrev number_of : ℕ → ℕ
number_of byte = cond (ltb byte 58) (byte - 48) (byte - 55)

pub hexadecimal_differ : (d e : ℕ) → d < 16 → e < 16 → hexadecimal d ≡ hexadecimal e → d ≡ e
hexadecimal_differ d e hd he same =
    sym (eqb-true _ _ (at_each (λ k. eqb (number_of (hexadecimal k)) k) 16 refl d hd)) ∙ ap number_of same
    ∙ eqb-true _ _ (at_each (λ k. eqb (number_of (hexadecimal k)) k) 16 refl e he)

pub twelve_rows : (n : ℕ) → n < 64 → punches_of n < 4096
unfolding punches_of zone_of
twelve_rows n h = ltb-true _ _ (at_each (λ k. ltb (punches_of k) 4096) 64 refl n h)

-- what is cut off doesn't begin with a byte that is no line feed
cut_off : (bytes : List ℕ) (byte : ℕ) (rest : List ℕ) → IsCutOff bytes → eqb byte 10 ≡ false → bytes ≢ byte ∷ rest
cut_off [] byte rest cut other same = absurd (cc)
cut_off (b ∷ bytes) byte rest cut other same = eqb-false _ _ other (cc)

pub cut_off_no_glyph : (bytes : List ℕ) → IsCutOff bytes → IsNoColumn Text bytes
unfolding column_of
cut_off_no_glyph bytes cut code rest h same = cut_off bytes (glyph_of code) rest cut (glyph_no_line_feed code h) same

-- behind a digit the count goes on
pub behind_digit : (count d : ℕ) (bytes : List ℕ) → d < 16 → is_cut_short (suc count) (hexadecimal d ∷ bytes) ≡ is_cut_short count bytes
behind_digit count d bytes h = simp (hexadecimal_no_line_feed d h, hexadecimal_is_digit d h)

-- where no digit is, it doesn't matter how many should follow
pub at_no_digit : (count : ℕ) (bytes : List ℕ) → IsNoDigit bytes → is_cut_short (suc count) bytes ≡ is_cut_short 1 bytes
at_no_digit count [] none = refl
at_no_digit count (byte ∷ bytes) none =
    let other : is_digit byte ≡ false =
    list_any_none (λ digit. eqb digit byte) (digits)
    (All-from_get_or (λ digit. eqb digit byte ≡ false) (digits) 0
    (λ i h. ne_eqb (hexadecimal i) byte (λ same. none i bytes h (ap (λ b. b ∷ bytes) (sym same)))))
    in simp other

-- a column whose first, second or third digit is none

pub first_wrong : (bytes : List ℕ) → IsNoDigit bytes → IsNoColumn Punched bytes
unfolding column_of
first_wrong bytes none code rest below same = none (punches_of code / 256 % 16) _ (omega arith) same

pub second_wrong : (bytes more : List ℕ) (h : ℕ) → BeginsWithDigit bytes h more → IsNoDigit more → IsNoColumn Punched bytes
unfolding column_of
second_wrong bytes more h high none code rest below same =
    let begins = high.1 in
    none (punches_of code / 16 % 16) (hexadecimal (punches_of code % 16) ∷ rest) (omega arith) (cc)

pub third_wrong : (bytes more last : List ℕ) (h m : ℕ) → BeginsWithDigit bytes h more → BeginsWithDigit more m last → IsNoDigit last → IsNoColumn Punched bytes
unfolding column_of
third_wrong bytes more last h m high middle none code rest below same =
    let begins = high.1 in
    let goes_on = middle.1 in
    none (punches_of code % 16) rest (omega arith) (cc)

pub first_error : (bytes : List ℕ) → IsNoDigit bytes → digits_error 1 bytes ≡ digits_error 3 bytes
first_error bytes none = rw (at_no_digit 2 bytes none) refl

pub second_error : (bytes more : List ℕ) (h : ℕ) → BeginsWithDigit bytes h more → IsNoDigit more → digits_error 1 more ≡ digits_error 3 bytes
second_error bytes more h high none = rw (high.1, behind_digit 2 h more high.0, at_no_digit 1 more none) refl

pub third_error : (bytes more last : List ℕ) (h m : ℕ) → BeginsWithDigit bytes h more → BeginsWithDigit more m last → digits_error 1 last ≡ digits_error 3 bytes
third_error bytes more last h m high middle =
    rw (high.1, behind_digit 2 h more high.0, middle.1, behind_digit 1 m last middle.0) refl

-- three digits are the column of a character with these punches, or of none; either way they aren't cut short

pub column_found : (bytes more last rest : List ℕ) (h m l code : ℕ) → BeginsWithDigit bytes h more → BeginsWithDigit more m last → BeginsWithDigit last l rest →
    punches_of code ≡ h * 256 + m * 16 + l → bytes ≡ column_of Punched code ++ rest
unfolding column_of
column_found bytes more last rest h m l code high middle low punched =
    let begins = high.1 in
    let goes_on = middle.1 in
    let ends = low.1 in
    let first : h ≡ punches_of code / 256 % 16 = omega (arith, high.0, middle.0, low.0) in
    let second : m ≡ punches_of code / 16 % 16 = omega (arith, high.0, middle.0, low.0) in
    let third : l ≡ punches_of code % 16 = omega (arith, high.0, middle.0, low.0) in
    cc

pub column_missing : (bytes more last rest : List ℕ) (h m l : ℕ) → BeginsWithDigit bytes h more → BeginsWithDigit more m last → BeginsWithDigit last l rest →
    ((n : ℕ) → n < 64 → punches_of n ≢ h * 256 + m * 16 + l) → IsNoColumn Punched bytes
unfolding column_of
column_missing bytes more last rest h m l high middle low missing code other below same =
    let begins = high.1 in
    let goes_on = middle.1 in
    let ends = low.1 in
    let first : h ≡ punches_of code / 256 % 16 = hexadecimal_differ _ _ high.0 (omega arith) (cc) in
    let second : m ≡ punches_of code / 16 % 16 = hexadecimal_differ _ _ middle.0 (omega arith) (cc) in
    let third : l ≡ punches_of code % 16 = hexadecimal_differ _ _ low.0 (omega arith) (cc) in
    let within : punches_of code < 4096 = twelve_rows code below in
    missing code below (omega arith)

pub whole_column : (bytes more last rest : List ℕ) (h m l : ℕ) → BeginsWithDigit bytes h more → BeginsWithDigit more m last → BeginsWithDigit last l rest →
    Punches ≡ digits_error 3 bytes
whole_column bytes more last rest h m l high middle low =
    rw (high.1, behind_digit 2 h more high.0, middle.1, behind_digit 1 m last middle.0, low.1, behind_digit 0 l rest low.0) refl
