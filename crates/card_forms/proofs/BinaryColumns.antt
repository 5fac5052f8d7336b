-- the columns of column binary, and the punch file for which they stand
use Rattle.std.proofs.Common.{◌≡◌, ◌≢◌, ℕ, ◌+◌, ◌*◌, ◌/◌, ◌%◌, ◌<◌, ◌==◌, ◌&&◌, true, false, not, List, [], ◌∷◌, ◌++◌, length, refl, ap, sym, ◌∙◌, arith, append_assoc, ltb}
use Rattle.std.specs.List.{flat_map, All}
use Rattle.std.proofs.lemmas.Bool.{lt-ltb, ltb-true}
use Rattle.std.proofs.lemmas.List.Elements.{All-head, All-tail}
use Rattle.bcd.proofs.Tables.{at_each}
use Rattle.bcd.specs.Table.{punches_of}
use Rattle.cards.proofs.FormColumns.{hexadecimal_differ, twelve_rows}
use Rattle.cards.specs.Decks.{IsCard, AreCharacters}
use Rattle.cards.specs.declared.Card.{Card}
use Rattle.cards.specs.Files.{column_of, digits_of, hexadecimal, punch_file_of}
use Rattle.card_forms.specs.ColumnBinary.{binary_of, column_bytes, column_digits, digits_behind, punch_file_for}

-- the number is a character's
abbrev IsNumber : ℕ → Type 0
IsNumber code = code < 64

-- the digits of a character's punches
abbrev pub digits_for : ℕ → List ℕ
digits_for code = digits_of (punches_of code)

-- the two bytes of a character stand for the digits of its punches
bytes_told : (rows : ℕ) → rows < 4096 → column_digits (rows / 64 % 64) (rows % 64) ≡ digits_of rows
unfolding column_digits
bytes_told rows twelve =
    let whole : 64 * (rows / 64 % 64) + rows % 64 ≡ rows = omega arith in
    rw (lt-ltb (rows / 64 % 64) 64 (omega arith), lt-ltb (rows % 64) 64 (omega arith), whole) refl

-- the bytes of the columns that a card has left stand for their digits, and the end of the line
pub columns_told : (codes : List ℕ) (columns : ℕ) (rest : List ℕ) → AreCharacters codes
    → columns + length codes ≡ 80 → 0 < length codes
    → digits_behind columns (flat_map column_bytes codes ++ rest) ≡ flat_map digits_for codes ++ 10 ∷ digits_behind 0 rest
unfolding digits_behind column_bytes
columns_told [] columns rest each eighty some = absurd (omega arith)
columns_told (code ∷ []) columns rest each eighty some =
    let last : columns ≡ 79 = omega arith in
    rw (last, bytes_told (punches_of code) (twelve_rows code (All-head IsNumber code [] each))) refl
columns_told (code ∷ next ∷ codes) columns rest each eighty some =
    let more : (columns == 79) ≡ false = grind arith in
    rw (
      more,
      bytes_told (punches_of code) (twelve_rows code (All-head IsNumber code (next ∷ codes) each)),
      columns_told (next ∷ codes) (columns + 1) rest (All-tail IsNumber code (next ∷ codes) each) (omega arith) (omega arith),
    ) refl

-- the digits of a card's line in a punch file
line_of_digits : (codes : List ℕ) → punch_file_of (record { 0 = codes } ∷ []) ≡ flat_map digits_for codes ++ 10 ∷ []
unfolding column_of
line_of_digits [] = refl
line_of_digits (code ∷ codes) = ap (λ rest. digits_for code ++ rest) (line_of_digits codes)

pub file_on : (card : Card) (deck : List Card) → punch_file_of (card ∷ deck) ≡ flat_map digits_for card.0 ++ 10 ∷ punch_file_of deck
file_on card deck = sym (append_assoc _ [] (punch_file_of deck)) ∙ ap (λ line. line ++ punch_file_of deck) (line_of_digits card.0)
    ∙ append_assoc (flat_map digits_for card.0) (10 ∷ []) (punch_file_of deck)

-- what is written of a deck stands for the deck's punch file
pub deck_told : (deck : List Card) → All IsCard deck → punch_file_for (binary_of deck) ≡ punch_file_of deck
unfolding digits_behind
deck_told [] each = refl
deck_told (card ∷ deck) each =
    let is = All-head IsCard card deck each in
    columns_told card.0 0 (binary_of deck) is.1 (omega (arith, is.0)) (omega (arith, is.0))
    ∙ ap (λ rest. flat_map digits_for card.0 ++ 10 ∷ rest) (deck_told deck (All-tail IsCard card deck each))
    ∙ sym (file_on card deck)

-- no digit is a line feed or a question mark
digit_plain : (number : ℕ) → number < 16 → (not (hexadecimal number == 10) && not (hexadecimal number == 63)) ≡ true
digit_plain number below = at_each (λ k. not (hexadecimal k == 10) && not (hexadecimal k == 63)) 16 refl number below

no_feed : (number : ℕ) → number < 16 → hexadecimal number ≢ 10
no_feed number below = grind (arith, digit_plain number below)

no_mark : (number : ℕ) → number < 16 → hexadecimal number ≢ 63
no_mark number below = grind (arith, digit_plain number below)

-- three digits are those of one pattern
same_digits : (one two : ℕ) (r s : List ℕ) → one < 4096 → two < 4096 → digits_of one ++ r ≡ digits_of two ++ s → (one ≡ two) × (r ≡ s)
same_digits one two r s below under same =
    let high : one / 256 % 16 ≡ two / 256 % 16 = hexadecimal_differ _ _ (omega arith) (omega arith) (cc) in
    let middle : one / 16 % 16 ≡ two / 16 % 16 = hexadecimal_differ _ _ (omega arith) (omega arith) (cc) in
    let low : one % 16 ≡ two % 16 = hexadecimal_differ _ _ (omega arith) (omega arith) (cc) in
    (omega arith, cc)

-- two bytes that stand for the digits of a character are its column's
pub record IsColumn (upper lower code : ℕ) (r s : List ℕ) : Type 0 where
  pub upper_rows : upper ≡ punches_of code / 64 % 64
  pub lower_rows : lower ≡ punches_of code % 64
  pub behind : r ≡ s

both_below : (upper lower : ℕ) → (ltb upper 64 && ltb lower 64) ≡ true → (upper < 64) × (lower < 64)
both_below upper lower test = (ltb-true upper 64 (grind (arith, test)), ltb-true lower 64 (grind (arith, test)))

pub column_from : (upper lower code : ℕ) (r s : List ℕ) → code < 64 → column_digits upper lower ++ r ≡ digits_for code ++ s
    → IsColumn upper lower code r s
unfolding column_digits
column_from upper lower code r s below same =
    (elim (ltb upper 64 && ltb lower 64) as (λ b. (ltb upper 64 && ltb lower 64) ≡ b → IsColumn upper lower code r s) [
      | true ↦ λ test.
          let within = both_below upper lower test in
          let digits : digits_of (64 * upper + lower) ++ r ≡ digits_for code ++ s = rw test at same in
          let one = same_digits (64 * upper + lower) (punches_of code) r s (omega (arith, within.0, within.1)) (twelve_rows code below) digits in
          record {
            upper_rows = omega (arith, one.0, within.0, within.1);
            lower_rows = omega (arith, one.0, within.0, within.1);
            behind = one.1;
          }
      | false ↦ λ test.
          let marks : 63 ∷ 63 ∷ 63 ∷ r ≡ digits_for code ++ s = rw test at same in
          absurd (no_mark (punches_of code / 256 % 16) (omega arith) (cc))
    ]) refl

-- two bytes that are a column's
bytes_of : (upper lower code : ℕ) (rest : List ℕ) → upper ≡ punches_of code / 64 % 64 → lower ≡ punches_of code % 64
    → upper ∷ lower ∷ rest ≡ column_bytes code ++ rest
unfolding column_bytes
bytes_of upper lower code rest upper_rows lower_rows = cc

-- what stands behind the columns of a card, where the bytes stand for their digits
pub record IsBehind (codes bytes more : List ℕ) : Type 0 where
  pub rest : List ℕ
  pub columns : bytes ≡ flat_map column_bytes codes ++ rest
  pub stands : digits_behind 0 rest ≡ more

pub columns_from : (codes : List ℕ) (columns : ℕ) (bytes more : List ℕ) → AreCharacters codes
    → columns + length codes ≡ 80 → 0 < length codes
    → digits_behind columns bytes ≡ flat_map digits_for codes ++ 10 ∷ more → IsBehind codes bytes more
unfolding digits_behind column_bytes
columns_from [] columns bytes more each eighty some told = absurd (omega arith)
columns_from (code ∷ codes) columns [] more each eighty some told = absurd (cc)
columns_from (code ∷ codes) columns (half ∷ []) more each eighty some told =
    absurd (no_feed (punches_of code / 256 % 16) (omega arith) (cc))
columns_from (code ∷ []) columns (upper ∷ lower ∷ rest) more each eighty some told =
    let last : columns ≡ 79 = omega arith in
    let line : column_digits upper lower ++ 10 ∷ digits_behind 0 rest ≡ digits_for code ++ 10 ∷ more = rw last at told in
    let column = column_from upper lower code (10 ∷ digits_behind 0 rest) (10 ∷ more) (All-head IsNumber code [] each) line in
    record {
      rest = rest;
      columns = bytes_of upper lower code rest column.upper_rows column.lower_rows;
      stands = let behind = column.behind in cc;
    }
columns_from (code ∷ next ∷ codes) columns (upper ∷ lower ∷ rest) more each eighty some told =
    let inside : (columns == 79) ≡ false = grind arith in
    let line : column_digits upper lower ++ digits_behind (columns + 1) rest ≡ digits_for code ++ (flat_map digits_for (next ∷ codes) ++ 10 ∷ more) = rw inside at told in
    let column = column_from upper lower code (digits_behind (columns + 1) rest) (flat_map digits_for (next ∷ codes) ++ 10 ∷ more) (All-head IsNumber code (next ∷ codes) each) line in
    let others = columns_from (next ∷ codes) (columns + 1) rest more (All-tail IsNumber code (next ∷ codes) each) (omega arith) (omega arith) column.behind in
    record {
      rest = others.rest;
      columns = bytes_of upper lower code rest column.upper_rows column.lower_rows ∙ ap (λ (bytes : List ℕ). column_bytes code ++ bytes) others.columns;
      stands = others.stands;
    }

-- bytes that stand for nothing are none
none_told : (bytes : List ℕ) → digits_behind 0 bytes ≡ [] → bytes ≡ []
unfolding digits_behind column_digits
none_told [] told = refl
none_told (half ∷ []) told = absurd (cc)
none_told (upper ∷ lower ∷ rest) told =
    (elim (ltb upper 64 && ltb lower 64) as (λ b. (ltb upper 64 && ltb lower 64) ≡ b → upper ∷ lower ∷ rest ≡ []) [
      | true ↦ λ test. let none = rw test at told in absurd (cc)
      | false ↦ λ test. let none = rw test at told in absurd (cc)
    ]) refl

-- bytes that stand for a deck's punch file are what is written of the deck
pub deck_from : (deck : List Card) (bytes : List ℕ) → All IsCard deck → punch_file_for bytes ≡ punch_file_of deck → bytes ≡ binary_of deck
deck_from [] bytes each told = none_told bytes told
deck_from (card ∷ deck) bytes each told =
    let is = All-head IsCard card deck each in
    let first = columns_from card.0 0 bytes (punch_file_of deck) is.1 (omega (arith, is.0)) (omega (arith, is.0)) (told ∙ file_on card deck) in
    first.columns ∙ ap (λ rest. flat_map column_bytes card.0 ++ rest) (deck_from deck first.rest (All-tail IsCard card deck each) first.stands)
