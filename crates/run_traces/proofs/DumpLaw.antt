-- a dump is read back
use Rattle.std.proofs.Common.{◌≡◌, ◌⊎◌, inl, inr, ℕ, zero, suc, ◌+◌, ◌-◌, ◌*◌, ◌%◌, ◌^◌, ◌<◌, ◌≤◌, ◌==◌, ◌&&◌, not, Bool, true, false, if◌then◌else◌, List, [], ◌∷◌, ◌++◌, length, length-append, map, take, drop, replicate, get_or, refl, sym, ap, ◌∙◌, arith, append-nil, append_assoc}
use Rattle.std.specs.Prelude.{codes, zip, decimal}
use Rattle.std.specs.List.{list_all, suffix_len, All, range_with_len}
use Rattle.std.specs.Str.Parse.{digits_value}
use Rattle.std.proofs.lemmas.Bool.{eqb-true, ne_eqb}
use Rattle.std.proofs.lemmas.Fmt.{decimal_by_steps, decimal_is_IsNumeral, length-decimal-le}
use Rattle.std.proofs.lemmas.List.{length-replicate, length-map, take_at, drop_at, drop-drop, take-append-drop, drop_all, get_or_append_left}
use Rattle.std.proofs.lemmas.List.Elements.{All-drop, All-head, All-map, All-tail, All-take}
use Rattle.std.proofs.lemmas.List.Folds.{list_all-append}
use Rattle.std.proofs.lemmas.List.FromFn.{get_or-range_with_len}
use Rattle.std.proofs.lemmas.Slice.Eq.{bytes_eq-Decides}
use Rattle.bcd.specs.Table.{glyph_of, glyphs}
use Rattle.addresses.specs.Digits.{code_of}
use Rattle.core_store.specs.Storage.{Storage, codes_from, marks_from}
use Rattle.core_store.proofs.Fields.{length-codes_from}
use Rattle.core_store.proofs.MarkRows.{length-marks_from}
use Rattle.autocoder.specs.Listing.{blank, glyphs_of, line_text, position_field, zero_digit}
use Rattle.run_traces.specs.Reading.{behind_blank, behind_line, behind_marks, behind_row, codes_read, columns_of, first_line, has_marks, has_row, marks_read, row_read, storage_read, whole_line}
use Rattle.run_traces.specs.Rows.{blank_shown, follows_blank, has_mark, is_blank_at, mark_shown, marks_shown, row_length, row_lines, row_shown, rows_shown}
use Rattle.run_traces.proofs.LinesRead.{behind_again, clean, line_again}

-- ---- digits

-- no byte below that of the digit 0
abbrev pub high : List ℕ → Bool
high bytes = list_all (λ byte. not (byte == 10) && not (byte == 32) && not (byte == 40)) bytes

high_digit : (n : ℕ) → high ((48 + n) ∷ []) ≡ true
high_digit n =
    let a = ne_eqb (48 + n) 10 (omega arith) in
    let b = ne_eqb (48 + n) 32 (omega arith) in
    let c = ne_eqb (48 + n) 40 (omega arith) in
    rw (a, b, c) refl

high_append : (xs ys : List ℕ) → high xs ≡ true → high ys ≡ true → high (xs ++ ys) ≡ true
high_append xs ys one other = list_all-append _ xs ys ∙ ap (λ b. b && high ys) one ∙ other

high_decimal : (n : ℕ) → n < 2 ^ 64 → high (decimal n) ≡ true
high_decimal n h = decimal_by_steps (λ n ds. high ds ≡ true) (λ n below. high_digit n) (λ n ds above front. high_append ds ((48 + n % 10) ∷ []) front (high_digit (n % 10))) n h

high_zeros : (n : ℕ) → high (replicate n zero_digit) ≡ true
high_zeros zero = refl
high_zeros (suc n) = high_zeros n

pub high_position : (n : ℕ) → n < 2 ^ 64 → high (position_field n) ≡ true
high_position n h = high_append (replicate (5 - length (decimal n)) zero_digit) (decimal n) (high_zeros (5 - length (decimal n))) (high_decimal n h)

pub length-position_field : (n : ℕ) → n < 100000 → length (position_field n) ≡ 5
length-position_field n h =
    let short : length (decimal n) ≤ 5 = length-decimal-le 5 n (omega arith) h (omega (arith, h)) in
    length-append (replicate (5 - length (decimal n)) zero_digit) (decimal n) ∙ ap (λ k. k + length (decimal n)) (length-replicate (5 - length (decimal n)) zero_digit) ∙ omega arith

zeros_value : (k : ℕ) (ds : List ℕ) → digits_value 10 (replicate k zero_digit ++ ds) ≡ digits_value 10 ds
zeros_value zero ds = refl
zeros_value (suc k) ds = zeros_value k ds

position_value : (n : ℕ) → n < 2 ^ 64 → digits_value 10 (position_field n) ≡ n
position_value n h = zeros_value (5 - length (decimal n)) (decimal n) ∙ (decimal_is_IsNumeral n h).1

pub position_field_injective : (a b : ℕ) → a < 2 ^ 64 → b < 2 ^ 64 → position_field a ≡ position_field b → a ≡ b
position_field_injective a b ha hb same = sym (position_value a ha) ∙ ap (digits_value 10) same ∙ position_value b hb

high_one : (x : ℕ) (xs : List ℕ) (a b c : Bool) → (x == 10) ≡ a → (not a && not b && not c) && high xs ≡ true → (not (x == 10) ≡ true) × (high xs ≡ true)
high_one x xs false false false is h = (ap not is, h)
high_one x xs true b c is h = absurd (cc)
high_one x xs false true c is h = absurd (cc)
high_one x xs false false true is h = absurd (cc)

pub clean_high : (xs : List ℕ) → high xs ≡ true → clean xs ≡ true
clean_high [] h = refl
clean_high (x ∷ xs) h =
    let one = high_one x xs (x == 10) (x == 32) (x == 40) refl h in
    ap (λ b. b && clean xs) one.0 ∙ clean_high xs one.1

high_bytes : (x : ℕ) (xs : List ℕ) (a b c : Bool) → (x == 32) ≡ b → (x == 40) ≡ c → (not a && not b && not c) && high xs ≡ true → ((x == 32) ≡ false) × ((x == 40) ≡ false)
high_bytes x xs false false false is other h = (is, other)
high_bytes x xs true b c is other h = absurd (cc)
high_bytes x xs false true c is other h = absurd (cc)
high_bytes x xs false false true is other h = absurd (cc)

pub high_first : (xs : List ℕ) → high xs ≡ true → 0 < length xs → (get_or xs 0 0 == 32 ≡ false) × (get_or xs 0 0 == 40 ≡ false)
high_first [] h some = absurd (omega (arith, some))
high_first (x ∷ xs) h some = high_bytes x xs (x == 10) (x == 32) (x == 40) refl refl h

not_both : (b : Bool) → (b ≡ true → ⊥) → b ≡ false
not_both true never = absurd (never refl)
not_both false never = refl

both_true : (a b : Bool) → a && b ≡ true → (a ≡ true) × (b ≡ true)
both_true true b h = (refl, h)
both_true false b h = absurd (cc)

not_true : (b : Bool) → not b ≡ true → b ≡ false
not_true true h = absurd (cc)
not_true false h = refl

true_not_false : true ≡ false → ⊥
true_not_false h = cc

and_false : (b : Bool) → b && false ≡ false
and_false true = refl
and_false false = refl

-- ---- glyphs

clean_get : (xs : List ℕ) → clean xs ≡ true → (n : ℕ) → not (get_or xs n 0 == 10) ≡ true
clean_get [] h n = refl
clean_get (x ∷ xs) h zero = both (not (x == 10)) (clean xs) h
  where
    both : (a b : Bool) → a && b ≡ true → a ≡ true
    both true b e = refl
    both false b e = absurd (cc)
clean_get (x ∷ xs) h (suc n) = clean_get xs (rest (not (x == 10)) (clean xs) h) n
  where
    rest : (a b : Bool) → a && b ≡ true → b ≡ true
    rest true b e = e
    rest false b e = absurd (cc)

pub clean_glyphs : (xs : List ℕ) → clean (glyphs_of xs) ≡ true
unfolding glyph_of
clean_glyphs [] = refl
clean_glyphs (x ∷ xs) = ap (λ b. b && clean (glyphs_of xs)) (clean_get glyphs refl x) ∙ clean_glyphs xs

get_or-codes : (f : ℕ → ℕ) (xs : List ℕ) (n d : ℕ) → n < length xs → f (get_or xs n d) ≡ get_or (map f xs) n d
get_or-codes f [] n d h = absurd (omega (arith, h))
get_or-codes f (x ∷ xs) zero d h = refl
get_or-codes f (x ∷ xs) (suc n) d h = get_or-codes f xs n d (omega (arith, h))

all_codes : map code_of glyphs ≡ range_with_len 0 64
unfolding code_of
all_codes = refl

pub code_again : (n : ℕ) → n < 64 → code_of (glyph_of n) ≡ n
unfolding glyph_of
code_again n h = get_or-codes code_of glyphs n 0 h ∙ ap (λ xs. get_or xs n 0) all_codes ∙ get_or-range_with_len 0 64 n 0 h ∙ omega arith

pub codes_again : (xs : List ℕ) → All (λ code. code < 64) xs → map code_of (glyphs_of xs) ≡ xs
codes_again [] h = refl
codes_again (x ∷ xs) h =
    ap (λ c. c ∷ map code_of (glyphs_of xs)) (code_again x (All-head (λ code. code < 64) x xs h)) ∙ ap (λ cs. x ∷ cs) (codes_again xs (All-tail (λ code. code < 64) x xs h))

-- ---- marks

pub clean_marks : (marks : List Bool) → clean (map mark_shown marks) ≡ true
clean_marks [] = refl
clean_marks (true ∷ marks) = clean_marks marks
clean_marks (false ∷ marks) = clean_marks marks

pub marks_again : (marks : List Bool) → map (λ byte. byte == 39) (map mark_shown marks) ≡ marks
marks_again [] = refl
marks_again (true ∷ marks) = ap (λ ms. true ∷ ms) (marks_again marks)
marks_again (false ∷ marks) = ap (λ ms. false ∷ ms) (marks_again marks)

pub no_marks : (marks : List Bool) → has_mark marks ≡ false → marks ≡ replicate (length marks) false
no_marks [] h = refl
no_marks (true ∷ marks) h = absurd (cc)
no_marks (false ∷ marks) h = ap (λ ms. false ∷ ms) (no_marks marks h)

no_code : (x : ℕ) (xs : List ℕ) (b : Bool) → (x == 0) ≡ b → (if b then true else false) && list_all (λ code. code == 0) xs ≡ true
    → (x ≡ 0) × (list_all (λ code. code == 0) xs ≡ true)
no_code x xs true is rest = (eqb-true x 0 is, rest)
no_code x xs false is rest = absurd (cc)

pub no_codes : (xs : List ℕ) → list_all (λ code. code == 0) xs ≡ true → xs ≡ replicate (length xs) 0
no_codes [] h = refl
no_codes (x ∷ xs) h =
    let none = no_code x xs (x == 0) refl (whole (x == 0) (list_all (λ code. code == 0) xs) h) in
    ap (λ y. y ∷ xs) none.0 ∙ ap (λ ys. 0 ∷ ys) (no_codes xs none.1)
  where
    whole : (b c : Bool) → b && c ≡ true → (if b then true else false) && c ≡ true
    whole true c e = e
    whole false c e = absurd (cc)

pub zip_again : (cells : Storage) → zip (map (λ cell. cell.0) cells) (map (λ cell. cell.1) cells) ≡ cells
zip_again [] = refl
zip_again (cell ∷ cells) = ap (λ rest. cell ∷ rest) (zip_again cells)

pub zip_blank : (n : ℕ) (codes : List ℕ) (marks : List Bool) → codes ≡ replicate n 0 → marks ≡ replicate n false → zip codes marks ≡ replicate n (0, false)
zip_blank n codes marks one other = ap (λ xs. zip xs marks) one ∙ ap (λ ms. zip (replicate n 0) ms) other ∙ zipped n
  where
    zipped : (n : ℕ) → zip {K = ℕ} (replicate n 0) (replicate n false) ≡ replicate n (0, false)
    zipped zero = refl
    zipped (suc n) = ap (λ rest. (0, false) ∷ rest) (zipped n)

-- ---- the lines of a row

module _ (s : Storage) (rows : ℕ) (whole : length s ≡ row_length * rows) (few : rows ≤ 320) (below : All (λ cell. cell.0 < 64) s) where
  codes_of : ℕ → List ℕ
  codes_of row = codes_from s (row_length * row) row_length

  marks_of : ℕ → List Bool
  marks_of row = marks_from s (row_length * row) row_length

  line_of : ℕ → List ℕ
  line_of row = (position_field (row_length * row) ++ blank ∷ []) ++ glyphs_of (codes_of row)

  within : (row : ℕ) → row < rows → row_length * row + row_length ≤ length s
  within row h = omega (arith, whole, h)

  small : (row : ℕ) → row < rows → (row_length * row < 100000) × (row_length * row < 2 ^ 64)
  small row h = (omega (arith, h, few), omega (arith, h, few))

  length_codes : (row : ℕ) → row < rows → length (codes_of row) ≡ 50
  unfolding codes_of
  length_codes row h = length-codes_from s (row_length * row) row_length (within row h)

  length_marks : (row : ℕ) → row < rows → length (marks_of row) ≡ 50
  unfolding marks_of
  length_marks row h = length-marks_from s (row_length * row) row_length (within row h)

  length_head : (row : ℕ) → row < rows → length (position_field (row_length * row) ++ blank ∷ []) ≡ 6
  length_head row h = length-append (position_field (row_length * row)) (blank ∷ []) ∙ ap (λ n. n + 1) (length-position_field (row_length * row) (small row h).0)

  length_line : (row : ℕ) → row < rows → length (line_of row) ≡ 56
  unfolding line_of
  length_line row h =
      length-append (position_field (row_length * row) ++ blank ∷ []) (glyphs_of (codes_of row)) ∙ omega (arith, length_head row h, length-map (codes_of row) glyph_of, length_codes row h)

  clean_line : (row : ℕ) → row < rows → clean (line_of row) ≡ true
  unfolding line_of
  clean_line row h =
      list_all-append _ (position_field (row_length * row) ++ blank ∷ []) (glyphs_of (codes_of row))
      ∙ ap (λ b. b && clean (glyphs_of (codes_of row))) (list_all-append _ (position_field (row_length * row)) (blank ∷ []) ∙ ap (λ b. b && true) (clean_high (position_field (row_length * row)) (high_position (row_length * row) (small row h).1)))
      ∙ clean_glyphs (codes_of row)

  -- what is read of the text that begins with the line of a row
  module _ (row : ℕ) (h : row < rows) (rest : List ℕ) where
    columns : columns_of (line_text (line_of row) ++ rest) ≡ line_of row
    columns = line_again 56 (line_of row) rest (length_line row h) (clean_line row h)

    behind : behind_line (line_text (line_of row) ++ rest) ≡ rest
    behind = behind_again (line_of row) rest (clean_line row h)

    address : take 5 (columns_of (line_text (line_of row) ++ rest)) ≡ position_field (row_length * row)
    unfolding line_of
    address =
        ap (take 5) (columns ∙ append_assoc (position_field (row_length * row)) (blank ∷ []) (glyphs_of (codes_of row)))
        ∙ take_at (position_field (row_length * row)) _ 5 (length-position_field (row_length * row) (small row h).0)

    glyphs_there : drop 6 (columns_of (line_text (line_of row) ++ rest)) ≡ glyphs_of (codes_of row)
    unfolding line_of
    glyphs_there = ap (drop 6) columns ∙ drop_at (position_field (row_length * row) ++ blank ∷ []) (glyphs_of (codes_of row)) 6 (length_head row h)

    has_it : has_row row (line_text (line_of row) ++ rest) ≡ true
    has_it = (bytes_eq-Decides (take 5 (columns_of (line_text (line_of row) ++ rest))) (position_field (row_length * row))).1 address

    first_byte : get_or (columns_of (line_text (line_of row) ++ rest)) 0 0 ≡ get_or (position_field (row_length * row)) 0 0
    unfolding line_of
    first_byte =
        ap (λ xs. get_or xs 0 0) (columns ∙ append_assoc (position_field (row_length * row)) (blank ∷ []) (glyphs_of (codes_of row)))
        ∙ get_or_append_left (position_field (row_length * row)) _ 0 0 (omega (arith, length-position_field (row_length * row) (small row h).0))

    not_low : (get_or (columns_of (line_text (line_of row) ++ rest)) 0 0 == 32 ≡ false) × (get_or (columns_of (line_text (line_of row) ++ rest)) 0 0 == 40 ≡ false)
    not_low =
        let digit = high_first (position_field (row_length * row)) (high_position (row_length * row) (small row h).1) (omega (arith, length-position_field (row_length * row) (small row h).0)) in
        (ap (λ byte. byte == 32) first_byte ∙ digit.0, ap (λ byte. byte == 40) first_byte ∙ digit.1)

    no_other : (other : ℕ) → other < row → has_row other (line_text (line_of row) ++ rest) ≡ false
    no_other other less =
        not_both (has_row other (line_text (line_of row) ++ rest))
        (λ yes.
        let same = sym address ∙ (bytes_eq-Decides (take 5 (columns_of (line_text (line_of row) ++ rest))) (position_field (row_length * other))).0 yes in
        let equal = position_field_injective (row_length * row) (row_length * other) (small row h).1 (small other (omega (arith, less, h))).1 same in
        omega (arith, equal, less))

    passes_none : behind_blank (line_text (line_of row) ++ rest) ≡ line_text (line_of row) ++ rest
    passes_none = ap (λ b. if b then behind_line (line_text (line_of row) ++ rest) else line_text (line_of row) ++ rest) not_low.1

    no_marks_there : has_marks (line_text (line_of row) ++ rest) ≡ false
    no_marks_there = ap (λ b. not (length (line_text (line_of row) ++ rest) == 0) && b) not_low.0 ∙ and_false (not (length (line_text (line_of row) ++ rest) == 0))

  -- what is read of the text that begins with the line under a row, where it has one
  module _ (row : ℕ) (h : row < rows) (rest : List ℕ) where
    marks_line : List ℕ
    marks_line = codes "      " ++ map mark_shown (marks_of row)

    length_marks_line : length marks_line ≡ 56
    unfolding marks_line
    length_marks_line = omega (arith, length-map (marks_of row) mark_shown, length_marks row h)

    clean_marks_line : clean marks_line ≡ true
    unfolding marks_line
    clean_marks_line = clean_marks (marks_of row)

    marks_columns : columns_of (line_text marks_line ++ rest) ≡ marks_line
    marks_columns = line_again 56 marks_line rest length_marks_line clean_marks_line

    marks_there : has_marks (line_text marks_line ++ rest) ≡ true
    unfolding marks_line line_text
    marks_there =
        let some : (length (line_text marks_line ++ rest) == 0) ≡ false = ne_eqb _ 0 (omega (arith, length-append (line_text marks_line) rest, length-append (take (length marks_line - suffix_len (λ g. g == blank) marks_line) marks_line) (10 ∷ []))) in
        ap (λ b. not b && (get_or (columns_of (line_text marks_line ++ rest)) 0 0 == 32)) some ∙ ap (λ xs. get_or xs 0 0 == 32) marks_columns

    marks_behind : behind_marks (line_text marks_line ++ rest) ≡ rest
    marks_behind = ap (λ b. if b then behind_line (line_text marks_line ++ rest) else line_text marks_line ++ rest) marks_there ∙ behind_again marks_line rest clean_marks_line

    marks_are : marks_read (line_text marks_line ++ rest) ≡ marks_of row
    unfolding marks_line
    marks_are =
        ap (λ b. if b then map (λ byte. byte == 39) (drop 6 (columns_of (line_text marks_line ++ rest))) else replicate row_length false) marks_there
        ∙ ap (λ xs. map (λ byte. byte == 39) (drop 6 xs)) marks_columns ∙ marks_again (marks_of row)

  -- the positions of a row
  cells_of : ℕ → Storage
  cells_of row = take 50 (drop (row_length * row) s)

  row_cells : (row : ℕ) → zip (codes_of row) (marks_of row) ≡ cells_of row
  unfolding codes_of marks_of cells_of codes_from marks_from
  row_cells row =
      let fifty : row_length * row + row_length - row_length * row ≡ 50 = omega arith in
      zip_again (take (row_length * row + row_length - row_length * row) (drop (row_length * row) s)) ∙ ap (λ n. take n (drop (row_length * row) s)) fifty

  cells_then : (row : ℕ) → cells_of row ++ drop (row_length * (row + 1)) s ≡ drop (row_length * row) s
  unfolding cells_of
  cells_then row =
      let next : row_length * row + 50 ≡ row_length * (row + 1) = omega arith in
      ap (λ n. take 50 (drop (row_length * row) s) ++ drop n s) (sym next) ∙ ap (λ xs. take 50 (drop (row_length * row) s) ++ xs) (sym (drop-drop 50 (row_length * row) s)) ∙ take-append-drop 50 (drop (row_length * row) s)

  blank_cells : (row : ℕ) → row < rows → is_blank_at s row ≡ true → replicate row_length (0, false) ≡ cells_of row
  unfolding codes_of marks_of
  blank_cells row h is =
      let parts = both_true (list_all (λ code. code == 0) (codes_of row)) (not (has_mark (marks_of row))) is in
      let none = no_codes (codes_of row) parts.0 ∙ ap (λ n. replicate n 0) (length_codes row h) in
      let bare = no_marks (marks_of row) (not_true (has_mark (marks_of row)) parts.1) ∙ ap (λ n. replicate n false) (length_marks row h) in
      sym (zip_blank 50 (codes_of row) (marks_of row) none bare) ∙ row_cells row

  codes_below : (row : ℕ) → row < rows → All (λ code. code < 64) (codes_of row)
  unfolding codes_of codes_from
  codes_below row h = All-map (λ code. code < 64) (λ cell. cell.0) _ (All-take (λ cell. cell.0 < 64) _ _ (All-drop (λ cell. cell.0 < 64) _ s below))

  -- the rows from the front on
  from_front : Bool → ℕ → ℕ → List ℕ
  from_front follows row zero = []
  from_front follows row (suc count) = row_shown s follows row ++ from_front (is_blank_at s row) (row + 1) count

  shown_blank : (follows : Bool) (row : ℕ) → is_blank_at s row ≡ true → row_shown s follows row ≡ blank_shown follows
  unfolding row_shown
  shown_blank follows row is =
      ap (λ b. if b then blank_shown follows else row_lines (row_length * row) (codes_from s (row_length * row) row_length) (marks_from s (row_length * row) row_length)) is

  shown_lines : (follows : Bool) (row : ℕ) → is_blank_at s row ≡ false → row_shown s follows row ≡ line_text (line_of row) ++ marks_shown (marks_of row)
  unfolding row_shown line_of codes_of marks_of
  shown_lines follows row is =
      ap (λ b. if b then blank_shown follows else row_lines (row_length * row) (codes_from s (row_length * row) row_length) (marks_from s (row_length * row) row_length)) is

  -- behind a blank row nothing is left, or a line of a later row comes first
  abbrev Begins : ℕ → List ℕ → Type 0
  Begins row text = (text ≡ []) ⊎ ((q : ℕ) × (rest : List ℕ) × (row ≤ q) × (q < rows) × (text ≡ line_text (line_of q) ++ rest))

  later : (row : ℕ) (text same : List ℕ) → text ≡ same → Begins (row + 1) same → Begins row text
  later row text same is (inl none) = inl (is ∙ none)
  later row text same is (inr (q, rest, above, there, line)) = inr (q, rest, omega arith, there, is ∙ line)

  begins_by : (count row : ℕ) (b : Bool) → row + suc count ≡ rows → is_blank_at s row ≡ b → Begins (row + 1) (from_front true (row + 1) count)
      → Begins row (row_shown s true row ++ from_front (is_blank_at s row) (row + 1) count)
  begins_by count row true h is rest =
      later row _ (from_front true (row + 1) count) (ap (λ t. t ++ from_front (is_blank_at s row) (row + 1) count) (shown_blank true row is) ∙ ap (λ b. from_front b (row + 1) count) is) rest
  begins_by count row false h is rest =
      inr (
        row,
        marks_shown (marks_of row) ++ from_front (is_blank_at s row) (row + 1) count,
        omega arith,
        omega (arith, h),
        ap (λ t. t ++ from_front (is_blank_at s row) (row + 1) count) (shown_lines true row is)
            ∙ append_assoc (line_text (line_of row)) (marks_shown (marks_of row)) (from_front (is_blank_at s row) (row + 1) count),
      )

  begins : (count row : ℕ) → row + count ≡ rows → Begins row (from_front true row count)
  unfolding from_front
  begins zero row h = inl refl
  begins (suc count) row h = begins_by count row (is_blank_at s row) h refl (begins count (row + 1) (omega (arith, h)))

  nothing_passed : behind_blank [] ≡ []
  unfolding first_line whole_line
  nothing_passed = refl

  begin_passes : (row : ℕ) (text : List ℕ) → Begins row text → behind_blank text ≡ text
  begin_passes row text (inl none) = ap behind_blank none ∙ nothing_passed ∙ sym none
  begin_passes row text (inr (q, rest, above, there, line)) = ap behind_blank line ∙ passes_none q there rest ∙ sym line

  nothing_first : get_or (take 5 (columns_of [])) 0 0 ≡ 32
  unfolding first_line whole_line
  nothing_first = refl

  no_row_at_end : (other : ℕ) → other < rows → has_row other [] ≡ false
  no_row_at_end other h =
      not_both (has_row other [])
      (λ yes.
      let same = (bytes_eq-Decides (take 5 (columns_of [])) (position_field (row_length * other))).0 yes in
      let digit = high_first (position_field (row_length * other)) (high_position (row_length * other) (small other h).1) (omega (arith, length-position_field (row_length * other) (small other h).0)) in
      true_not_false (ap (λ byte. byte == 32) (sym nothing_first ∙ ap (λ xs. get_or xs 0 0) same) ∙ digit.0))

  begin_row : (other row : ℕ) (text : List ℕ) → other < row → other < rows → Begins row text → has_row other text ≡ false
  begin_row other row text less h (inl none) = ap (has_row other) none ∙ no_row_at_end other h
  begin_row other row text less h (inr (q, rest, above, there, line)) = ap (has_row other) line ∙ no_other q there rest other (omega arith)

  -- a row that is blank and without a mark
  blank_passed : (follows : Bool) (row : ℕ) (rest : List ℕ) → Begins row rest → behind_blank (blank_shown follows ++ rest) ≡ rest
  unfolding first_line behind_line whole_line
  blank_passed true row rest first = begin_passes row rest first
  blank_passed false row rest first = refl

  read_blank : (count row : ℕ) (follows : Bool) → row + suc count ≡ rows → is_blank_at s row ≡ true
      → storage_read count (row + 1) (from_front true (row + 1) count) ≡ drop (row_length * (row + 1)) s
      → storage_read (suc count) row (row_shown s follows row ++ from_front (is_blank_at s row) (row + 1) count) ≡ drop (row_length * row) s
  unfolding storage_read
  read_blank count row follows h is others =
      let rest = from_front true (row + 1) count in
      let first = begins count (row + 1) (omega (arith, h)) in
      let here : row < rows = omega (arith, h) in
      let text = row_shown s follows row ++ from_front (is_blank_at s row) (row + 1) count in
      let same : text ≡ blank_shown follows ++ rest = ap (λ t. t ++ from_front (is_blank_at s row) (row + 1) count) (shown_blank follows row is) ∙ ap (λ b. blank_shown follows ++ from_front b (row + 1) count) is in
      let passed : behind_blank text ≡ rest = ap behind_blank same ∙ blank_passed follows (row + 1) rest first in
      let none : has_row row rest ≡ false = begin_row row (row + 1) rest (omega arith) here first in
      ap (λ t. row_read row t ++ storage_read count (row + 1) (behind_row row t)) passed
      ∙ ap (λ b. (if b then zip (codes_read rest) (marks_read (behind_line rest)) else replicate row_length (0, false)) ++ storage_read count (row + 1) (if b then behind_marks (behind_line rest) else rest)) none
      ∙ ap (λ cells. cells ++ storage_read count (row + 1) rest) (blank_cells row here is)
      ∙ ap (λ cells. cells_of row ++ cells) others
      ∙ cells_then row

  -- a row with lines
  blank_unmarked : (rest : List ℕ) → has_marks (blank_shown false ++ rest) ≡ false
  unfolding first_line whole_line
  blank_unmarked rest = and_false (not (length (blank_shown false ++ rest) == 0))

  no_marks_by : (count row : ℕ) (b : Bool) → row + suc count ≡ rows → is_blank_at s row ≡ b → has_marks (row_shown s false row ++ from_front (is_blank_at s row) (row + 1) count) ≡ false
  no_marks_by count row true h is =
      ap (λ t. has_marks (t ++ from_front (is_blank_at s row) (row + 1) count)) (shown_blank false row is) ∙ blank_unmarked (from_front (is_blank_at s row) (row + 1) count)
  no_marks_by count row false h is =
      ap has_marks
      (ap (λ t. t ++ from_front (is_blank_at s row) (row + 1) count) (shown_lines false row is)
      ∙ append_assoc (line_text (line_of row)) (marks_shown (marks_of row)) (from_front (is_blank_at s row) (row + 1) count))
      ∙ no_marks_there row (omega (arith, h)) (marks_shown (marks_of row) ++ from_front (is_blank_at s row) (row + 1) count)

  no_marks_next : (count row : ℕ) → row + count ≡ rows → has_marks (from_front false row count) ≡ false
  unfolding from_front
  no_marks_next zero row h = refl
  no_marks_next (suc count) row h = no_marks_by count row (is_blank_at s row) h refl

  -- the word marks of a row, and what is behind them
  marks_by : (row : ℕ) (rest : List ℕ) (b : Bool) → row < rows → has_marks rest ≡ false → has_mark (marks_of row) ≡ b
      → (marks_read (marks_shown (marks_of row) ++ rest) ≡ marks_of row) × (behind_marks (marks_shown (marks_of row) ++ rest) ≡ rest)
  unfolding marks_line
  marks_by row rest true h unmarked is =
      let shown = ap (λ b. (if b then line_text (codes "      " ++ map mark_shown (marks_of row)) else []) ++ rest) is in
      (ap marks_read shown ∙ marks_are row h rest, ap behind_marks shown ∙ marks_behind row h rest)
  marks_by row rest false h unmarked is =
      let shown = ap (λ b. (if b then line_text (codes "      " ++ map mark_shown (marks_of row)) else []) ++ rest) is in
      let bare = no_marks (marks_of row) is ∙ ap (λ n. replicate n false) (length_marks row h) in (
        ap marks_read shown ∙ ap (λ b. if b then map (λ byte. byte == 39) (drop 6 (columns_of rest)) else replicate row_length false) unmarked ∙ sym bare,
        ap behind_marks shown ∙ ap (λ b. if b then behind_line rest else rest) unmarked,
      )

  read_lines : (count row : ℕ) (follows : Bool) → row + suc count ≡ rows → is_blank_at s row ≡ false
      → storage_read count (row + 1) (from_front false (row + 1) count) ≡ drop (row_length * (row + 1)) s
      → storage_read (suc count) row (row_shown s follows row ++ from_front (is_blank_at s row) (row + 1) count) ≡ drop (row_length * row) s
  unfolding storage_read
  read_lines count row follows h is others =
      let rest = from_front false (row + 1) count in
      let here : row < rows = omega (arith, h) in
      let more = marks_shown (marks_of row) ++ rest in
      let text = line_text (line_of row) ++ more in
      let same : row_shown s follows row ++ from_front (is_blank_at s row) (row + 1) count ≡ text =
      ap (λ t. t ++ from_front (is_blank_at s row) (row + 1) count) (shown_lines follows row is)
      ∙ ap (λ b. (line_text (line_of row) ++ marks_shown (marks_of row)) ++ from_front b (row + 1) count) is
      ∙ append_assoc (line_text (line_of row)) (marks_shown (marks_of row)) rest in
      let marked = marks_by row rest (has_mark (marks_of row)) here (no_marks_next count (row + 1) (omega (arith, h))) refl in
      let characters : codes_read text ≡ codes_of row = ap (map code_of) (glyphs_there row here more) ∙ codes_again (codes_of row) (codes_below row here) in
      ap (λ t. row_read row t ++ storage_read count (row + 1) (behind_row row t)) (ap behind_blank same ∙ passes_none row here more)
      ∙ ap (λ b. (if b then zip (codes_read text) (marks_read (behind_line text)) else replicate row_length (0, false)) ++ storage_read count (row + 1) (if b then behind_marks (behind_line text) else text)) (has_it row here more)
      ∙ ap (λ xs. zip xs (marks_read (behind_line text)) ++ storage_read count (row + 1) (behind_marks (behind_line text))) characters
      ∙ ap (λ t. zip (codes_of row) (marks_read t) ++ storage_read count (row + 1) (behind_marks t)) (behind row here more)
      ∙ ap (λ ms. zip (codes_of row) ms ++ storage_read count (row + 1) (behind_marks more)) marked.0
      ∙ ap (λ t. zip (codes_of row) (marks_of row) ++ storage_read count (row + 1) t) marked.1
      ∙ ap (λ cells. cells ++ storage_read count (row + 1) rest) (row_cells row)
      ∙ ap (λ cells. cells_of row ++ cells) others
      ∙ cells_then row

  read_by : (count row : ℕ) (follows b : Bool) → row + suc count ≡ rows → is_blank_at s row ≡ b
      → ((f : Bool) → storage_read count (row + 1) (from_front f (row + 1) count) ≡ drop (row_length * (row + 1)) s)
      → storage_read (suc count) row (row_shown s follows row ++ from_front (is_blank_at s row) (row + 1) count) ≡ drop (row_length * row) s
  read_by count row follows true h is others = read_blank count row follows h is (others true)
  read_by count row follows false h is others = read_lines count row follows h is (others false)

  read : (count row : ℕ) (follows : Bool) → row + count ≡ rows → storage_read count row (from_front follows row count) ≡ drop (row_length * row) s
  unfolding from_front storage_read
  read zero row follows h = sym (drop_all (row_length * row) s (omega (arith, whole, h)))
  read (suc count) row follows h = read_by count row follows (is_blank_at s row) h refl (λ f. read count (row + 1) f (omega (arith, h)))

  -- the rows from the front on are those that are shown
  last_follows : Bool → ℕ → ℕ → Bool
  last_follows follows row zero = follows
  last_follows follows row (suc count) = is_blank_at s (row + count)

  last_on : (row count : ℕ) → last_follows (is_blank_at s row) (row + 1) count ≡ is_blank_at s (row + count)
  unfolding last_follows
  last_on row zero = let same : row ≡ row + 0 = omega arith in ap (is_blank_at s) same
  last_on row (suc count) = let same : row + 1 + count ≡ row + suc count = omega arith in ap (is_blank_at s) same

  front_ends : (count row : ℕ) (follows : Bool) → from_front follows row (suc count) ≡ from_front follows row count ++ row_shown s (last_follows follows row count) (row + count)
  unfolding from_front last_follows
  front_ends zero row follows = let same : row ≡ row + 0 = omega arith in append-nil (row_shown s follows row) ∙ ap (row_shown s follows) same
  front_ends (suc count) row follows =
      let next : row + 1 + count ≡ row + suc count = omega arith in
      ap (λ t. row_shown s follows row ++ t) (front_ends count (row + 1) (is_blank_at s row))
      ∙ sym (append_assoc (row_shown s follows row) (from_front (is_blank_at s row) (row + 1) count) _)
      ∙ ap (λ b. (row_shown s follows row ++ from_front (is_blank_at s row) (row + 1) count) ++ row_shown s b (row + 1 + count)) (last_on row count)
      ∙ ap (λ n. (row_shown s follows row ++ from_front (is_blank_at s row) (row + 1) count) ++ row_shown s (is_blank_at s (row + count)) n) next

  follows_same : (row count : ℕ) → follows_blank s row count ≡ last_follows false row count
  unfolding follows_blank last_follows
  follows_same row zero = refl
  follows_same row (suc count) = refl

  front_is : (row count : ℕ) → rows_shown s row count ≡ from_front false row count
  unfolding rows_shown from_front
  front_is row zero = refl
  front_is row (suc count) =
      ap (λ t. t ++ row_shown s (follows_blank s row count) (row + count)) (front_is row count)
      ∙ ap (λ b. from_front false row count ++ row_shown s b (row + count)) (follows_same row count)
      ∙ sym (front_ends count row false)

  pub read_back : storage_read rows 0 (rows_shown s 0 rows) ≡ s
  read_back = ap (storage_read rows 0) (front_is 0 rows) ∙ read rows 0 false (omega arith)
