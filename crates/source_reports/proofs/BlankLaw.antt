-- for the law `carets_stand_behind_a_blank`
use Rattle.std.proofs.Common.{◌≡◌, ℕ, suc, ◌+◌, ◌<◌, ◌≤◌, Bool, true, false, not, ◌&&◌, ◌||◌, ◌⊎◌, inl, inr, List, [], ◌∷◌, length, drop, get_or, Some, None, if◌then◌else◌, refl, sym, ◌∙◌, ap, arith, length-drop}
use Rattle.std.specs.Option.{option_map}
use Rattle.std.specs.Prelude.{cond, nat_lt}
use Rattle.std.specs.List.{list_all, position, position_or_len}
use Rattle.std.proofs.lemmas.Bool.{lt-ltb, le-ltb, not-true, not-false}
use Rattle.std.proofs.lemmas.List.{get_or-drop}
use Rattle.std.proofs.lemmas.List.Quantifiers.{position-Some}
use Rattle.cards.specs.declared.decks.Card.{Card}
use Rattle.autocoder_statements.specs.Characters.{is_blank, is_of, run}
use Rattle.autocoder_statements.specs.Statements.{word_run, is_broken, label_field, operation_field}
use Rattle.autocoder_statements.proofs.Tests.{both_ways}
use Rattle.source_reports.specs.Carets.{IsBehindBlank, IsStrayAt}
use Rattle.source_reports.specs.Places.{stray, column_from, broken_column}

-- whether a character is no blank
abbrev is_filled : ℕ → Bool
is_filled code = not (is_blank code)

-- the first character of what is not all blank
first_within : (text : List ℕ) → list_all is_blank text ≡ false
    → position_or_len is_filled text < length text
first_within [] e = absurd (cc)
first_within (code ∷ text) e = by_test (first_within text) (is_blank code) e
  where
    by_test : (list_all is_blank text ≡ false → position_or_len is_filled text < length text)
        → (test : Bool) → (test && list_all is_blank text) ≡ false
        → cond (not (not test)) (1 + position_or_len is_filled text) 0 < suc (length text)
    by_test further true more = omega (arith, further more)
    by_test further false more = omega arith

first_filled : (text : List ℕ) → list_all is_blank text ≡ false
    → position is_filled text ≡ Some (position_or_len is_filled text)
first_filled text e =
    let within : nat_lt (position_or_len is_filled text) (length text) ≡ true =
    lt-ltb (position_or_len is_filled text) (length text) (first_within text e) in
    ap (λ b. cond b (Some (position_or_len is_filled text)) None) within

-- a word ends at a blank, if it does not take its whole field
blank_behind : (text : List ℕ) → word_run text < length text
    → is_blank (get_or text (word_run text) 0) ≡ true
unfolding run is_of
blank_behind [] below = absurd (omega arith)
blank_behind (code ∷ text) below = by_test (blank_behind text) (is_blank code) refl below
  where
    by_test : (word_run text < length text → is_blank (get_or text (word_run text) 0) ≡ true)
        → (test : Bool) → is_blank code ≡ test
        → (if not test then 1 + word_run text else 0) < suc (length text)
        → is_blank (get_or (code ∷ text) (if not test then 1 + word_run text else 0) 0) ≡ true
    by_test further true is below = is
    by_test further false is below =
        let next : 1 + word_run text ≡ suc (word_run text) = omega arith in
        ap (λ n. is_blank (get_or (code ∷ text) n 0)) next
        ∙ further (omega arith)

-- a broken field has a character behind a blank
broken : (field : List ℕ) → is_broken field ≡ true
    → (index : ℕ) × (stray field ≡ Some index) × IsBehindBlank field index
unfolding is_broken stray
broken field e = (
  word_run field + count,
  ap (option_map (λ n. word_run field + n)) found,
  record {
    gap = word_run field;
    order = after;
    within = omega (arith, known.0, length-drop (word_run field) field);
    blank = blank;
    filled = filled;
  },
)
  where
    rest : List ℕ
    rest = drop (word_run field) field

    count : ℕ
    count = position_or_len is_filled rest

    found : position is_filled rest ≡ Some count
    found = first_filled rest (not-true (list_all is_blank rest) e)

    known : (count < length rest) × (is_filled (get_or rest count 0) ≡ true)
        × ((k : ℕ) → k < count → is_filled (get_or rest k 0) ≡ false)
    known = position-Some is_filled rest count 0 found

    blank : is_blank (get_or field (word_run field) 0) ≡ true
    blank = blank_behind field (omega (arith, known.0, length-drop (word_run field) field))

    filled : is_blank (get_or field (word_run field + count) 0) ≡ false
    filled = ap is_blank (sym (get_or-drop (word_run field) field count 0))
        ∙ not-true (is_blank (get_or rest count 0)) known.1

    apart : count ≡ 0 → ⊥
    apart none =
        let here : is_blank (get_or field (word_run field) 0) ≡ false =
        ap (λ n. is_blank (get_or field n 0)) (omega arith) ∙ filled in
        both_ways (is_blank (get_or field (word_run field) 0)) here blank

    after : word_run field < word_run field + count
    after = omega (arith, apart)

-- what is all blank has no character
none_within : (text : List ℕ) → list_all is_blank text ≡ true
    → length text ≤ position_or_len is_filled text
none_within [] e = omega arith
none_within (code ∷ text) e = by_test (none_within text) (is_blank code) e
  where
    by_test : (list_all is_blank text ≡ true → length text ≤ position_or_len is_filled text)
        → (test : Bool) → (test && list_all is_blank text) ≡ true
        → suc (length text) ≤ cond (not (not test)) (1 + position_or_len is_filled text) 0
    by_test further true more = omega (arith, further more)
    by_test further false more = absurd (cc)

-- a field that is not broken has no character behind a blank
unbroken : (field : List ℕ) → is_broken field ≡ false → stray field ≡ None
unfolding is_broken stray
unbroken field e =
    let rest : List ℕ = drop (word_run field) field in
    let none = none_within rest (not-false (list_all is_blank rest) e) in
    let past : nat_lt (position_or_len is_filled rest) (length rest) ≡ false =
    le-ltb (position_or_len is_filled rest) (length rest) none in
    ap (λ b. option_map (λ n. word_run field + n) (cond b (Some (position_or_len is_filled rest)) None)) past

pub caret_behind_blank : (card : Card)
    → (is_broken (label_field card) || is_broken (operation_field card)) ≡ true
    → IsStrayAt (label_field card) 6 (broken_column card)
    ⊎ IsStrayAt (operation_field card) 16 (broken_column card)
unfolding broken_column
caret_behind_blank card e = by_label (is_broken (label_field card)) refl e
  where
    operation : ℕ
    operation = column_from 16 16 (stray (operation_field card))

    by_label : (test : Bool) → is_broken (label_field card) ≡ test
        → (test || is_broken (operation_field card)) ≡ true
        → IsStrayAt (label_field card) 6 (column_from 6 operation (stray (label_field card)))
        ⊎ IsStrayAt (operation_field card) 16 (column_from 6 operation (stray (label_field card)))
    by_label true is some =
        let at = broken (label_field card) is in
        inl (at.0, ap (column_from 6 operation) at.1, at.2)
    by_label false is some =
        let at = broken (operation_field card) some in
        inr (at.0, ap (column_from 6 operation) (unbroken (label_field card) is) ∙ ap (column_from 16 16) at.1, at.2)
