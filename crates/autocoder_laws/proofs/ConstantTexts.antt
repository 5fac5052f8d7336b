-- for `constants_are_read` and operands: literals and constants as they are spelled and read
use Rattle.std.proofs.Common.{◌≡◌, ℕ, ◌+◌, ◌-◌, ◌<◌, ◌==◌, Bool, true, false, not, List, [], ◌∷◌, ◌++◌, length, take, drop, get_or, set, Option, Some, None, if◌then◌else◌, option_map, unwrap_or, codes, refl, sym, ◌∙◌, ap, ap₂, subst, arith, inl, inr, ◌⊎◌, append_assoc, length-append, one-add}
use Rattle.std.specs.List.{list_all}
use Rattle.std.proofs.Math.Seq.{take-append_seam, drop-append_seam}
use Rattle.std.proofs.lemmas.List.Folds.{list_all-append}
use Rattle.std.proofs.lemmas.Option.{some_pair_parts}
use Rattle.bcd.specs.Table.{glyph_of}
use Rattle.bcd.specs.declared.Zone.{Zone}
use Rattle.bcd.specs.declared.Zone.TheVariants.{Bare, B, AB}
use Rattle.addresses.specs.Digits.{code_of, digit_under}
use Rattle.addresses.proofs.DigitLemmas.{digit_of-digit_under}
use Rattle.autocoder_statements.specs.Characters.{is_of, run, begins, digit_value}
use Rattle.autocoder_statements.specs.Constants.{quoted_run, quoted_text, with_zone, signed_digits, literal, constant}
use Rattle.autocoder_statements.specs.Expressions.{digit_run, signed_run, positive}
use Rattle.autocoder_statements.specs.declared.characters.Class.TheVariants.{Digit, Quoted}
use Rattle.autocoder_statements.specs.declared.constants.Constant.{Constant}
use Rattle.autocoder_statements.specs.declared.constants.Constant.TheVariants.{Characters, Blanks}
use Rattle.autocoder_laws.specs.Texts.{characters, is_one_of, digits, Joined, IsTyped}
use Rattle.autocoder_laws.specs.Constants.{IsQuoted, IsSigned, IsLiteral, IsConstant}
use Rattle.autocoder_laws.proofs.Classes.{is_of_digit, is_of_quoted, digit_is, digit_named, digit_no_sign}
use Rattle.autocoder_laws.proofs.Fronts.{Front, joined, changed, begins_typed, if_none}
use Rattle.autocoder_statements.proofs.Found.{mapped, some_if}
use Rattle.autocoder_laws.proofs.NumberTexts.{run_front, run_whole, positive_read, positive_spelled}
use Rattle.autocoder_laws.proofs.Tests.{some_test, test_some}
use Rattle.autocoder_statements.proofs.Tests.{both}

-- ---- characters between two @

abbrev no_at : ℕ → Bool
no_at code = not (is_one_of (codes "@") code)

-- 12 is the @
at_stops : (rest : List ℕ) → run Quoted (12 ∷ rest) ≡ 0
unfolding run is_of glyph_of
at_stops rest = refl

quoted_at : (held rest : List ℕ) → 0 < length held → list_all no_at held ≡ true → quoted_text (12 ∷ (held ++ (12 ∷ rest))) ≡ Some (held, 2 + length held)
unfolding quoted_text quoted_run begins glyph_of
quoted_at held rest some others =
    rw (run_whole Quoted no_at is_of_quoted held (12 ∷ rest) others (at_stops rest), some_test (length held) some, one-add, drop-append_seam held (12 ∷ rest), take-append_seam held (12 ∷ rest)) refl

quoted_whole : (held text rest : List ℕ) → IsQuoted held text → text ++ rest ≡ 12 ∷ (held ++ (12 ∷ rest))
unfolding code_of
quoted_whole held text rest h = ap (λ t. t ++ rest) h.said ∙ ap (λ t. 12 ∷ t) (append_assoc held (12 ∷ []) rest)

quoted_long : (held text : List ℕ) → IsQuoted held text → 2 + length held ≡ length text
unfolding code_of
quoted_long held text h = omega (arith, ap length h.said, length-append (12 ∷ held) (12 ∷ []))

pub quoted_read : (held text rest : List ℕ) → IsQuoted held text → quoted_text (text ++ rest) ≡ Some (held, length text)
quoted_read held text rest h = ap quoted_text (quoted_whole held text rest h) ∙ quoted_at held rest h.some h.others ∙ ap (λ n. Some (held, n)) (quoted_long held text h)

record IsHeld (held one : List ℕ) : Type 0 where
  some : 0 < length one
  others : list_all no_at one ≡ true
  same : one ≡ held

abbrev quoted_by : List ℕ → ℕ → Option (List ℕ × ℕ)
quoted_by text k = if k == 0 then None else (if begins (codes "@") (drop (1 + k) text) then Some (take k (drop 1 text), 2 + k) else None)

as_quoted : (held one : List ℕ) → Joined (Joined (IsTyped (codes "@")) (IsHeld held)) (IsTyped (codes "@")) one → IsQuoted held one
as_quoted held one j =
    let own = j.is_one.is_other in
    record {
      some = subst (λ t. 0 < length t) own.same own.some;
      others = subst (λ t. list_all no_at t ≡ true) own.same own.others;
      said = j.said ∙ ap₂ (λ a b. a ++ b) (j.is_one.said ∙ ap₂ (λ a b. a ++ b) j.is_one.is_one own.same) j.is_other;
    }

pub quoted_spelled : (text held : List ℕ) (n : ℕ) → quoted_text text ≡ Some (held, n) → Front (IsQuoted held) text n
unfolding quoted_text quoted_run code_of glyph_of
quoted_spelled text held n e = by_at (begins (codes "@") text) refl e
  where
    by_at : (test : Bool) → begins (codes "@") text ≡ test →
        quoted_by text (if test then run Quoted (drop 1 text) else 0) ≡ Some (held, n) → Front (IsQuoted held) text n
    by_at false t h = absurd (cc)
    by_at true t h =
        let k = run Quoted (drop 1 text) in
        let p = if_none (run Quoted (drop 1 text) == 0) _ _ h in
        let q = some_if (begins (codes "@") (drop (1 + run Quoted (drop 1 text)) text)) _ _ p.1 in
        let same = some_pair_parts _ _ _ _ (ap Some q.1) in
        let f = run_front Quoted no_at is_of_quoted (drop 1 text) in
        let g : Front (IsHeld held) (drop 1 text) k = record {
          one = f.one;
          rest = f.rest;
          said = f.said;
          counted = f.counted;
          is_one = record { some = subst (λ m. 0 < m) (sym f.counted) (test_some k p.0); others = f.is_one; same = same.0 };
        } in
        let opened = joined text 1 k (begins_typed (codes "@") text refl t) g in
        let closed = joined text (1 + k) 1 opened (begins_typed (codes "@") (drop (1 + k) text) refl q.0) in
        let count : (1 + k) + 1 ≡ n = omega (arith, same.1) in
        subst (Front (IsQuoted held) text) count (changed text ((1 + k) + 1) (as_quoted held) closed)

-- ---- digits after a sign

set_last : (front : List ℕ) (x y : ℕ) → set (front ++ (x ∷ [])) (length front) y ≡ front ++ (y ∷ [])
set_last [] x y = refl
set_last (c ∷ front) x y = ap (λ t. c ∷ t) (set_last front x y)

at_last : (front : List ℕ) (x : ℕ) → get_or (front ++ (x ∷ [])) (length front) 0 ≡ x
at_last [] x = refl
at_last (c ∷ front) x = at_last front x

before_last : (front : List ℕ) (x : ℕ) → length (front ++ (x ∷ [])) - 1 ≡ length front
before_last front x = omega (arith, length-append front (x ∷ []))

zoned_last : (zone : Zone) (front : List ℕ) (x : ℕ) → with_zone zone (front ++ (x ∷ [])) ≡ front ++ (digit_under zone (digit_value x) ∷ [])
unfolding with_zone
zoned_last zone front x = rw (before_last front x, at_last front x) (set_last front x (digit_under zone (digit_value x)))

value_is : (d : ℕ) → d < 10 → digit_value (digit_under Bare d) ≡ d
value_is d h = ap (λ found. unwrap_or found 0) (digit_of-digit_under Bare d h)

all_with : (front : List ℕ) (x : ℕ) → list_all (is_one_of digits) front ≡ true → is_one_of digits x ≡ true → list_all (is_one_of digits) (front ++ (x ∷ [])) ≡ true
all_with front x h k = list_all-append (is_one_of digits) front (x ∷ []) ∙ rw (h, k) refl

-- how the digits are read
held_is : (sign : List ℕ) (zone : Zone) (held text : List ℕ) (h : IsSigned sign zone held text) → with_zone zone (h.front ++ (digit_under Bare h.last ∷ [])) ≡ held
held_is sign zone held text h = zoned_last zone h.front (digit_under Bare h.last)
    ∙ ap (λ d. h.front ++ (digit_under zone d ∷ [])) (value_is h.last h.is_digit) ∙ sym h.holds

module _ (word rest : List ℕ) (some : 0 < length word) (all : list_all (is_one_of digits) word ≡ true) (none : digit_run rest ≡ 0) where
  -- 48 is &
  plus_signed : signed_digits (48 ∷ (word ++ rest)) ≡ Some (with_zone AB word, 1 + length word)
  unfolding signed_digits signed_run begins glyph_of
  plus_signed = rw (run_whole Digit (is_one_of digits) is_of_digit word rest all none, some_test (length word) some, take-append_seam word rest) refl

  -- 32 is -
  minus_signed : signed_digits (32 ∷ (word ++ rest)) ≡ Some (with_zone B word, 1 + length word)
  unfolding signed_digits signed_run begins glyph_of
  minus_signed = rw (run_whole Digit (is_one_of digits) is_of_digit word rest all none, some_test (length word) some, take-append_seam word rest) refl

longer : (front : List ℕ) (x : ℕ) → 0 < length (front ++ (x ∷ []))
longer front x = omega (arith, length-append front (x ∷ []))

plus_text : (held text : List ℕ) (h : IsSigned (codes "&") AB held text) → text ≡ 48 ∷ (h.front ++ (digit_under Bare h.last ∷ []))
unfolding code_of
plus_text held text h = h.said

minus_text : (held text : List ℕ) (h : IsSigned (codes "-") B held text) → text ≡ 32 ∷ (h.front ++ (digit_under Bare h.last ∷ []))
unfolding code_of
minus_text held text h = h.said

pub plus_read : (held text rest : List ℕ) → IsSigned (codes "&") AB held text → digit_run rest ≡ 0 → signed_digits (text ++ rest) ≡ Some (held, length text)
plus_read held text rest h none =
    let word : List ℕ = h.front ++ (digit_under Bare h.last ∷ []) in
    let e = plus_text held text h in
    ap (λ t. signed_digits (t ++ rest)) e
    ∙ plus_signed word rest (longer h.front _) (all_with h.front _ h.are_digits (digit_named h.last h.is_digit)) none
    ∙ ap₂ (λ x n. Some (x, n)) (held_is (codes "&") AB held text h) (one-add (length word) ∙ sym (ap length e))

pub minus_read : (held text rest : List ℕ) → IsSigned (codes "-") B held text → digit_run rest ≡ 0 → signed_digits (text ++ rest) ≡ Some (held, length text)
minus_read held text rest h none =
    let word : List ℕ = h.front ++ (digit_under Bare h.last ∷ []) in
    let e = minus_text held text h in
    ap (λ t. signed_digits (t ++ rest)) e
    ∙ minus_signed word rest (longer h.front _) (all_with h.front _ h.are_digits (digit_named h.last h.is_digit)) none
    ∙ ap₂ (λ x n. Some (x, n)) (held_is (codes "-") B held text h) (one-add (length word) ∙ sym (ap length e))

record Ending (word : List ℕ) : Type 0 where
  front : List ℕ
  last : ℕ
  said : word ≡ front ++ (last ∷ [])

ending : (word : List ℕ) → 0 < length word → Ending word
ending [] some = absurd (omega arith)
ending (c ∷ []) some = record { front = []; last = c; said = refl }
ending (c ∷ d ∷ word) some =
    let more = ending (d ∷ word) (omega arith) in
    record { front = c ∷ more.front; last = more.last; said = ap (λ t. c ∷ t) more.said }

-- digits that were read after a sign
record IsDigits (zone : Zone) (held one : List ℕ) : Type 0 where
  some : 0 < length one
  all : list_all (is_one_of digits) one ≡ true
  same : with_zone zone one ≡ held

as_signed : (sign : List ℕ) (zone : Zone) (held one : List ℕ) → Joined (IsTyped sign) (IsDigits zone held) one → IsSigned sign zone held one
as_signed sign zone held one j =
    let own = j.is_other in
    let end = ending j.other own.some in
    let parts = both (list_all (is_one_of digits) end.front) _ (sym (list_all-append (is_one_of digits) end.front (end.last ∷ [])) ∙ ap (list_all (is_one_of digits)) (sym end.said) ∙ own.all) in
    let digit = digit_is end.last (both (is_one_of digits end.last) true parts.1).0 in
    record {
      front = end.front;
      last = digit_value end.last;
      are_digits = parts.0;
      is_digit = digit.1;
      said = j.said ∙ ap₂ (λ a b. a ++ b) j.is_one (end.said ∙ ap (λ d. end.front ++ (d ∷ [])) digit.0) ∙ sym (append_assoc (characters sign) end.front (digit_under Bare (digit_value end.last) ∷ []));
      holds = sym own.same ∙ ap (with_zone zone) end.said ∙ zoned_last zone end.front end.last;
    }

signed_front : (sign : List ℕ) (zone : Zone) (text held : List ℕ) (n : ℕ) → length sign ≡ 1 → Front (IsTyped sign) text (length sign) → (digit_run (drop 1 text) == 0) ≡ false →
    with_zone zone (take (digit_run (drop 1 text)) (drop 1 text)) ≡ held → 1 + digit_run (drop 1 text) ≡ n → Front (IsSigned sign zone held) text n
signed_front sign zone text held n long f some same count =
    let k = digit_run (drop 1 text) in
    let g = run_front Digit (is_one_of digits) is_of_digit (drop 1 text) in
    let word : Front (IsDigits zone held) (drop 1 text) k = record {
      one = g.one;
      rest = g.rest;
      said = g.said;
      counted = g.counted;
      is_one = record { some = subst (λ m. 0 < m) (sym g.counted) (test_some k some); all = g.is_one; same = same };
    } in
    subst (Front (IsSigned sign zone held) text) count (changed text (1 + k) (as_signed sign zone held) (joined text 1 k (subst (Front (IsTyped sign) text) long f) word))

abbrev signed_by : List ℕ → Zone → ℕ → Option (List ℕ × ℕ)
signed_by text zone k = if k == 0 then None else Some (with_zone zone (take k (drop 1 text)), 1 + k)

abbrev IsEither : List ℕ → List ℕ → Type 0
IsEither held text = IsSigned (codes "&") AB held text ⊎ IsSigned (codes "-") B held text

pub signed_spelled : (text held : List ℕ) (n : ℕ) → signed_digits text ≡ Some (held, n) → Front (IsEither held) text n
unfolding signed_digits signed_run code_of glyph_of
signed_spelled text held n e = by_plus (begins (codes "&") text) refl e
  where
    by_minus : (test : Bool) → begins (codes "-") text ≡ test →
        signed_by text (if test then B else Bare) (if test then digit_run (drop 1 text) else 0) ≡ Some (held, n) → Front (IsEither held) text n
    by_minus false t h = absurd (cc)
    by_minus true t h =
        let p = if_none (digit_run (drop 1 text) == 0) _ _ h in
        let same = some_pair_parts _ _ _ _ p.1 in
        changed text n (λ one h. inr h) (signed_front (codes "-") B text held n refl (begins_typed (codes "-") text refl t) p.0 same.0 same.1)

    by_plus : (test : Bool) → begins (codes "&") text ≡ test →
        signed_by text (if test then AB else (if begins (codes "-") text then B else Bare)) (if test then digit_run (drop 1 text) else (if begins (codes "-") text then digit_run (drop 1 text) else 0))
        ≡ Some (held, n) → Front (IsEither held) text n
    by_plus false t h = by_minus (begins (codes "-") text) refl h
    by_plus true t h =
        let p = if_none (digit_run (drop 1 text) == 0) _ _ h in
        let same = some_pair_parts _ _ _ _ p.1 in
        changed text n (λ one h. inl h) (signed_front (codes "&") AB text held n refl (begins_typed (codes "&") text refl t) p.0 same.0 same.1)

-- ---- literals

-- 12, 48 and 32 are @, & and -
abbrev pub IsLiteralStart : List ℕ → Type 0
IsLiteralStart text = (tail : List ℕ) × ((text ≡ 12 ∷ tail) ⊎ ((text ≡ 48 ∷ tail) ⊎ (text ≡ 32 ∷ tail)))

pub literal_start : (held text : List ℕ) → IsLiteral held text → IsLiteralStart text
unfolding code_of
literal_start held text (inl h) = (held ++ (12 ∷ []), inl h.said)
literal_start held text (inr (inl h)) = (h.front ++ (digit_under Bare h.last ∷ []), inr (inl h.said))
literal_start held text (inr (inr h)) = (h.front ++ (digit_under Bare h.last ∷ []), inr (inr h.said))

by_quoted : (tail : List ℕ) → literal (12 ∷ tail) ≡ quoted_text (12 ∷ tail)
unfolding literal begins glyph_of
by_quoted tail = refl

by_plus_sign : (tail : List ℕ) → literal (48 ∷ tail) ≡ signed_digits (48 ∷ tail)
unfolding literal begins glyph_of
by_plus_sign tail = refl

by_minus_sign : (tail : List ℕ) → literal (32 ∷ tail) ≡ signed_digits (32 ∷ tail)
unfolding literal begins glyph_of
by_minus_sign tail = refl

pub literal_read : (held text rest : List ℕ) → IsLiteral held text → digit_run rest ≡ 0 → literal (text ++ rest) ≡ Some (held, length text)
unfolding code_of
literal_read held text rest (inl h) none =
    let e : text ++ rest ≡ 12 ∷ ((held ++ (12 ∷ [])) ++ rest) = ap (λ t. t ++ rest) h.said in
    ap literal e ∙ by_quoted _ ∙ ap quoted_text (sym e) ∙ quoted_read held text rest h
literal_read held text rest (inr (inl h)) none =
    let e = ap (λ t. t ++ rest) (plus_text held text h) in
    ap literal e ∙ by_plus_sign _ ∙ ap signed_digits (sym e) ∙ plus_read held text rest h none
literal_read held text rest (inr (inr h)) none =
    let e = ap (λ t. t ++ rest) (minus_text held text h) in
    ap literal e ∙ by_minus_sign _ ∙ ap signed_digits (sym e) ∙ minus_read held text rest h none

pub literal_spelled : (text held : List ℕ) (n : ℕ) → literal text ≡ Some (held, n) → Front (IsLiteral held) text n
unfolding literal
literal_spelled text held n e = by_test (begins (codes "@") text) e
  where
    by_test : (test : Bool) → (if test then quoted_text text else signed_digits text) ≡ Some (held, n) → Front (IsLiteral held) text n
    by_test true h = changed text n (λ one h. inl h) (quoted_spelled text held n h)
    by_test false h = changed text n (λ one h. inr h) (signed_spelled text held n h)

-- ---- constants

same_found : (a b : Constant × ℕ) → Some a ≡ Some b → a ≡ b
same_found a b h = cc

abbrev as_blanks : ℕ × ℕ → Constant × ℕ
as_blanks found = (Blanks found.0, 1 + found.1)

abbrev as_characters : List ℕ × ℕ → Constant × ℕ
as_characters found = (Characters found.0, found.1)

-- 11 is #
constant_blanks : (tail : List ℕ) → constant (11 ∷ tail) ≡ option_map as_blanks (positive tail)
unfolding constant begins glyph_of
constant_blanks tail = refl

constant_literal : (text rest : List ℕ) → IsLiteralStart text → constant (text ++ rest) ≡ option_map as_characters (literal (text ++ rest))
unfolding constant begins run is_of glyph_of
constant_literal text rest (tail, inl e) = rw e refl
constant_literal text rest (tail, inr (inl e)) = rw e refl
constant_literal text rest (tail, inr (inr e)) = rw e refl

no_number_sign : (text rest : List ℕ) → 0 < length text → list_all (is_one_of digits) text ≡ true → begins (codes "#") (text ++ rest) ≡ false
unfolding begins
no_number_sign [] rest some all = absurd (omega arith)
no_number_sign (c ∷ text) rest some all = rw (digit_no_sign c (both (is_one_of digits c) _ all).0) refl

constant_digits : (text rest : List ℕ) → 0 < length text → list_all (is_one_of digits) text ≡ true → digit_run rest ≡ 0 → constant (text ++ rest) ≡ Some (Characters text, length text)
unfolding constant
constant_digits text rest some all none =
    rw (no_number_sign text rest some all, run_whole Digit (is_one_of digits) is_of_digit text rest all none, some_test (length text) some, take-append_seam text rest) refl

pub constant_read : (c : Constant) (text rest : List ℕ) → IsConstant c text → digit_run rest ≡ 0 → constant (text ++ rest) ≡ Some (c, length text)
unfolding code_of
constant_read (Blanks n) text rest h none =
    let e : text ≡ 11 ∷ h.other = h.said ∙ ap (λ one. one ++ h.other) h.is_one in
    ap (λ t. constant (t ++ rest)) e ∙ constant_blanks (h.other ++ rest) ∙ ap (option_map as_blanks) (positive_read n h.other rest h.is_other none)
    ∙ ap (λ k. Some (Blanks n, k)) (one-add (length h.other) ∙ sym (ap length e))
constant_read (Characters held) text rest (inl h) none =
    constant_literal text rest (literal_start held text h) ∙ ap (option_map as_characters) (literal_read held text rest h none)
constant_read (Characters held) text rest (inr h) none =
    ap (λ t. constant (t ++ rest)) h.said ∙ constant_digits held rest h.some h.are_digits none ∙ ap (λ k. Some (Characters held, k)) (sym (ap length h.said))

pub constant_spelled : (text : List ℕ) (c : Constant) (n : ℕ) → constant text ≡ Some (c, n) → Front (IsConstant c) text n
unfolding constant code_of glyph_of
constant_spelled text c n e = by_sign (begins (codes "#") text) refl e
  where
    own : (found : Constant × ℕ) → found ≡ (c, n) → Front (IsConstant found.0) text found.1 → Front (IsConstant c) text n
    own found same f = subst (λ (p : Constant × ℕ). Front (IsConstant p.0) text p.1) same f

    by_digits : (test : Bool) → (digit_run text == 0) ≡ test →
        (if test then option_map as_characters (literal text) else Some (as_characters (take (digit_run text) text, digit_run text))) ≡ Some (c, n) →
        Front (IsConstant c) text n
    by_digits true t h =
        let ((held, k), found, same) = mapped as_characters (literal text) (c, n) h in
        own (Characters held, k) same (changed text k (λ one h. inl h) (literal_spelled text held k found))
    by_digits false t h =
        let f = run_front Digit (is_one_of digits) is_of_digit text in
        let g : Front (IsConstant (Characters (take (digit_run text) text))) text (digit_run text) = record {
          one = f.one;
          rest = f.rest;
          said = f.said;
          counted = f.counted;
          is_one = inr (record { some = subst (λ m. 0 < m) (sym f.counted) (test_some (digit_run text) t); are_digits = f.is_one; said = refl });
        } in
        own (Characters (take (digit_run text) text), digit_run text) (same_found _ _ h) g

    by_sign : (test : Bool) → begins (codes "#") text ≡ test →
        (if test then option_map as_blanks (positive (drop 1 text))
        else (if digit_run text == 0 then option_map as_characters (literal text) else Some (as_characters (take (digit_run text) text, digit_run text)))) ≡ Some (c, n) →
        Front (IsConstant c) text n
    by_sign true t h =
        let ((m, k), found, same) = mapped as_blanks (positive (drop 1 text)) (c, n) h in
        own (Blanks m, 1 + k) same (joined text 1 k (begins_typed (codes "#") text refl t) (positive_spelled (drop 1 text) m k found))
    by_sign false t h = by_digits (digit_run text == 0) refl h
