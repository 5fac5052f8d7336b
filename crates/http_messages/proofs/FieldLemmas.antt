-- digits, and what one more field says
use Rattle.std.proofs.Common.{◌≡◌, ◌∙◌, ℕ, suc, ◌+◌, ◌-◌, ◌*◌, ◌<◌, ◌≤◌, true, false, List, [], ◌∷◌, ◌++◌, length, map, filter, take, get_or, refl, sym, ap, subst, arith, rules}
use Rattle.std.proofs.lemmas.Bool.Decides.{nat_tests}
use Rattle.std.proofs.lemmas.List.Sums.{AllPass-from_list_all}
use Rattle.std.proofs.lemmas.List.Elements.{filter-append}
use Rattle.std.proofs.lemmas.List.{map-append, append-nil}
use Rattle.std.specs.Prelude.{Option, Some, None, codes}
use Rattle.std.specs.List.{list_all}
use Rattle.std.specs.Char.{is_ascii_digit, digit_value}
use Rattle.std.specs.Str.Parse.{digits_value}
use Rattle.std.proofs.lemmas.Int.Digits.{digits_value_more}
use Rattle.std.proofs.lemmas.Str.Parse.{IsNumeralModel, numerals_by_value, digits_value_short, digits_value-take-le}
use Rattle.std.proofs.Math.Seq.{take-suc}
use Rattle.httparse.specs.Spans.{header_bytes}
use Rattle.httparse.specs.declared.spans.HeaderSpan.{HeaderSpan}
use Rattle.http_messages.specs.Fields.{Field, body_length, bytes_or_bad, has_name, length_in, length_of_more, length_said, values_of}
use Rattle.http_messages.specs.declared.lengths.BodyLength.{BodyLength}
use Rattle.http_messages.specs.declared.lengths.BodyLength.TheVariants.{Bad}

digits : IsNumeralModel (λ ds. list_all is_ascii_digit ds ≡ true) (digits_value 10)
digits = numerals_by_value (λ ds. list_all is_ascii_digit ds ≡ true) (search rules)

-- what fewer than 8 digits spell is small
pub small : (ds : List ℕ) (i : ℕ) → list_all is_ascii_digit ds ≡ true → length ds ≤ 7 → digits_value 10 (take i ds) < 10000000
small ds i all short =
    let whole : digits_value 10 ds < 10000000 = digits_value_short digits ds 7 all short in
    let front : digits_value 10 (take i ds) ≤ digits_value 10 ds = digits_value-take-le 10 ds i (omega arith) in
    omega (arith, whole, front)

more_said : (vs : List (List ℕ)) (v : List ℕ) → length_said (vs ++ v ∷ []) ≡ length_of_more (length_said vs) v
more_said [] v = refl
more_said (a ∷ []) v = one (length_in a)
  where
    one : (n : Option ℕ) → Bad ≡ length_of_more (bytes_or_bad n) v
    one (Some n) = refl
    one None = refl
more_said (a ∷ b ∷ vs) v = refl

values_more : (name : List ℕ) (xs : List Field) (f : Field)
    → values_of name (xs ++ f ∷ []) ≡ values_of name xs ++ values_of name (f ∷ [])
values_more name xs f =
    ap (map (λ (g : Field). g.1)) (filter-append (has_name name) xs (f ∷ []))
    ∙ map-append (λ (g : Field). g.1) (filter (has_name name) xs) (filter (has_name name) (f ∷ []))

one_named : (name : List ℕ) (f : Field) → has_name name f ≡ true → values_of name (f ∷ []) ≡ f.1 ∷ []
one_named name f e = rw e refl

one_other : (name : List ℕ) (f : Field) → has_name name f ≡ false → values_of name (f ∷ []) ≡ []
one_other name f e = rw e refl

-- one more field with the length's name
pub named_more : (xs : List Field) (f : Field) → has_name (codes "Content-Length") f ≡ true
    → body_length (xs ++ f ∷ []) ≡ length_of_more (body_length xs) f.1
named_more xs f e =
    ap length_said (values_more (codes "Content-Length") xs f
    ∙ ap (λ (vs : List (List ℕ)). values_of (codes "Content-Length") xs ++ vs) (one_named (codes "Content-Length") f e))
    ∙ more_said (values_of (codes "Content-Length") xs) f.1

-- one more field with another name
pub other_more : (xs : List Field) (f : Field) → has_name (codes "Content-Length") f ≡ false
    → body_length (xs ++ f ∷ []) ≡ body_length xs
other_more xs f e =
    ap length_said (values_more (codes "Content-Length") xs f
    ∙ ap (λ (vs : List (List ℕ)). values_of (codes "Content-Length") xs ++ vs) (one_other (codes "Content-Length") f e)
    ∙ append-nil (values_of (codes "Content-Length") xs))

-- the number of one more digit
pub next_value : (ds : List ℕ) (i number : ℕ) → i < length ds → list_all is_ascii_digit ds ≡ true
    → number ≡ digits_value 10 (take i ds) → number * 10 + (get_or ds i 0 - 48) ≡ digits_value 10 (take (i + 1) ds)
next_value ds i number inside all value =
    let digit : is_ascii_digit (get_or ds i 0) ≡ true = AllPass-from_list_all is_ascii_digit ds all i 0 inside in
    let worth : digit_value (get_or ds i 0) ≡ get_or ds i 0 - 48 = grind (arith, nat_tests) in
    rw (digits_value_more 10 ds i inside, worth, value) refl

-- the fields up to one more
fields_more : (bytes : List ℕ) (fields : List HeaderSpan) (i : ℕ) (d : HeaderSpan) → i < length fields
    → map (header_bytes bytes) (take (i + 1) fields) ≡ map (header_bytes bytes) (take i fields) ++ header_bytes bytes (get_or fields i d) ∷ []
fields_more bytes fields i d inside =
    let one : i + 1 ≡ suc i = omega arith in
    let more : take (i + 1) fields ≡ take i fields ++ get_or fields i d ∷ [] =
    subst (λ (n : ℕ). take n fields ≡ take i fields ++ get_or fields i d ∷ []) (sym one) (take-suc fields i d inside) in
    ap (map (header_bytes bytes)) more ∙ map-append (header_bytes bytes) (take i fields) (get_or fields i d ∷ [])

-- what the fields up to one with the length's name say
pub length_with : (bytes : List ℕ) (fields : List HeaderSpan) (i : ℕ) (d : HeaderSpan) (before after : BodyLength) (value : List ℕ) → i < length fields
    → before ≡ body_length (map (header_bytes bytes) (take i fields))
    → true ≡ has_name (codes "Content-Length") (header_bytes bytes (get_or fields i d))
    → value ≡ (header_bytes bytes (get_or fields i d)).1
    → after ≡ length_of_more before value
    → after ≡ body_length (map (header_bytes bytes) (take (i + 1) fields))
length_with bytes fields i d before after value inside so_far named is next =
    next ∙ ap (λ (l : BodyLength). length_of_more l value) so_far
    ∙ ap (length_of_more (body_length (map (header_bytes bytes) (take i fields)))) is
    ∙ sym (named_more (map (header_bytes bytes) (take i fields)) (header_bytes bytes (get_or fields i d)) (sym named))
    ∙ ap body_length (sym (fields_more bytes fields i d inside))

-- what the fields up to one with another name say
pub length_without : (bytes : List ℕ) (fields : List HeaderSpan) (i : ℕ) (d : HeaderSpan) (before after : BodyLength) → i < length fields
    → before ≡ body_length (map (header_bytes bytes) (take i fields))
    → false ≡ has_name (codes "Content-Length") (header_bytes bytes (get_or fields i d))
    → after ≡ before
    → after ≡ body_length (map (header_bytes bytes) (take (i + 1) fields))
length_without bytes fields i d before after inside so_far named same =
    same ∙ so_far
    ∙ sym (other_more (map (header_bytes bytes) (take i fields)) (header_bytes bytes (get_or fields i d)) (sym named))
    ∙ ap body_length (sym (fields_more bytes fields i d inside))
