-- the fields of a line of a manifest
use Rattle.std.proofs.Common.{◌≡◌, ◌≢◌, ℕ, ◌<◌, ◌==◌, Bool, true, false, Some, None, inl, inr, List, [], ◌∷◌, ◌++◌, length, take, drop, get_or, position, refl, ap, sym, ◌∙◌, arith}
use Rattle.std.specs.List.{list_all, position_or_len}
use Rattle.std.proofs.lemmas.Bool.{lt-ltb}
use Rattle.std.proofs.lemmas.List.{drop_at, get_or_at, get_or_append_left, get_or-take, length-append, take-append-drop, length-take}
use Rattle.std.proofs.lemmas.List.Elements.{All-head, All-tail, All-cons, All-nil}
use Rattle.std.proofs.lemmas.List.Quantifiers.{position-Some}
use Rattle.std.proofs.lemmas.List.Sums.{position_or_len_is}
use Rattle.card_tools.specs.Manifests.{BeginsWithField, HasNoBlank, HasNoCount, IsEntry, IsName, is_decimal, is_hexadecimal, may_be_digest, may_be_number}

-- whether a byte is a blank
abbrev is_blank : ℕ → Bool
is_blank = λ byte. byte == 32

-- what is found up to the first of two blanks is a field
pub field_found : (bytes : List ℕ) (place : ℕ) (rest : List ℕ) → position is_blank bytes ≡ Some place
    → drop place bytes ≡ 32 ∷ 32 ∷ rest → BeginsWithField bytes (take place bytes) rest
field_found bytes place rest at behind = (
  λ k d below. let within : k < place = omega (arith, below, length-take place bytes) in
      let other = (position-Some is_blank bytes place d at).2 k within in
      rw (get_or-take place bytes k d within) (grind (arith, other)),
  sym (take-append-drop place bytes) ∙ ap (λ behind. take place bytes ++ behind) behind,
)

-- numbers that differ
unequal : (m n : ℕ) → m ≢ n → (m == n) ≡ false
unequal m n other = grind (arith, other)

-- a field ends at the first blank
field_place : (bytes field rest : List ℕ) → BeginsWithField bytes field rest → position is_blank bytes ≡ Some (length field)
field_place bytes field rest begins =
    let within : length field < length bytes = omega (arith, ap length begins.1, length-append field (32 ∷ 32 ∷ rest)) in
    let blank : get_or bytes (length field) 0 ≡ 32 =
    ap (λ all. get_or all (length field) 0) begins.1 ∙ get_or_at field 32 (32 ∷ rest) 0 (length field) refl in
    let first : position_or_len is_blank bytes ≡ length field =
    position_or_len_is is_blank bytes (length field) 0 (omega (arith, within))
    (λ k below.
    let same : get_or bytes k 0 ≡ get_or field k 0 = ap (λ all. get_or all k 0) begins.1 ∙ get_or_append_left field (32 ∷ 32 ∷ rest) 0 k below in
    rw same (unequal (get_or field k 0) 32 (begins.0 k 0 below)))
    (λ _. rw blank refl) in
    rw (first, lt-ltb (length field) (length bytes) within) refl

-- bytes without a blank begin with no field
pub field_missing : (bytes field rest : List ℕ) → position is_blank bytes ≡ None → BeginsWithField bytes field rest → ⊥
field_missing bytes field rest none begins =
    let some : Some (length field) ≡ None = sym (field_place bytes field rest begins) ∙ none in
    absurd (cc)

-- bytes whose first blank is not one of two begin with no field
pub field_other : (bytes : List ℕ) (place : ℕ) (field rest : List ℕ) → position is_blank bytes ≡ Some place
    → ((rest : List ℕ) → drop place bytes ≢ 32 ∷ 32 ∷ rest) → BeginsWithField bytes field rest → ⊥
field_other bytes place field rest at other begins =
    let found : Some place ≡ Some (length field) = sym at ∙ field_place bytes field rest begins in
    let same : place ≡ length field = cc in
    other rest (ap (λ n. drop n bytes) same ∙ ap (drop (length field)) begins.1 ∙ drop_at field (32 ∷ 32 ∷ rest) (length field) refl)

-- bytes begin with one field
pub record IsSameField (one two r s : List ℕ) : Type 0 where
  pub field : one ≡ two
  pub behind : r ≡ s

pub field_once : (one two r s : List ℕ) → HasNoBlank one → HasNoBlank two → one ++ 32 ∷ 32 ∷ r ≡ two ++ 32 ∷ 32 ∷ s → IsSameField one two r s
field_once [] [] r s plain clear same = record { field = refl; behind = cc }
field_once [] (y ∷ two) r s plain clear same = let first : y ≡ 32 = cc in absurd (All-head (λ byte. byte ≢ 32) y two clear first)
field_once (x ∷ one) [] r s plain clear same = let first : x ≡ 32 = cc in absurd (All-head (λ byte. byte ≢ 32) x one plain first)
field_once (x ∷ one) (y ∷ two) r s plain clear same =
    let first : x ≡ y = cc in
    let rest = field_once one two r s (All-tail (λ byte. byte ≢ 32) x one plain) (All-tail (λ byte. byte ≢ 32) y two clear) (cc) in
    record { field = rw (first, rest.field) refl; behind = rest.behind }

-- digits are no blanks
no_blanks : (passes : ℕ → Bool) (bytes : List ℕ) → ((byte : ℕ) → passes byte ≡ true → byte ≢ 32) → list_all passes bytes ≡ true → HasNoBlank bytes
no_blanks passes [] apart all = All-nil (λ byte. byte ≢ 32)
no_blanks passes (byte ∷ bytes) apart all =
    let first : passes byte ≡ true = grind (arith, all) in
    let others : list_all passes bytes ≡ true = grind (arith, all) in
    All-cons (λ byte. byte ≢ 32) byte bytes (apart byte first) (no_blanks passes bytes apart others)

decimal_apart : (byte : ℕ) → is_decimal byte ≡ true → byte ≢ 32
decimal_apart byte is = grind (arith, is)

hexadecimal_apart : (byte : ℕ) → is_hexadecimal byte ≡ true → byte ≢ 32
hexadecimal_apart byte is = grind (arith, is)

pub digest_plain : (digest : List ℕ) → may_be_digest digest ≡ true → HasNoBlank digest
digest_plain digest may =
    let all : list_all is_hexadecimal digest ≡ true = grind (arith, may) in
    no_blanks is_hexadecimal digest hexadecimal_apart all

pub number_plain : (cards : List ℕ) → may_be_number cards ≡ true → HasNoBlank cards
number_plain cards may =
    let all : list_all is_decimal cards ≡ true = grind (arith, may) in
    no_blanks is_decimal cards decimal_apart all

-- a line that begins with no field is none of a manifest
pub no_field : (line digest name : List ℕ) → ((field rest : List ℕ) → BeginsWithField line field rest → ⊥)
    → IsEntry line digest name → ⊥
no_field line digest name none entry =
    none digest entry.label (digest_plain digest entry.digest_is, entry.line_is)

-- a line whose first field is no digest is none
pub no_digest : (line field rest digest name : List ℕ) → BeginsWithField line field rest → may_be_digest field ≡ false
    → IsEntry line digest name → ⊥
no_digest line field rest digest name begins other entry =
    let same = field_once field digest rest entry.label begins.0 (digest_plain digest entry.digest_is) (sym begins.1 ∙ entry.line_is) in
    let both : true ≡ false = sym entry.digest_is ∙ ap may_be_digest (sym same.field) ∙ other in
    absurd (cc)

-- what begins with no field has no number of cards
pub no_second : (label : List ℕ) → ((field rest : List ℕ) → BeginsWithField label field rest → ⊥) → HasNoCount label
no_second label none cards name has = none cards name (number_plain cards has.cards_are, has.fields_are)

-- what begins with a field that is no number has none
pub no_number : (label field rest : List ℕ) → BeginsWithField label field rest → may_be_number field ≡ false → HasNoCount label
no_number label field rest begins other cards name has =
    let same = field_once field cards rest name begins.0 (number_plain cards has.cards_are) (sym begins.1 ∙ has.fields_are) in
    let both : true ≡ false = sym has.cards_are ∙ ap may_be_number (sym same.field) ∙ other in
    absurd (cc)

-- what stands behind a digest has one name
name_once : (label name other : List ℕ) → IsName label name → IsName label other → name ≡ other
name_once label name other (inl one) (inl two) =
    (field_once one.0 two.0 name other (number_plain one.0 one.1.cards_are) (number_plain two.0 two.1.cards_are)
    (sym one.1.fields_are ∙ two.1.fields_are)).behind
name_once label name other (inl one) (inr two) = absurd (two.0 one.0 name one.1)
name_once label name other (inr one) (inl two) = absurd (one.0 two.0 other two.1)
name_once label name other (inr one) (inr two) = one.1 ∙ sym two.1

-- a line has the digest and the name of one entry
pub one_entry : (line digest name other label : List ℕ) → IsEntry line digest name → IsEntry line other label
    → (digest ≡ other) × (name ≡ label)
one_entry line digest name other label one two =
    let same = field_once digest other one.label two.label (digest_plain digest one.digest_is) (digest_plain other two.digest_is)
    (sym one.line_is ∙ two.line_is) in
    (same.field, name_once two.label name label (rw (sym same.behind) one.name_is) two.name_is)
