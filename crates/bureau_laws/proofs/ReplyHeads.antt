-- the head of an answer is read as it was written
use Rattle.std.proofs.Common.{◌≡◌, ◌∙◌, ℕ, ◌<◌, ◌^◌, ◌==◌, ◌&&◌, Bool, true, false, not, List, [], ◌∷◌, ◌++◌, length, map, reverse, Some, codes, decimal, refl, sym, ap, subst, arith, append_assoc}
use Rattle.std.specs.List.{list_all}
use Rattle.std.specs.Fmt.{digits, digit_glyph}
use Rattle.std.specs.Char.{is_ascii_digit}
use Rattle.std.specs.Str.{IsUtf8}
use Rattle.std.specs.Str.Parse.{IsNumeral, digits_value, without_leading_plus}
use Rattle.std.proofs.lemmas.Fmt.{decimal_is_IsNumeral}
use Rattle.std.proofs.lemmas.List.Sums.{AllPass-from_list_all, list_all-from_AllPass}
use Rattle.std.proofs.lemmas.List.Elements.{All-cons, All-nil}
use Rattle.bcd.proofs.Tables.{at_each}
use Rattle.httparse.specs.Grammar.{Field, IsField, IsResponseHead, ReadsResponse, ResponseHead, crlf, is_ows, is_token_byte, is_value_byte, print_response, skip_ows, status_code, trim_ows}
use Rattle.httparse.specs.Spans.{name_and_value}
use Rattle.httparse.proofs.GrammarLemmas.{print_response-append}
use Rattle.httparse.proofs.TrimLemmas.{AllPass-reverse, skip_ows_no, trim_ows_space}
use Rattle.http_messages.specs.Replies.{HasPhrase, answer_bytes, phrase_of}
use Rattle.http_messages.proofs.Phrases.{each}
use Rattle.queue_rounds.specs.Responses.{IsLengthField, IsNumber, StatesLength}
use Rattle.bureau_laws.proofs.ReplyDigits.{decimal_is_text, decimal_passes}

-- the fields of an answer
abbrev pub type_field : List ℕ → Field
type_field content_type = record { name = codes "Content-Type"; raw = 32 ∷ content_type; end = crlf }

abbrev pub length_field : ℕ → Field
length_field size = record { name = codes "Content-Length"; raw = 32 ∷ decimal size; end = crlf }

abbrev pub close_field : Field
close_field = record { name = codes "Connection"; raw = codes " close"; end = crlf }

abbrev pub fields_of : List ℕ → ℕ → List Field
fields_of content_type size = type_field content_type ∷ length_field size ∷ close_field ∷ []

-- the head of an answer
abbrev pub head_of : ℕ → List ℕ → ℕ → ResponseHead
head_of status content_type size = record {
  blank = [];
  minor = 1;
  digits = decimal status;
  reason = Some (phrase_of status);
  line_end = crlf;
  fields = fields_of content_type size;
  last = crlf;
}

-- ---- what is written of a head

regroup : (a d s p n t c u l k body : List ℕ)
    → (a ++ d ++ s ++ p ++ n ++ t ++ c ++ n ++ u ++ l ++ n ++ k ++ n) ++ body
    ≡ a ++ (d ++ ((s ++ p) ++ (n ++ ((((t ++ (c ++ n)) ++ ((u ++ (l ++ n)) ++ (k ++ []))) ++ n) ++ body))))
regroup a d s p n t c u l k body = simp append_assoc

written : (status : ℕ) (content_type body : List ℕ)
    → answer_bytes status content_type body ≡ print_response (head_of status content_type (length body)) ++ body
written status content_type body =
    regroup (codes "HTTP/1.1 ") (decimal status) (codes " ") (phrase_of status) (codes "\r\n") (codes "Content-Type: ") content_type
    (codes "Content-Length: ") (decimal (length body)) (codes "Connection: close\r\n") body
    ∙ sym (print_response-append (head_of status content_type (length body)) body)

-- ---- the parts are of their classes

-- the bytes of a content type may stand in a header field
abbrev pub IsType : List ℕ → Type 0
IsType content_type = list_all is_value_byte content_type ≡ true

three_values : (raw : List ℕ) → list_all is_value_byte raw ≡ true → IsField (record { name = codes "Content-Length"; raw = raw; end = crlf })
unfolding is_token_byte
three_values raw pass = record { name = (omega arith, AllPass-from_list_all is_token_byte (codes "Content-Length") refl); raw = AllPass-from_list_all is_value_byte raw pass }

type_is_field : (content_type : List ℕ) → IsType content_type → IsField (type_field content_type)
unfolding is_token_byte
type_is_field content_type pass =
    record { name = (omega arith, AllPass-from_list_all is_token_byte (codes "Content-Type") refl); raw = AllPass-from_list_all is_value_byte (32 ∷ content_type) pass }

length_is_field : (size : ℕ) → IsField (length_field size)
length_is_field size = three_values (32 ∷ decimal size) (decimal_passes is_value_byte (at_each (λ k. is_value_byte (digit_glyph false k)) 10 refl) size)

close_is_field : IsField close_field
unfolding is_token_byte
close_is_field = record { name = (omega arith, AllPass-from_list_all is_token_byte (codes "Connection") refl); raw = AllPass-from_list_all is_value_byte (codes " close") refl }

abbrev IsWritten : ℕ → Type 0
IsWritten status = (length (decimal status) ≡ 3) × (list_all is_ascii_digit (decimal status) ≡ true) × (list_all is_value_byte (phrase_of status) ≡ true) × (status < 2 ^ 64)

status_is_written : (status : ℕ) → HasPhrase status → IsWritten status
unfolding digits
status_is_written = each IsWritten
    (refl, refl, refl, omega arith) (refl, refl, refl, omega arith) (refl, refl, refl, omega arith) (refl, refl, refl, omega arith) (refl, refl, refl, omega arith)
    (refl, refl, refl, omega arith) (refl, refl, refl, omega arith) (refl, refl, refl, omega arith) (refl, refl, refl, omega arith) (refl, refl, refl, omega arith)

is_head : (status : ℕ) (content_type : List ℕ) (size : ℕ) → HasPhrase status → IsType content_type → IsResponseHead (head_of status content_type size)
is_head status content_type size has pass =
    let is = status_is_written status has in record {
      minor = omega arith;
      digits = (is.0, AllPass-from_list_all is_ascii_digit (decimal status) is.1);
      reason = AllPass-from_list_all is_value_byte (phrase_of status) is.2;
      fields =
          All-cons IsField (type_field content_type) (length_field size ∷ close_field ∷ []) (type_is_field content_type pass)
          (All-cons IsField (length_field size) (close_field ∷ []) (length_is_field size) (All-cons IsField close_field [] close_is_field (All-nil IsField)));
    }

-- an answer is read as its head and its body
pub reads : (status : ℕ) (content_type body : List ℕ) → HasPhrase status → IsType content_type
    → ReadsResponse (answer_bytes status content_type body) (head_of status content_type (length body)) body
reads status content_type body has pass = (is_head status content_type (length body) has pass, written status content_type body)

-- its status is the one that was written
pub code_is : (status : ℕ) (content_type : List ℕ) (size : ℕ) → HasPhrase status → status_code (head_of status content_type size) ≡ status
code_is status content_type size has = (decimal_is_IsNumeral status (status_is_written status has).3).1

-- ---- the length that it states

none_skipped : (xs : List ℕ) → list_all (λ b. not (is_ows b)) xs ≡ true → skip_ows xs ≡ xs
none_skipped [] e = refl
none_skipped (x ∷ xs) e = by_test (is_ows x) (list_all (λ b. not (is_ows b)) xs) refl e
  where
    by_test : (t r : Bool) → t ≡ is_ows x → (not t && r) ≡ true → skip_ows (x ∷ xs) ≡ x ∷ xs
    by_test true r same e = absurd (cc)
    by_test false r same e = skip_ows_no refl same

no_plus : (xs : List ℕ) → list_all (λ b. not (b == 43)) xs ≡ true → without_leading_plus xs ≡ xs
no_plus [] e = refl
no_plus (x ∷ xs) e = by_test (x == 43) (list_all (λ b. not (b == 43)) xs) refl e
  where
    by_test : (t r : Bool) → t ≡ (x == 43) → (not t && r) ≡ true → without_leading_plus (x ∷ xs) ≡ x ∷ xs
    by_test true r same e = absurd (cc)
    by_test false r same e = rw (sym same) refl

digits_shown : (size : ℕ) → trim_ows (32 ∷ decimal size) ≡ decimal size
digits_shown size =
    let pass = decimal_passes (λ b. not (is_ows b)) (at_each (λ k. not (is_ows (digit_glyph false k))) 10 refl) size in
    trim_ows_space (decimal size) (none_skipped (decimal size) pass)
    (none_skipped (reverse (decimal size)) (list_all-from_AllPass (λ b. not (is_ows b)) (reverse (decimal size))
    (AllPass-reverse (λ b. not (is_ows b)) (decimal size) (AllPass-from_list_all (λ b. not (is_ows b)) (decimal size) pass))))

size_shown : (size : ℕ) → size < 2 ^ 64 → digits_value 10 (without_leading_plus (trim_ows (32 ∷ decimal size))) ≡ size
size_shown size fits =
    ap (λ (text : List ℕ). digits_value 10 (without_leading_plus text)) (digits_shown size)
    ∙ ap (digits_value 10) (no_plus (decimal size) (decimal_passes (λ b. not (b == 43)) (at_each (λ k. not (digit_glyph false k == 43)) 10 refl) size))
    ∙ (decimal_is_IsNumeral size fits).1

number_shown : (size : ℕ) → size < 2 ^ 64 → IsNumber (trim_ows (32 ∷ decimal size))
number_shown size fits =
    let shown = digits_shown size in
    let plain = no_plus (decimal size) (decimal_passes (λ b. not (b == 43)) (at_each (λ k. not (digit_glyph false k == 43)) 10 refl) size) in
    let small : size < 2 ^ 64 = fits in record {
      is_text = subst IsUtf8 (sym shown) (decimal_is_text size);
      digits = subst (λ (text : List ℕ). IsNumeral 10 (without_leading_plus text)) (sym shown) (subst (IsNumeral 10) (sym plain) (decimal_is_IsNumeral size fits).0);
      fits = subst (λ (n : ℕ). n < 2 ^ 64) (sym (size_shown size fits)) small;
    }

apart : (n : ℕ) → n ≡ 12 → n ≡ 14 → ⊥
apart n one other = omega arith

other_name : IsLengthField (name_and_value (type_field [])) → ⊥
other_name e = apart 12 refl (ap length e)

-- the fields of an answer state the length of its body, and no other
pub states_size : (content_type : List ℕ) (size stated : ℕ) → size < 2 ^ 64
    → StatesLength (map name_and_value (fields_of content_type size)) (Some stated) → stated ≡ size
unfolding StatesLength
states_size content_type size stated fits states = ((states.1 other_name).0 refl).1 ∙ size_shown size fits

-- and they state it
pub states_it : (content_type : List ℕ) (size : ℕ) → size < 2 ^ 64 → StatesLength (map name_and_value (fields_of content_type size)) (Some size)
unfolding StatesLength
states_it content_type size fits = ((λ is. absurd (other_name is)), λ _. ((λ _. (number_shown size fits, sym (size_shown size fits))), λ other. absurd (other refl)))
