-- bytes that end after too many fields are refused with two statuses
use Rattle.std.proofs.Common.{◌≡◌, ◌∙◌, ℕ, ◌<◌, true, List, [], ◌∷◌, ◌++◌, length, sym, ap, refl, arith, append-nil, inl, inr}
use Rattle.std.proofs.lemmas.List.{length-append}
use Rattle.std.proofs.lemmas.List.Elements.{All-cons, All-nil, All-replicate}
use Rattle.std.proofs.lemmas.Str.{IsUtf8-from_ascii}
use Rattle.std.proofs.lemmas.Str.Ascii.{IsAscii-from_all}
use Rattle.std.proofs.Math.ListN.{replicate}
use Rattle.std.specs.List.{flat_map}
use Rattle.httparse.specs.Grammar.{Field, HasNoRequest, IsField, IsRequestHead, IsToken, ReadsRequest, RequestHead, is_token_byte, is_uri_byte, is_value_byte, lf, print_field, print_section}
use Rattle.httparse.proofs.GrammarLemmas.{ReadsRequest-append, print_request-append, request_unique}
use Rattle.http_messages.specs.Judging.{Refuses}
use Rattle.bureau_laws.proofs.HeadLaw.{started, started-append}

-- a field line of three bytes
abbrev short_field : Field
short_field = record { name = 65 ∷ []; raw = []; end = lf }

-- a head with one field more than there may be
abbrev crowded : RequestHead
crowded = record { blank = []; method = 65 ∷ []; target = 47 ∷ []; minor = 1; line_end = lf; fields = replicate 65 short_field; last = lf }

letter : IsToken (65 ∷ [])
unfolding is_token_byte
letter = (omega arith, All-cons (λ b. is_token_byte b ≡ true) 65 [] refl (All-nil (λ b. is_token_byte b ≡ true)))

is_head : IsRequestHead crowded
is_head = record {
  method = letter;
  target = (omega arith, All-cons (λ b. is_uri_byte b ≡ true) 47 [] refl (All-nil (λ b. is_uri_byte b ≡ true)));
  target_text = IsUtf8-from_ascii (47 ∷ []) (IsAscii-from_all (47 ∷ []) (All-cons (λ b. b < 128) 47 [] (omega arith) (All-nil (λ b. b < 128))));
  minor = omega arith;
  fields = All-replicate IsField 65 short_field (record { name = letter; raw = All-nil (λ b. is_value_byte b ≡ true) });
}

-- the bytes of that head without the empty line that ends it
abbrev unended : List ℕ
unended = started crowded (flat_map print_field crowded.fields)

ended : ReadsRequest (unended ++ 10 ∷ []) crowded []
ended =
    let lines = flat_map print_field crowded.fields in (
      is_head,
      started-append crowded lines (10 ∷ []) ∙ ap (started crowded) (sym (append-nil (print_section crowded.fields lf))) ∙ sym (print_request-append crowded []),
    )

no_head : HasNoRequest unended
no_head h rest reads =
    let same = request_unique (unended ++ 10 ∷ []) crowded h [] (rest ++ 10 ∷ []) ended (ReadsRequest-append unended h rest (10 ∷ []) reads) in
    let sizes : 0 ≡ length (rest ++ 10 ∷ []) = ap length same.1 in
    omega (arith, sizes, length-append rest (10 ∷ []))

short : length unended < 8192
short = omega arith

both : Refuses unended 400 × Refuses unended 431
both = (
  inl (inl (inr (no_head, short), refl)),
  inl (inr (inl (unended, [], sym (append-nil unended), (unended, [], sym (append-nil unended), crowded, ended, omega arith)), refl)),
)

pub not_one : ((input : List ℕ) (one other : ℕ) → Refuses input one → Refuses input other → one ≡ other) → ⊥
not_one one =
    let same : ◌≡◌ {A = ℕ} 400 431 = one unended 400 431 both.0 both.1 in
    omega arith
