-- the reply that the bytes of a connection are
use Rattle.std.specs.Prelude.{◌≡◌, ℕ, ◌<◌, ◌≤◌, ◌^◌, List, [], ◌∷◌, Option, Some, None, IfSome, codes, length, map}
use Rattle.std.specs.Char.{to_ascii_lowercase}
use Rattle.std.specs.Str.{IsUtf8}
use Rattle.std.specs.Str.Parse.{IsNumeral, digits_value, without_leading_plus}
use Rattle.httparse.specs.Grammar.{ReadsResponse, ResponseHead, status_code}
use Rattle.httparse.specs.Spans.{name_and_value}
use Rattle.queue_rounds.specs.declared.replies.Reply.{Reply}
use Rattle.queue_rounds.specs.declared.replies.Reply.TheVariants as reply

-- a header field, by its name and its value, is the length of the body; case does not matter
abbrev pub IsLengthField : List ℕ × List ℕ → Type 0
IsLengthField field = map to_ascii_lowercase field.0 ≡ codes "content-length"

-- a text is a number of 64 bits; a plus may stand before it
pub record IsNumber (text : List ℕ) : Type 0 where
  pub is_text : IsUtf8 text
  pub digits : IsNumeral 10 (without_leading_plus text)
  pub fits : digits_value 10 (without_leading_plus text) < 2 ^ 64

-- the number that a text is, if it is one
abbrev pub IsNumberIn : List ℕ → Option ℕ → Type 0
IsNumberIn text (Some number) =
    IsNumber text × (number ≡ digits_value 10 (without_leading_plus text))
IsNumberIn text None = ¬ (IsNumber text)

-- the length that header fields state for the body: the first one that is a length states it
unfoldable pub StatesLength : List (List ℕ × List ℕ) → Option ℕ → Type 0
StatesLength [] it = it ≡ None
StatesLength (field ∷ fields) it =
    (IsLengthField field → IsNumberIn field.1 it)
    × (¬ (IsLengthField field) → StatesLength fields it)

-- a body is shorter than the header fields state: it was cut off
abbrev pub IsCut : List (List ℕ × List ℕ) → List ℕ → Type 0
IsCut fields body = (size : ℕ) × StatesLength fields (Some size) × (length body < size)

-- a body is no shorter than the header fields state, if they state a length
abbrev pub IsWhole : List (List ℕ × List ℕ) → List ℕ → Type 0
IsWhole fields body =
    (it : Option ℕ) × StatesLength fields it × IfSome it (λ size. size ≤ length body)

-- the bytes are the head of a response of HTTP/1.1 with this status, and behind it this body, which
-- was not cut off
pub record IsResponse (bytes : List ℕ) (status : ℕ) (body : List ℕ) : Type 0 where
  pub head : ResponseHead
  pub reads : ReadsResponse bytes head body
  pub version : head.minor ≡ 1
  pub status_is : status ≡ status_code head
  pub whole : IsWhole (map name_and_value head.fields) body

-- the bytes begin with no response of HTTP/1.1 that has at most 64 header fields, or with one
-- that was cut off
abbrev pub IsNoResponse : List ℕ → Type 0
IsNoResponse bytes =
    (head : ResponseHead) (body : List ℕ) → ReadsResponse bytes head body →
    head.minor ≡ 1 → length head.fields ≤ 64 → IsCut (map name_and_value head.fields) body

-- a reply is that of the response that the bytes are, or there is none and they answer nothing
abbrev pub IsReplyIn : List ℕ → Reply → Type 0
IsReplyIn bytes reply.Unsent = ⊥
IsReplyIn bytes reply.Lost = IsNoResponse bytes
IsReplyIn bytes (reply.Replied status body) = IsResponse bytes status body.items
