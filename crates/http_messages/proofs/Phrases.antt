-- the reason phrases of the statuses that are answered
use Rattle.std.proofs.Common.{◌≡◌, ◌∙◌, ◌++◌, append_assoc, ℕ, List, Option, Some, codes, decimal, inl, inr, refl, ap, sym, subst, arith}
use Rattle.std.specs.Prelude.{unwrap_or}
use Rattle.http.specs.StatusCode.{IsStatusCode, reason_phrase, status_text}
use Rattle.http_messages.specs.Replies.{HasPhrase, head_bytes, phrase_of}

-- one of the statuses is what each of them is
pub each : (P : ℕ → Type 0) → P 200 → P 400 → P 404 → P 405 → P 409 → P 411 → P 413 → P 431 → P 500 → P 503
    → (status : ℕ) → HasPhrase status → P status
each P a b c d e f g h i j status (inl is) = subst P (sym is) a
each P a b c d e f g h i j status (inr (inl is)) = subst P (sym is) b
each P a b c d e f g h i j status (inr (inr (inl is))) = subst P (sym is) c
each P a b c d e f g h i j status (inr (inr (inr (inl is)))) = subst P (sym is) d
each P a b c d e f g h i j status (inr (inr (inr (inr (inl is))))) = subst P (sym is) e
each P a b c d e f g h i j status (inr (inr (inr (inr (inr (inl is)))))) = subst P (sym is) f
each P a b c d e f g h i j status (inr (inr (inr (inr (inr (inr (inl is))))))) = subst P (sym is) g
each P a b c d e f g h i j status (inr (inr (inr (inr (inr (inr (inr (inl is)))))))) = subst P (sym is) h
each P a b c d e f g h i j status (inr (inr (inr (inr (inr (inr (inr (inr (inl is))))))))) = subst P (sym is) i
each P a b c d e f g h i j status (inr (inr (inr (inr (inr (inr (inr (inr (inr is))))))))) = subst P (sym is) j

pub is_code : (status : ℕ) → HasPhrase status → IsStatusCode status
is_code = each IsStatusCode
    (omega arith, omega arith) (omega arith, omega arith) (omega arith, omega arith) (omega arith, omega arith) (omega arith, omega arith)
    (omega arith, omega arith) (omega arith, omega arith) (omega arith, omega arith) (omega arith, omega arith) (omega arith, omega arith)

pub has_phrase : (status : ℕ) → HasPhrase status → reason_phrase status ≡ Some (phrase_of status)
has_phrase = each (λ (s : ℕ). reason_phrase s ≡ Some (phrase_of s)) refl refl refl refl refl refl refl refl refl refl

-- what is displayed of a status: its number and its phrase
displayed : (status : ℕ) → HasPhrase status → status_text status ≡ decimal status ++ codes " " ++ phrase_of status
displayed status has = ap (λ (phrase : Option (List ℕ)). decimal status ++ codes " " ++ unwrap_or phrase (codes "<unknown status code>")) (has_phrase status has)

-- the head as it is written
pub head_text : (status : ℕ) (content_type : List ℕ) (size : ℕ) → HasPhrase status
    → codes "HTTP/1.1 " ++ (status_text status ++ (codes "\r\nContent-Type: " ++ (content_type ++ (codes "\r\nContent-Length: " ++ (decimal size ++ codes "\r\nConnection: close\r\n\r\n")))))
    ≡ head_bytes status (phrase_of status) content_type size
head_text status content_type size has =
    ap (λ (shown : List ℕ). codes "HTTP/1.1 " ++ (shown ++ (codes "\r\nContent-Type: " ++ (content_type ++ (codes "\r\nContent-Length: " ++ (decimal size ++ codes "\r\nConnection: close\r\n\r\n"))))))
    (displayed status has)
    ∙ simp append_assoc
