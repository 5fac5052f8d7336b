-- Answers by the statuses that refuse a request.
use Rattle.std.proofs.Common.{◌≡◌, ℕ, sym, ap}
use Rattle.http_messages.specs.Replies.{refused_bytes}
use Rattle.http_messages.specs.Fixed.{refusing_status}

-- the answer at a status is that at an equal one
pub answer_at : (status known : ℕ) → status ≡ known → refused_bytes (refusing_status known) ≡ refused_bytes (refusing_status status)
answer_at status known same = ap (λ s. refused_bytes (refusing_status s)) (sym same)

-- any other status is answered as 400
pub answer_else : (status : ℕ) → refusing_status status ≡ 400 → refused_bytes 400 ≡ refused_bytes (refusing_status status)
answer_else status same = ap refused_bytes (sym same)
