-- replies over HTTP: the head and the body
use Rattle.std.specs.Prelude.{ℕ, ◌≡◌, ◌⊎◌, ◌==◌, List, [], ◌++◌, if◌then◌else◌, codes, decimal, length, ⊤}
use Rattle.cards.specs.declared.faults.CardFault.{CardFault}
use Rattle.office.specs.declared.refusals.Refusal.{Refusal}
use Rattle.office.specs.declared.refusals.Refusal.TheVariants as refusal
use Rattle.office.specs.declared.replies.Reply.{Reply}
use Rattle.office.specs.declared.replies.Reply.TheVariants as reply
use Rattle.units.specs.Listing.{IsRising}
use Rattle.http_messages.specs.ReplyBodies.{body_of, deck_fault_body}

-- the reason phrase of a status
abbrev pub phrase_of : ℕ → List ℕ
phrase_of status =
    if status == 200 then codes "OK" else
    if status == 400 then codes "Bad Request" else
    if status == 404 then codes "Not Found" else
    if status == 405 then codes "Method Not Allowed" else
    if status == 409 then codes "Conflict" else
    if status == 411 then codes "Length Required" else
    if status == 413 then codes "Payload Too Large" else
    if status == 431 then codes "Request Header Fields Too Large" else
    if status == 500 then codes "Internal Server Error" else
    if status == 503 then codes "Service Unavailable" else
    []

-- a status that is answered, so that it has a reason phrase
abbrev pub HasPhrase : ℕ → Type 0
HasPhrase status =
    (status ≡ 200) ⊎ (status ≡ 400) ⊎ (status ≡ 404) ⊎ (status ≡ 405) ⊎ (status ≡ 409)
    ⊎ (status ≡ 411) ⊎ (status ≡ 413) ⊎ (status ≡ 431) ⊎ (status ≡ 500) ⊎ (status ≡ 503)

-- the head of an answer with this status and reason phrase, for a body of this type and length
abbrev pub head_bytes : ℕ → List ℕ → List ℕ → ℕ → List ℕ
head_bytes status phrase content_type length =
    codes "HTTP/1.1 " ++ decimal status ++ codes " " ++ phrase ++ codes "\r\n"
    ++ codes "Content-Type: " ++ content_type ++ codes "\r\n"
    ++ codes "Content-Length: " ++ decimal length ++ codes "\r\n"
    ++ codes "Connection: close\r\n"
    ++ codes "\r\n"

-- an answer with this status and this body, with the type of the body
abbrev pub answer_bytes : ℕ → List ℕ → List ℕ → List ℕ
answer_bytes status content_type body =
    head_bytes status (phrase_of status) content_type (length body) ++ body

-- the status of the answer for a refusal: 400, 404 or 409
abbrev pub refusal_status : Refusal → ℕ
refusal_status refusal.Customer = 400
refusal_status refusal.Number = 400
refusal_status refusal.Size = 400
refusal_status refusal.Deck = 400
refusal_status refusal.OtherContents = 409
refusal_status refusal.TooManyJobs = 409
refusal_status (refusal.Assembly faults) = 400
refusal_status refusal.NoJob = 404
refusal_status refusal.Limit = 400
refusal_status refusal.Held = 409
refusal_status refusal.NotRunning = 409
refusal_status refusal.NotAtHalt = 409
refusal_status refusal.AlreadyHeld = 409
refusal_status refusal.NotHeld = 409
refusal_status refusal.Collected = 409
refusal_status refusal.TooMuch = 409
refusal_status refusal.NoSuchPocket = 400

-- the status of the answer with a reply: 200 unless it is a refusal
abbrev pub status_of : Reply → ℕ
status_of (reply.Refused reason) = refusal_status reason
status_of other = 200

-- the content type of a reply's body: plain text for cards and lines, else JSON
abbrev pub content_type_of : Reply → List ℕ
content_type_of (reply.Cards cards) = codes "text/plain"
content_type_of (reply.Lines lines) = codes "text/plain"
content_type_of other = codes "application/json"

-- the whole answer with a reply: head and body
abbrev pub reply_bytes : Reply → List ℕ
reply_bytes r = answer_bytes (status_of r) (content_type_of r) (body_of r)

-- the lines of a reply, if it has any, are in the order of printing
abbrev pub HasLinesInOrder : Reply → Type 0
HasLinesInOrder (reply.Lines lines) = IsRising lines
HasLinesInOrder other = ⊤

-- the whole answer for a fault in a deck's text
abbrev pub deck_fault_bytes : CardFault → List ℕ
deck_fault_bytes f = answer_bytes 400 (codes "application/json") (deck_fault_body f)

-- the whole answer to a request that is refused with this status
abbrev pub refused_bytes : ℕ → List ℕ
refused_bytes status =
    answer_bytes status (codes "application/json")
    (codes "{\"status\":" ++ decimal status ++ codes "}")
