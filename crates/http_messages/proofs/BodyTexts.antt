-- The text of each body's data.
use Rattle.std.proofs.Common.{◌≡◌, ◌≢◌, ◌∙◌, ℕ, List, [], ◌∷◌, ◌++◌, ◌||◌, Bool, true, false, codes, decimal, map, refl, sym, ap, append_assoc}
use Rattle.std.specs.Fmt.{digits}
use Rattle.std.specs.List.{join_with_byte}
use Rattle.autocoder_layout.specs.declared.card_faults.CardFault.{CardFault}
use Rattle.cards.specs.declared.faults.CardFault as deck
use Rattle.json.specs.Print.{escape}
use Rattle.office.specs.Queued.{QueuedJob}
use Rattle.office.specs.declared.lists.JobLine.{JobLine}
use Rattle.office.specs.Numbers.{refusal_number}
use Rattle.office.specs.declared.refusals.Refusal.{Refusal}
use Rattle.office.specs.declared.refusals.Refusal.TheVariants as refusal
use Rattle.office.specs.declared.replies.Reply.TheVariants as reply
use Rattle.machine.specs.declared.standings.StandingAt.{StandingAt}
use Rattle.office.specs.declared.summaries.Summary.{Summary}
use Rattle.serde_json.specs.Data.{Data}
use Rattle.serde_json.specs.View.{items_of}
use Rattle.serde_json.specs.Written.{compact_text, has_float, items_have_float, items_text}
use Rattle.serde_json.proofs.OnLiterals.{serde_json_on_literals}
use Rattle.machine.specs.Standings.{standing_words}
use Rattle.http_messages.specs.ReplyBodies.{body_of, deck_fault_body, fault_text, job_text, listed, queued_text, refusal_body, summary_body, truth}
use Rattle.http_messages.specs.Values.{reply_data, taken_data, ran_data, collected_data, summary_data, job_data, queued_data, fault_data, jobs_data, queue_data, faults_data, refusal_data, deck_fault_data}
use Rattle.http_messages.proofs.NameLaw.{standing_plain}

-- a value of this data has this text
abbrev pub IsText : Data → List ℕ → Type 0
IsText d text = (has_float d ≡ false) × (compact_text d ≡ text)

-- what is written of a value with this data is this text
by_text : (d e : Data) (written text : List ℕ) → IsText e text → d ≡ e → (has_float d ≡ false → written ≡ compact_text d) → written ≡ text
by_text d e written text is same found = found (ap has_float same ∙ is.0) ∙ ap compact_text same ∙ is.1

-- ---- without lists

taken_text : (cards : ℕ) → IsText (taken_data cards) (body_of (reply.Taken cards))
unfolding serde_json_on_literals
taken_text cards = (refl, simp append_assoc)

started_text : IsText (reply_data (codes "started")) (body_of reply.Started)
unfolding serde_json_on_literals
started_text = (refl, refl)

held_text : IsText (reply_data (codes "held")) (body_of reply.Held)
unfolding serde_json_on_literals
held_text = (refl, refl)

released_text : IsText (reply_data (codes "released")) (body_of reply.Released)
unfolding serde_json_on_literals
released_text = (refl, refl)

collected_text : (cards lines : ℕ) → IsText (collected_data cards lines) (body_of (reply.Collected cards lines))
unfolding serde_json_on_literals
collected_text cards lines = (refl, simp append_assoc)

refusal_text : (n : ℕ) → IsText (refusal_data n) (codes "{\"refusal\":" ++ decimal n ++ codes "}")
unfolding serde_json_on_literals
refusal_text n = (refl, simp append_assoc)

deck_fault_text : (f : deck.CardFault) → IsText (deck_fault_data f) (deck_fault_body f)
unfolding serde_json_on_literals
deck_fault_text f = (refl, simp append_assoc)

ran_text_of : (executed : ℕ) (s : StandingAt) → compact_text (ran_data executed s)
    ≡ codes "{\"executed\":" ++ decimal executed ++ codes ",\"reply\":\"ran\",\"standing\":\"" ++ escape (standing_words s) ++ codes "\"}"
unfolding serde_json_on_literals
ran_text_of executed s = simp append_assoc

ran_text : (executed : ℕ) (s : StandingAt) → IsText (ran_data executed s) (body_of (reply.Ran executed s))
ran_text executed s = (
  refl,
  ran_text_of executed s
      ∙ ap (λ (w : List ℕ). codes "{\"executed\":" ++ decimal executed ++ codes ",\"reply\":\"ran\",\"standing\":\"" ++ w ++ codes "\"}") (standing_plain s),
)

summary_text_of : (cards granted lines : ℕ) (collected held : Bool) (s : StandingAt)
    → compact_text (summary_data (record { standing = s; held = held; collected = collected; granted = granted; cards = cards; lines = lines }))
    ≡ codes "{\"cards\":" ++ decimal cards ++ codes ",\"collected\":" ++ truth collected ++ codes ",\"granted\":" ++ decimal granted
    ++ codes ",\"held\":" ++ truth held ++ codes ",\"lines\":" ++ decimal lines
    ++ codes ",\"reply\":\"standing\",\"standing\":\"" ++ escape (standing_words s) ++ codes "\"}"
unfolding serde_json_on_literals
summary_text_of cards granted lines true true s = simp append_assoc
summary_text_of cards granted lines true false s = simp append_assoc
summary_text_of cards granted lines false true s = simp append_assoc
summary_text_of cards granted lines false false s = simp append_assoc

summary_text : (job : Summary) → IsText (summary_data job) (summary_body job)
summary_text job = (
  refl,
  summary_text_of job.cards job.granted job.lines job.collected job.held job.standing
      ∙ ap (λ (w : List ℕ). codes "{\"cards\":" ++ decimal job.cards ++ codes ",\"collected\":" ++ truth job.collected ++ codes ",\"granted\":" ++ decimal job.granted
      ++ codes ",\"held\":" ++ truth job.held ++ codes ",\"lines\":" ++ decimal job.lines
      ++ codes ",\"reply\":\"standing\",\"standing\":\"" ++ w ++ codes "\"}") (standing_plain job.standing),
)

-- ---- with lists

job_row_of : (number : ℕ) (collected held : Bool) (s : StandingAt)
    → compact_text (job_data (record { number = number; held = held; collected = collected; standing = s }))
    ≡ codes "{\"collected\":" ++ truth collected ++ codes ",\"held\":" ++ truth held ++ codes ",\"number\":" ++ decimal number
    ++ codes ",\"standing\":\"" ++ escape (standing_words s) ++ codes "\"}"
unfolding serde_json_on_literals
job_row_of number true true s = simp append_assoc
job_row_of number true false s = simp append_assoc
job_row_of number false true s = simp append_assoc
job_row_of number false false s = simp append_assoc

job_row : (job : JobLine) → IsText (job_data job) (job_text job)
job_row job = (
  refl,
  job_row_of job.number job.collected job.held job.standing
      ∙ ap (λ (w : List ℕ). codes "{\"collected\":" ++ truth job.collected ++ codes ",\"held\":" ++ truth job.held ++ codes ",\"number\":" ++ decimal job.number
      ++ codes ",\"standing\":\"" ++ w ++ codes "\"}") (standing_plain job.standing),
)

queued_row : (job : QueuedJob) → IsText (queued_data job) (queued_text job)
unfolding serde_json_on_literals
queued_row job = (refl, simp append_assoc)

fault_row : (f : CardFault) → IsText (fault_data f) (fault_text f)
unfolding serde_json_on_literals
fault_row f = (refl, simp append_assoc)

-- the texts of some things, with a comma between each two, and the bracket after them
rows_after : {X : Type 0} (shape : X → Data) (text : X → List ℕ) → ((x : X) → IsText (shape x) (text x)) → (first : List ℕ) (xs : List X)
    → first ++ items_text true (items_of (map shape xs)) ≡ join_with_byte 44 (first ∷ map text xs) ++ 93 ∷ []
rows_after shape text each first [] = refl
rows_after shape text each first (x ∷ xs) =
    ap (λ (t : List ℕ). first ++ 44 ∷ (t ++ items_text true (items_of (map shape xs)))) (each x).1
    ∙ ap (λ (t : List ℕ). first ++ 44 ∷ t) (rows_after shape text each (text x) xs)
    ∙ sym (append_assoc first (44 ∷ join_with_byte 44 (text x ∷ map text xs)) (93 ∷ []))

rows_text : {X : Type 0} (shape : X → Data) (text : X → List ℕ) → ((x : X) → IsText (shape x) (text x)) → (xs : List X)
    → items_text false (items_of (map shape xs)) ≡ listed (map text xs) ++ 93 ∷ []
rows_text shape text each [] = refl
rows_text shape text each (x ∷ xs) =
    ap (λ (t : List ℕ). t ++ items_text true (items_of (map shape xs))) (each x).1 ∙ rows_after shape text each (text x) xs

rows_whole : {X : Type 0} (shape : X → Data) (text : X → List ℕ) → ((x : X) → IsText (shape x) (text x)) → (xs : List X)
    → items_have_float (items_of (map shape xs)) ≡ false
rows_whole shape text each [] = refl
rows_whole shape text each (x ∷ xs) = ap (λ (b : Bool). b || items_have_float (items_of (map shape xs))) (each x).0 ∙ rows_whole shape text each xs

jobs_text : (jobs : List JobLine) → IsText (jobs_data (map job_data jobs)) (body_of (reply.Jobs jobs))
unfolding serde_json_on_literals
jobs_text jobs = (
  ap (λ (b : Bool). b || false) (rows_whole job_data job_text job_row jobs),
  ap (λ (t : List ℕ). codes "{\"jobs\":[" ++ (t ++ codes ",\"reply\":\"jobs\"}")) (rows_text job_data job_text job_row jobs) ∙ simp append_assoc,
)

queue_text : (jobs : List QueuedJob) → IsText (queue_data (map queued_data jobs)) (body_of (reply.Queue jobs))
unfolding serde_json_on_literals
queue_text jobs = (
  ap (λ (b : Bool). b || false) (rows_whole queued_data queued_text queued_row jobs),
  ap (λ (t : List ℕ). codes "{\"queue\":[" ++ (t ++ codes ",\"reply\":\"queue\"}")) (rows_text queued_data queued_text queued_row jobs) ∙ simp append_assoc,
)

faults_text : (faults : List CardFault) → IsText (faults_data (map fault_data faults)) (codes "{\"faults\":[" ++ listed (map fault_text faults) ++ codes "],\"refusal\":16}")
unfolding serde_json_on_literals digits
faults_text faults = (
  ap (λ (b : Bool). b || false) (rows_whole fault_data fault_text fault_row faults),
  ap (λ (t : List ℕ). codes "{\"faults\":[" ++ (t ++ codes ",\"refusal\":16}")) (rows_text fault_data fault_text fault_row faults) ∙ simp append_assoc,
)

-- ---- what is written of a value

pub taken_is : (d : Data) (cards : ℕ) (written : List ℕ) → d ≡ taken_data cards → (has_float d ≡ false → written ≡ compact_text d) → written ≡ body_of (reply.Taken cards)
taken_is d cards written same found = by_text d _ written _ (taken_text cards) same found

pub ran_is : (d : Data) (executed : ℕ) (s : StandingAt) (written : List ℕ) → d ≡ ran_data executed s → (has_float d ≡ false → written ≡ compact_text d) → written ≡ body_of (reply.Ran executed s)
ran_is d executed s written same found = by_text d _ written _ (ran_text executed s) same found

pub started_is : (d : Data) (written : List ℕ) → d ≡ reply_data (codes "started") → (has_float d ≡ false → written ≡ compact_text d) → written ≡ body_of reply.Started
started_is d written same found = by_text d _ written _ started_text same found

pub held_is : (d : Data) (written : List ℕ) → d ≡ reply_data (codes "held") → (has_float d ≡ false → written ≡ compact_text d) → written ≡ body_of reply.Held
held_is d written same found = by_text d _ written _ held_text same found

pub released_is : (d : Data) (written : List ℕ) → d ≡ reply_data (codes "released") → (has_float d ≡ false → written ≡ compact_text d) → written ≡ body_of reply.Released
released_is d written same found = by_text d _ written _ released_text same found

pub collected_is : (d : Data) (cards : ℕ) (lines : ℕ) (written : List ℕ) → d ≡ collected_data cards lines → (has_float d ≡ false → written ≡ compact_text d) → written ≡ body_of (reply.Collected cards lines)
collected_is d cards lines written same found = by_text d _ written _ (collected_text cards lines) same found

pub summary_is : (d : Data) (job : Summary) (written : List ℕ) → d ≡ summary_data job → (has_float d ≡ false → written ≡ compact_text d) → written ≡ summary_body job
summary_is d job written same found = by_text d _ written _ (summary_text job) same found

pub jobs_is : (d : Data) (jobs : List JobLine) (written : List ℕ) → d ≡ jobs_data (map job_data jobs) → (has_float d ≡ false → written ≡ compact_text d) → written ≡ body_of (reply.Jobs jobs)
jobs_is d jobs written same found = by_text d _ written _ (jobs_text jobs) same found

pub queue_is : (d : Data) (jobs : List QueuedJob) (written : List ℕ) → d ≡ queue_data (map queued_data jobs) → (has_float d ≡ false → written ≡ compact_text d) → written ≡ body_of (reply.Queue jobs)
queue_is d jobs written same found = by_text d _ written _ (queue_text jobs) same found

pub faults_is : (d : Data) (faults : List CardFault) (written : List ℕ) → d ≡ faults_data (map fault_data faults) → (has_float d ≡ false → written ≡ compact_text d) → written ≡ refusal_body (refusal.Assembly faults)
faults_is d faults written same found = by_text d _ written _ (faults_text faults) same found

pub deck_fault_is : (d : Data) (f : deck.CardFault) (written : List ℕ) → d ≡ deck_fault_data f → (has_float d ≡ false → written ≡ compact_text d) → written ≡ deck_fault_body f
deck_fault_is d f written same found = by_text d _ written _ (deck_fault_text f) same found

-- a refusal without faults has its number for its body
number_body : (reason : Refusal) → ((faults : List CardFault) → reason ≢ refusal.Assembly faults)
    → refusal_body reason ≡ codes "{\"refusal\":" ++ decimal (refusal_number reason) ++ codes "}"
number_body refusal.Customer other = refl
number_body refusal.Number other = refl
number_body refusal.Size other = refl
number_body refusal.Deck other = refl
number_body refusal.OtherContents other = refl
number_body refusal.TooManyJobs other = refl
number_body refusal.NoJob other = refl
number_body refusal.Limit other = refl
number_body refusal.Held other = refl
number_body refusal.NotRunning other = refl
number_body refusal.NotAtHalt other = refl
number_body refusal.AlreadyHeld other = refl
number_body refusal.NotHeld other = refl
number_body refusal.Collected other = refl
number_body refusal.TooMuch other = refl
number_body refusal.NoSuchPocket other = refl
number_body (refusal.Assembly faults) other = absurd (other faults refl)

pub refusal_is : (d : Data) (reason : Refusal) (written : List ℕ) → d ≡ refusal_data (refusal_number reason)
    → ((faults : List CardFault) → reason ≢ refusal.Assembly faults) → (has_float d ≡ false → written ≡ compact_text d) → written ≡ refusal_body reason
refusal_is d reason written same other found =
    by_text d _ written _ (refusal_text (refusal_number reason)) same found ∙ sym (number_body reason other)
