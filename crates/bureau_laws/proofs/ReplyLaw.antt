-- what the counter writes is read as it was meant
use Rattle.std.proofs.Common.{append_assoc, Bool, false, if◌then◌else◌, ◌==◌, ◌≡◌, ◌≢◌, ◌∙◌, ℕ, ◌<◌, ◌^◌, true, List, [], ◌∷◌, ◌++◌, decimal, Option, Some, None, All, codes, length, map, refl, sym, ap, subst, arith, le-leb, inl, inr}
use Rattle.std.specs.Prelude.{option_and_then, string_bytes}
use Rattle.std.specs.Fmt.{digits}
use Rattle.std.specs.Str.{IsUtf8}
use Rattle.std.proofs.lemmas.List.Elements.{All-head, All-tail}
use Rattle.http_messages.specs.ReplyBodies.{body_of, refusal_body, summary_body}
use Rattle.http_messages.specs.Fixed.{fault_bytes, fault_number, fault_status, refusing_status}
use Rattle.http_messages.specs.Replies.{HasPhrase, answer_bytes, content_type_of, refusal_status, refused_bytes, reply_bytes, status_of}
use Rattle.http_messages.specs.Values.{count, job_data, jobs_data, queue_data, queued_data, ran_data, refusal_data, summary_data}
use Rattle.http_messages.specs.declared.fixed.Fault.{Fault}
use Rattle.http_messages.specs.declared.fixed.Fault.TheVariants as fault
use Rattle.http_messages.proofs.BodyTexts.{jobs_is, queue_is, ran_is, refusal_is, summary_is}
use Rattle.httparse.specs.Grammar.{status_code}
use Rattle.httparse.proofs.GrammarLemmas.{response_unique}
use Rattle.core_store.specs.Storage.{largest_size}
use Rattle.machine.specs.Ranges.{IsInRange}
use Rattle.machine.specs.Run.{State}
use Rattle.machine.specs.Standings.{standing_at, standing_of, standing_words}
use Rattle.machine.specs.declared.standings.Standing.{Standing}
use Rattle.machine.specs.declared.standings.Standing.TheVariants as running
use Rattle.machine.specs.declared.standings.StandingAt.{StandingAt}
use Rattle.office.specs.Numbers.{refusal_number}
use Rattle.office.specs.Queued.{QueuedJob}
use Rattle.office.specs.declared.lists.JobLine.{JobLine}
use Rattle.office.specs.declared.refusals.Refusal.{Refusal}
use Rattle.office.specs.declared.refusals.Refusal.TheVariants as refusal
use Rattle.office.specs.declared.replies.Reply as office
use Rattle.office.specs.declared.replies.Reply.TheVariants as told
use Rattle.office.specs.declared.summaries.Summary.{Summary}
use Rattle.queue_rounds.specs.Answers.{Stands, Tells, each_in, job_number_in, jobs_in, name_in, queue_in, ran_in, refusal_in, standing_in}
use Rattle.queue_rounds.specs.Names.{Name, name_of}
use Rattle.queue_rounds.specs.Replies.{AreJobsRead, IsQueueRead, IsQueueTold, IsRanTold, IsRefusalTold, IsSliceRead, is_failure}
use Rattle.queue_rounds.specs.Responses.{IsReplyIn, IsResponse}
use Rattle.queue_rounds.specs.StandingTexts.{IsInStorage}
use Rattle.queue_rounds.specs.declared.replies.Outcome.{Outcome}
use Rattle.queue_rounds.specs.declared.replies.Outcome.TheVariants as outcome
use Rattle.queue_rounds.specs.declared.replies.Passed.TheVariants as passed
use Rattle.queue_rounds.specs.declared.replies.Reply.{Reply}
use Rattle.queue_rounds.specs.declared.replies.Reply.TheVariants as reply
use Rattle.queue_rounds.proofs.StandingLemmas.{taken}
use Rattle.serde_json.specs.Data.{Data, no_members, object}
use Rattle.serde_json.specs.Read.{read}
use Rattle.serde_json.specs.View.{items_of}
use Rattle.serde_json.specs.Written.{compact_text}
use Rattle.serde_json.proofs.OnLiterals.{serde_json_on_literals}
use Rattle.bureau_laws.specs.Replies.{HasBody, HasCounts, HasNumber, ReadsJobs, ReadsQueue, ReadsSlice, ReadsStanding, IsAnswer, IsJob, IsListed, IsOfJob, IsRan, IsStandingRead, name_told, number_told, stands_told}
use Rattle.bureau_laws.proofs.ReplyHeads.{IsType, code_is, head_of, reads, states_it, states_size}
use Rattle.bureau_laws.proofs.ReplyTexts.{count_is_plain, is_text, jobs_are_plain, jobs_read, line_is_small, number_is_small, queue_is_plain, queue_read, ran_is_plain, ran_read, refusal_is_plain, refusal_read, status_read, summary_is_plain, summary_read}

-- ---- an answer, whatever its body says

pub answered : (status : ℕ) (content_type body : List ℕ) → HasPhrase status → IsType content_type → length body < 2 ^ 64
    → (answer : Reply) → IsReplyIn (answer_bytes status content_type body) answer → IsAnswer status body answer
answered status content_type body has pass fits reply.Unsent is = is
answered status content_type body has pass fits reply.Lost is =
    let cut = is (head_of status content_type (length body)) body (reads status content_type body has pass) refl (omega arith) in
    let same = states_size content_type (length body) cut.0 fits cut.1 in
    let short = cut.2 in
    omega (arith, same, short)
answered status content_type body has pass fits (reply.Replied code bytes) is =
    let same = response_unique (answer_bytes status content_type body) is.head (head_of status content_type (length body)) bytes.items body is.reads (reads status content_type body has pass) in
    (is.status_is ∙ ap status_code same.0 ∙ code_is status content_type (length body) has, same.1)

-- an answer is a response with its status and body
pub responded : (status : ℕ) (content_type body : List ℕ) → HasPhrase status → IsType content_type → length body < 2 ^ 64
    → IsResponse (answer_bytes status content_type body) status body
responded status content_type body has pass fits = record {
  head = head_of status content_type (length body);
  reads = reads status content_type body has pass;
  version = refl;
  status_is = sym (code_is status content_type (length body) has);
  whole = (Some (length body), states_it content_type (length body) fits, omega arith);
}

-- the statuses of refusals
abbrev IsRefusing : ℕ → Type 0
IsRefusing status = (status ≢ 200) × (is_failure status ≡ false) × HasPhrase status

other_than : (status : ℕ) → 200 < status → status ≢ 200
other_than status more e = omega arith

bad_request : IsRefusing 400
bad_request = (other_than 400 (omega arith), refl, inr (inl refl))

not_found : IsRefusing 404
not_found = (other_than 404 (omega arith), refl, inr (inr (inl refl)))

conflict : IsRefusing 409
conflict = (other_than 409 (omega arith), refl, inr (inr (inr (inr (inl refl)))))

refuses : (reason : Refusal) → IsRefusing (refusal_status reason) × (refusal_number reason < 30)
refuses refusal.Customer = (bad_request, omega arith)
refuses refusal.Number = (bad_request, omega arith)
refuses refusal.Size = (bad_request, omega arith)
refuses refusal.Deck = (bad_request, omega arith)
refuses refusal.OtherContents = (conflict, omega arith)
refuses refusal.TooManyJobs = (conflict, omega arith)
refuses (refusal.Assembly faults) = (bad_request, omega arith)
refuses refusal.NoJob = (not_found, omega arith)
refuses refusal.Limit = (bad_request, omega arith)
refuses refusal.Held = (conflict, omega arith)
refuses refusal.NotRunning = (conflict, omega arith)
refuses refusal.NotAtHalt = (conflict, omega arith)
refuses refusal.AlreadyHeld = (conflict, omega arith)
refuses refusal.NotHeld = (conflict, omega arith)
refuses refusal.Collected = (conflict, omega arith)
refuses refusal.TooMuch = (conflict, omega arith)
refuses refusal.NoSuchPocket = (bad_request, omega arith)

has_phrase : (r : office.Reply) → HasPhrase (status_of r)
has_phrase (told.Taken cards) = inl refl
has_phrase (told.Ran executed standing) = inl refl
has_phrase told.Started = inl refl
has_phrase told.Held = inl refl
has_phrase told.Released = inl refl
has_phrase (told.Collected cards lines) = inl refl
has_phrase (told.Standing job) = inl refl
has_phrase (told.Cards cards) = inl refl
has_phrase (told.Lines lines) = inl refl
has_phrase (told.Jobs jobs) = inl refl
has_phrase (told.Queue jobs) = inl refl
has_phrase (told.Refused reason) = (refuses reason).0.2

has_type : (r : office.Reply) → IsType (content_type_of r)
has_type (told.Taken cards) = refl
has_type (told.Ran executed standing) = refl
has_type told.Started = refl
has_type told.Held = refl
has_type told.Released = refl
has_type (told.Collected cards lines) = refl
has_type (told.Standing job) = refl
has_type (told.Cards cards) = refl
has_type (told.Lines lines) = refl
has_type (told.Jobs jobs) = refl
has_type (told.Queue jobs) = refl
has_type (told.Refused reason) = refl

pub reply_answered : (r : office.Reply) (answer : Reply) → HasBody r → IsReplyIn (reply_bytes r) answer → IsAnswer (status_of r) (body_of r) answer
reply_answered r answer fits is = answered (status_of r) (content_type_of r) (body_of r) (has_phrase r) (has_type r) fits answer is

pub reply_responded : (r : office.Reply) → HasBody r → IsResponse (reply_bytes r) (status_of r) (body_of r)
reply_responded r fits = responded (status_of r) (content_type_of r) (body_of r) (has_phrase r) (has_type r) fits

-- ---- what a body tells

some_is : {X : Type 0} {x y : X} → Some x ≡ Some y → x ≡ y
some_is e = cc

none_is_not : {X : Type 0} {P : Type 0} {x : X} → None ≡ Some x → P
none_is_not e = absurd (cc)

-- a body with the text of this data tells what the rule makes of it
tells : {X : Type 0} (rule : Data → Option X) (d : Data) (body : List ℕ) (it : Option X)
    → compact_text d ≡ body → IsUtf8 (compact_text d) → read (compact_text d) ≡ Some d → Tells rule body it → it ≡ rule d
tells rule d body it same text found t =
    t.is_told (subst IsUtf8 same text) ∙ ap (λ (b : List ℕ). option_and_then rule (read b)) (sym same) ∙ ap (option_and_then rule) found

-- ---- the queue

name_is : (job : QueuedJob) → IsJob job → name_in (queued_data job) ≡ Some (name_told job)
name_is job is =
    rw (le-leb job.number 4294967295 (omega (arith, number_is_small job is)), is.0, is.1) refl

names_are : (jobs : List QueuedJob) → All IsJob jobs → each_in name_in (items_of (map queued_data jobs)) ≡ Some (map name_told jobs)
unfolding each_in
names_are [] all = refl
names_are (job ∷ jobs) all = rw (name_is job (All-head IsJob job jobs all), names_are jobs (All-tail IsJob job jobs all)) refl

queue_tells : (jobs : List QueuedJob) (it : Option (List Name)) → All IsJob jobs → Tells queue_in (body_of (told.Queue jobs)) it → it ≡ Some (map name_told jobs)
queue_tells jobs it all t =
    let d = queue_data (map queued_data jobs) in
    tells queue_in d (body_of (told.Queue jobs)) it (queue_is d jobs (compact_text d) refl (λ _. refl)) (is_text d (queue_is_plain jobs all)) (queue_read jobs all) t
    ∙ names_are jobs all

queue_told : (jobs : List QueuedJob) (it : Outcome) → All IsJob jobs → IsQueueTold (body_of (told.Queue jobs)) it → IsListed jobs it
queue_told jobs (outcome.Listed found) all t = some_is (queue_tells jobs (Some (map name_of found.items)) all t)
queue_told jobs (outcome.Ran ran) all t = t
queue_told jobs (outcome.Passed why) all t = t
queue_told jobs outcome.Nothing all t = t
queue_told jobs outcome.Foreign all t = none_is_not (queue_tells jobs None all t)

queue_outcome : (jobs : List QueuedJob) (answer : Reply) (it : Outcome) → All IsJob jobs → IsAnswer 200 (body_of (told.Queue jobs)) answer → IsQueueRead answer it → IsListed jobs it
queue_outcome jobs reply.Unsent it all is h = absurd is
queue_outcome jobs reply.Lost it all is h = absurd is
queue_outcome jobs (reply.Replied status body) it all is h = queue_told jobs it all (subst (λ (b : List ℕ). IsQueueTold b it) is.1 (h.told is.0))

pub reads_queue : (jobs : List QueuedJob) (it : Outcome) → All IsJob jobs → HasBody (told.Queue jobs) → ReadsQueue (reply_bytes (told.Queue jobs)) it → IsListed jobs it
reads_queue jobs it all fits h = queue_outcome jobs h.0 it all (reply_answered (told.Queue jobs) h.0 fits h.1) h.2

-- ---- a customer's jobs

number_is : (job : JobLine) → HasNumber job → job_number_in (job_data job) ≡ Some (number_told job)
number_is job is = rw (le-leb job.number 4294967295 (omega (arith, line_is_small job is)), is) refl

numbers_are : (jobs : List JobLine) → All HasNumber jobs → each_in job_number_in (items_of (map job_data jobs)) ≡ Some (map number_told jobs)
unfolding each_in
numbers_are [] all = refl
numbers_are (job ∷ jobs) all = rw (number_is job (All-head HasNumber job jobs all), numbers_are jobs (All-tail HasNumber job jobs all)) refl

jobs_tell : (jobs : List JobLine) (it : Option (List ℕ)) → All HasNumber jobs → Tells jobs_in (body_of (told.Jobs jobs)) it → it ≡ Some (map number_told jobs)
jobs_tell jobs it all t =
    let d = jobs_data (map job_data jobs) in
    tells jobs_in d (body_of (told.Jobs jobs)) it (jobs_is d jobs (compact_text d) refl (λ _. refl)) (is_text d (jobs_are_plain jobs all)) (jobs_read jobs all) t
    ∙ numbers_are jobs all

jobs_outcome : (jobs : List JobLine) (answer : Reply) (it : Option (List ℕ)) → All HasNumber jobs → IsAnswer 200 (body_of (told.Jobs jobs)) answer → AreJobsRead answer it
    → it ≡ Some (map number_told jobs)
jobs_outcome jobs reply.Unsent it all is h = absurd is
jobs_outcome jobs reply.Lost it all is h = absurd is
jobs_outcome jobs (reply.Replied status body) it all is h = jobs_tell jobs it all (subst (λ (b : List ℕ). Tells jobs_in b it) is.1 (h.told is.0))

pub reads_jobs : (jobs : List JobLine) (it : Option (List ℕ)) → All HasNumber jobs → HasBody (told.Jobs jobs) → ReadsJobs (reply_bytes (told.Jobs jobs)) it
    → it ≡ Some (map number_told jobs)
reads_jobs jobs it all fits h = jobs_outcome jobs h.0 it all (reply_answered (told.Jobs jobs) h.0 fits h.1) h.2

-- ---- a slice that ran

ran_tells : (executed : ℕ) (s : StandingAt) (it : Option (ℕ × List ℕ)) → executed < 2 ^ 32 → IsInStorage s → Tells ran_in (body_of (told.Ran executed s)) it → it ≡ Some (executed, standing_words s)
ran_tells executed s it small held t =
    let d = ran_data executed s in
    tells ran_in d (body_of (told.Ran executed s)) it (ran_is d executed s (compact_text d) refl (λ _. refl)) (is_text d (ran_is_plain executed s (omega arith))) (ran_read executed s (omega arith)) t
    ∙ rw (le-leb executed 4294967295 (omega arith), taken s held) refl

ran_told : (executed : ℕ) (s : StandingAt) (it : Outcome) → executed < 2 ^ 32 → IsInStorage s → IsRanTold (body_of (told.Ran executed s)) it → IsRan executed s it
ran_told executed s (outcome.Listed found) small held t = t
ran_told executed s (outcome.Ran ran) small held t =
    let same = some_is (ran_tells executed s (Some (ran.executed, string_bytes ran.standing)) small held t) in
    (ap (λ (p : ℕ × List ℕ). p.0) same, ap (λ (p : ℕ × List ℕ). p.1) same)
ran_told executed s (outcome.Passed why) small held t = t
ran_told executed s outcome.Nothing small held t = t
ran_told executed s outcome.Foreign small held t = none_is_not (ran_tells executed s None small held t)

ran_outcome : (executed : ℕ) (s : StandingAt) (answer : Reply) (it : Outcome) → executed < 2 ^ 32 → IsInStorage s → IsAnswer 200 (body_of (told.Ran executed s)) answer → IsSliceRead answer it → IsRan executed s it
ran_outcome executed s reply.Unsent it small held is h = absurd is
ran_outcome executed s reply.Lost it small held is h = absurd is
ran_outcome executed s (reply.Replied status body) it small held is h = ran_told executed s it small held (subst (λ (b : List ℕ). IsRanTold b it) is.1 (h.told is.0))

pub reads_ran : (executed : ℕ) (s : StandingAt) (it : Outcome) → executed < 2 ^ 32 → IsInStorage s → HasBody (told.Ran executed s) → ReadsSlice (reply_bytes (told.Ran executed s)) it → IsRan executed s it
reads_ran executed s it small held fits h = ran_outcome executed s h.0 it small held (reply_answered (told.Ran executed s) h.0 fits h.1) h.2

-- the standing of a machine in range has an address of the storage, if it has one
by_address : (s : Standing) (i : ℕ) → i < largest_size → IsInStorage (standing_at s i)
by_address running.Running i low = tt
by_address running.Halted i low = low
by_address (running.Checked check) i low = low

pub machine_in_storage : (m : State) → IsInRange m → IsInStorage (standing_of m)
machine_in_storage m is = by_address m.standing m.works.registers.i is.registers.i

-- ---- a slice that was refused

refusal_tells : (reason : Refusal) (it : Option ℕ) → IsOfJob reason → Tells refusal_in (refusal_body reason) it → it ≡ Some (refusal_number reason)
refusal_tells reason it of t =
    let n = refusal_number reason in
    let d = refusal_data n in
    let small : n < 30 = (refuses reason).1 in
    tells refusal_in d (refusal_body reason) it (refusal_is d reason (compact_text d) refl of (λ _. refl)) (is_text d (refusal_is_plain n (omega arith))) (refusal_read n (omega arith)) t
    ∙ rw (le-leb n 4294967295 (omega arith)) refl

refusal_told : (reason : Refusal) (it : Outcome) → IsOfJob reason → IsRefusalTold (refusal_body reason) it → it ≡ outcome.Passed (passed.Refused (refusal_number reason))
refusal_told reason (outcome.Listed found) of t = absurd t
refusal_told reason (outcome.Ran ran) of t = absurd t
refusal_told reason (outcome.Passed (passed.Refused number)) of t = ap (λ (n : ℕ). outcome.Passed (passed.Refused n)) (some_is (refusal_tells reason (Some number) of t))
refusal_told reason (outcome.Passed (passed.Failed status)) of t = absurd t
refusal_told reason (outcome.Passed passed.Lost) of t = absurd t
refusal_told reason outcome.Nothing of t = absurd t
refusal_told reason outcome.Foreign of t = none_is_not (refusal_tells reason None of t)

refusal_outcome : (reason : Refusal) (answer : Reply) (it : Outcome) → IsOfJob reason → IsAnswer (refusal_status reason) (refusal_body reason) answer → IsSliceRead answer it
    → it ≡ outcome.Passed (passed.Refused (refusal_number reason))
refusal_outcome reason reply.Unsent it of is h = absurd is
refusal_outcome reason reply.Lost it of is h = absurd is
refusal_outcome reason (reply.Replied status body) it of is h =
    let why = (refuses reason).0 in
    let other : status ≢ 200 = λ e. why.0 (sym is.0 ∙ e) in
    refusal_told reason it of (subst (λ (b : List ℕ). IsRefusalTold b it) is.1 ((h.passed other).told (ap is_failure is.0 ∙ why.1)))

pub reads_refusal : (reason : Refusal) (it : Outcome) → IsOfJob reason → HasBody (told.Refused reason) → ReadsSlice (reply_bytes (told.Refused reason)) it
    → it ≡ outcome.Passed (passed.Refused (refusal_number reason))
reads_refusal reason it of fits h = refusal_outcome reason h.0 it of (reply_answered (told.Refused reason) h.0 fits h.1) h.2

-- ---- a fault of the bureau itself

abbrev fault_body : Fault → List ℕ
fault_body f = codes "{\"fault\":" ++ decimal (fault_number f) ++ codes "}"

record IsFailing (f : Fault) : Type 0 where
  phrase : HasPhrase (fault_status f)
  fails : is_failure (fault_status f) ≡ true
  other : fault_status f ≢ 200
  fits : length (fault_body f) < 2 ^ 64

failing : (f : Fault) → IsFailing f
unfolding digits
failing fault.NoMemory = record { phrase = inr (inr (inr (inr (inr (inr (inr (inr (inr refl)))))))); fails = refl; other = other_than 503 (omega arith); fits = omega arith }
failing fault.Store = record { phrase = inr (inr (inr (inr (inr (inr (inr (inr (inr refl)))))))); fails = refl; other = other_than 503 (omega arith); fits = omega arith }
failing fault.NoMemoryForReply = record { phrase = inr (inr (inr (inr (inr (inr (inr (inr (inl refl)))))))); fails = refl; other = other_than 500 (omega arith); fits = omega arith }

fault_answered : (f : Fault) (answer : Reply) → IsReplyIn (fault_bytes f) answer → IsAnswer (fault_status f) (fault_body f) answer
fault_answered f answer is = let how = failing f in answered (fault_status f) (codes "application/json") (fault_body f) how.phrase refl how.fits answer is

failed_slice : (f : Fault) (answer : Reply) (it : Outcome) → IsAnswer (fault_status f) (fault_body f) answer → IsSliceRead answer it → it ≡ outcome.Passed (passed.Failed (fault_status f))
failed_slice f reply.Unsent it is h = absurd is
failed_slice f reply.Lost it is h = absurd is
failed_slice f (reply.Replied status body) it is h =
    let how = failing f in
    (h.passed (λ e. how.other (sym is.0 ∙ e))).failed (ap is_failure is.0 ∙ how.fails) ∙ ap (λ (s : ℕ). outcome.Passed (passed.Failed s)) is.0

pub reads_failed_slice : (f : Fault) (it : Outcome) → ReadsSlice (fault_bytes f) it → it ≡ outcome.Passed (passed.Failed (fault_status f))
reads_failed_slice f it h = failed_slice f h.0 it (fault_answered f h.0 h.1) h.2

failed_queue : (f : Fault) (answer : Reply) (it : Outcome) → IsAnswer (fault_status f) (fault_body f) answer → IsQueueRead answer it → it ≡ outcome.Nothing
failed_queue f reply.Unsent it is h = absurd is
failed_queue f reply.Lost it is h = absurd is
failed_queue f (reply.Replied status body) it is h = h.failed (ap is_failure is.0 ∙ (failing f).fails)

pub reads_failed_queue : (f : Fault) (it : Outcome) → ReadsQueue (fault_bytes f) it → it ≡ outcome.Nothing
reads_failed_queue f it h = failed_queue f h.0 it (fault_answered f h.0 h.1) h.2

-- ---- the standing of a job

standing_tells : (job : Summary) (it : Option Stands) → HasCounts job → IsInStorage job.standing → Tells standing_in (summary_body job) it → it ≡ Some (stands_told job)
standing_tells job it has held t =
    let d = summary_data job in
    tells standing_in d (summary_body job) it (summary_is d job (compact_text d) refl (λ _. refl)) (is_text d (summary_is_plain job has)) (summary_read job has) t
    ∙ rw (le-leb job.granted 4294967295 (omega (arith, has.granted)), le-leb job.cards 4294967295 (omega (arith, has.cards)), le-leb job.lines 4294967295 (omega (arith, has.lines)), taken job.standing held) refl

standing_outcome : (job : Summary) (answer : Reply) (it : Option Stands) → HasCounts job → IsInStorage job.standing → IsAnswer 200 (summary_body job) answer → IsStandingRead answer it → it ≡ Some (stands_told job)
standing_outcome job reply.Unsent it has held is h = absurd is
standing_outcome job reply.Lost it has held is h = absurd is
standing_outcome job (reply.Replied status body) it has held is h = standing_tells job it has held (subst (λ (b : List ℕ). Tells standing_in b it) is.1 (h.told is.0))

pub reads_standing : (job : Summary) (it : Option Stands) → HasCounts job → IsInStorage job.standing → HasBody (told.Standing job) → ReadsStanding (reply_bytes (told.Standing job)) it → it ≡ Some (stands_told job)
reads_standing job it has held fits h = standing_outcome job h.0 it has held (reply_answered (told.Standing job) h.0 fits h.1) h.2

-- ---- a request that is refused by its status alone

abbrev status_data : ℕ → Data
status_data status = object (count (codes "status") status no_members)

abbrev status_body : ℕ → List ℕ
status_body status = codes "{\"status\":" ++ decimal status ++ codes "}"

status_text : (status : ℕ) → compact_text (status_data status) ≡ status_body status
unfolding serde_json_on_literals
status_text status = simp append_assoc

record IsForeign (status : ℕ) : Type 0 where
  phrase : HasPhrase status
  fails : is_failure status ≡ false
  other : status ≢ 200
  small : status < 1000
  fits : length (status_body status) < 2 ^ 64

foreign : (a b c d e : Bool) → IsForeign (if a then 404 else if b then 405 else if c then 411 else if d then 413 else if e then 431 else 400)
unfolding digits
foreign true b c d e = record { phrase = inr (inr (inl refl)); fails = refl; other = other_than 404 (omega arith); small = omega arith; fits = omega arith }
foreign false true c d e = record { phrase = inr (inr (inr (inl refl))); fails = refl; other = other_than 405 (omega arith); small = omega arith; fits = omega arith }
foreign false false true d e = record { phrase = inr (inr (inr (inr (inr (inl refl))))); fails = refl; other = other_than 411 (omega arith); small = omega arith; fits = omega arith }
foreign false false false true e = record { phrase = inr (inr (inr (inr (inr (inr (inl refl)))))); fails = refl; other = other_than 413 (omega arith); small = omega arith; fits = omega arith }
foreign false false false false true = record { phrase = inr (inr (inr (inr (inr (inr (inr (inl refl))))))); fails = refl; other = other_than 431 (omega arith); small = omega arith; fits = omega arith }
foreign false false false false false = record { phrase = inr (inl refl); fails = refl; other = other_than 400 (omega arith); small = omega arith; fits = omega arith }

refusing : (status : ℕ) → IsForeign (refusing_status status)
refusing status = foreign (status == 404) (status == 405) (status == 411) (status == 413) (status == 431)

foreign_answered : (status : ℕ) (answer : Reply) → IsForeign status → IsReplyIn (refused_bytes status) answer → IsAnswer status (status_body status) answer
foreign_answered status answer is got = answered status (codes "application/json") (status_body status) is.phrase refl is.fits answer got

foreign_tells : (status : ℕ) (it : Option ℕ) → status < 1000 → Tells refusal_in (status_body status) it → it ≡ None
foreign_tells status it small t =
    let d = status_data status in
    tells refusal_in d (status_body status) it (status_text status) (is_text d (count_is_plain (codes "status") status refl (omega arith))) (status_read status (omega arith)) t

foreign_told : (status : ℕ) (it : Outcome) → status < 1000 → IsRefusalTold (status_body status) it → it ≡ outcome.Foreign
foreign_told status (outcome.Listed found) small t = absurd t
foreign_told status (outcome.Ran ran) small t = absurd t
foreign_told status (outcome.Passed (passed.Refused number)) small t = none_is_not (sym (foreign_tells status (Some number) small t))
foreign_told status (outcome.Passed (passed.Failed code)) small t = absurd t
foreign_told status (outcome.Passed passed.Lost) small t = absurd t
foreign_told status outcome.Nothing small t = absurd t
foreign_told status outcome.Foreign small t = refl

foreign_slice : (status : ℕ) (answer : Reply) (it : Outcome) → IsForeign status → IsAnswer status (status_body status) answer → IsSliceRead answer it → it ≡ outcome.Foreign
foreign_slice status reply.Unsent it how is h = absurd is
foreign_slice status reply.Lost it how is h = absurd is
foreign_slice status (reply.Replied code body) it how is h =
    foreign_told status it how.small (subst (λ (b : List ℕ). IsRefusalTold b it) is.1 ((h.passed (λ e. how.other (sym is.0 ∙ e))).told (ap is_failure is.0 ∙ how.fails)))

pub reads_foreign_slice : (status : ℕ) (it : Outcome) → ReadsSlice (refused_bytes (refusing_status status)) it → it ≡ outcome.Foreign
reads_foreign_slice status it h =
    let how = refusing status in
    foreign_slice (refusing_status status) h.0 it how (foreign_answered (refusing_status status) h.0 how h.1) h.2

foreign_queue : (status : ℕ) (answer : Reply) (it : Outcome) → IsForeign status → IsAnswer status (status_body status) answer → IsQueueRead answer it → it ≡ outcome.Foreign
foreign_queue status reply.Unsent it how is h = absurd is
foreign_queue status reply.Lost it how is h = absurd is
foreign_queue status (reply.Replied code body) it how is h = h.other (ap is_failure is.0 ∙ how.fails) (λ e. how.other (sym is.0 ∙ e))

pub reads_foreign_queue : (status : ℕ) (it : Outcome) → ReadsQueue (refused_bytes (refusing_status status)) it → it ≡ outcome.Foreign
reads_foreign_queue status it h =
    let how = refusing status in
    foreign_queue (refusing_status status) h.0 it how (foreign_answered (refusing_status status) h.0 how h.1) h.2
