-- A job that was handed in stays what was handed in.
use Rattle.std.proofs.Common.{◌≡◌, ◌⊎◌, ℕ, ◌==◌, ◌&&◌, bytes_eq, List, [], ◌∷◌, ◌++◌, length, Bool, true, false, Option, None, Some, Result, Ok, Err, refl, sym, ap, subst, ◌∙◌, inl, inr, arith, length-append, eq-eqb, true≢false}
use Rattle.std.specs.Prelude.{string_bytes}
use Rattle.std.proofs.lemmas.Bool.{and_parts, cases_Bool}
use Rattle.std.proofs.lemmas.Bool.Decides.{nat_tests}
use Rattle.std.proofs.lemmas.Slice.Eq.{bytes_eq-Decides}
use Rattle.cards.specs.declared.decks.Card.{Card}
use Rattle.cards.specs.Decks.{deck_bytes}
use Rattle.core_store.specs.Storage.{positions_of, size_numbered}
use Rattle.core_store.specs.declared.sizes.Size.{Size}
use Rattle.units.specs.Switches.{seven}
use Rattle.units.specs.declared.switches.Switches.{Switches}
use Rattle.office.specs.declared.commands.Command.{Command}
use Rattle.office.specs.declared.commands.Command.TheVariants.{Submit, Job as OnJob, Jobs, Queue}
use Rattle.office.specs.declared.commands.Contents.{Contents}
use Rattle.office.specs.declared.commands.JobCommand.{JobCommand}
use Rattle.office.specs.declared.commands.Kind.{Kind}
use Rattle.office.specs.declared.commands.Kind.TheVariants.{Object, Autocoder}
use Rattle.office.specs.declared.commands.JobCommand.TheVariants.{Slice, Start, Hold, Release, Collect, Standing as Tell, Cards, Lines}
use Rattle.office.specs.declared.refusals.Refusal.{Refusal}
use Rattle.office.specs.declared.replies.Reply.{Reply}
use Rattle.office.specs.declared.replies.Reply.TheVariants as reply
use Rattle.office.specs.declared.stretches.Stretch.{Stretch}
use Rattle.office.specs.Jobs.{Job, loaded_of, loaded_deck, granted_more, one_more}
use Rattle.office.specs.Kept.{kept_of, summary_of, job_refusal, changed_job, job_unless, job_after}
use Rattle.office.specs.New.{deck_refusal, new_job, job_unless_refused, job_of_size, job_or_refusal}
use Rattle.office.specs.Office.{Entry, Office, is_entry, job_of, with_job, has_most_jobs, added, submitted_as, is_same_kind, began_with, is_of, repeated, submitted, commanded, name_refusal, early_refusal, served, taken, take, fold}
use Rattle.bureau_laws.specs.Repeats.{IsRepeatOf, HasContents, IsNumberTaken, IsLastPlaceTaken}

-- ---- a job stays what was handed in, whatever is done with it

began_more : (switches : Switches) (limit : ℕ) (stretches : List Stretch) → began_with switches (granted_more limit stretches) ≡ began_with switches stretches
began_more switches limit [] = refl
began_more switches limit (s ∷ []) = refl
began_more switches limit (s ∷ t ∷ stretches) = refl

began_still : (switches next : Switches) (stretches : List Stretch) → began_with switches stretches ≡ true → began_with switches (one_more next stretches) ≡ true
began_still switches next [] is = absurd (let e = is in cc)
began_still switches next (s ∷ stretches) is = is

-- other stretches that began alike
of_still : (contents : Contents) (job : Job) (stretches : List Stretch) → (began_with (seven contents.switches) job.stretches ≡ true → began_with (seven contents.switches) stretches ≡ true)
    → is_of contents job ≡ true → is_of contents (record job { stretches = stretches }) ≡ true
of_still contents job stretches still is =
    let three = and_parts (is_same_kind job.kind contents.kind && (positions_of job.size == contents.size) && began_with (seven contents.switches) job.stretches) (bytes_eq (deck_bytes job.deck) (deck_bytes contents.deck)) is in
    let two = and_parts (is_same_kind job.kind contents.kind && (positions_of job.size == contents.size)) (began_with (seven contents.switches) job.stretches) three.0 in
    let one = and_parts (is_same_kind job.kind contents.kind) (positions_of job.size == contents.size) two.0 in
    let began = still two.1 in
    simp (one.0, one.1, began, three.1)

-- the job is of these contents, and so many cards are loaded
pub record IsOf (contents : Contents) (cards : ℕ) (job : Job) : Type 0 where
  pub same : is_of contents job ≡ true
  pub loaded : length (loaded_deck job) ≡ cards

changed_is : (contents : Contents) (cards : ℕ) (job : Job) → IsOf contents cards job → (c : JobCommand) → IsOf contents cards (changed_job c job)
changed_is contents cards job it (Slice limit) = record { same = of_still contents job (granted_more limit job.stretches) (λ began. began_more (seven contents.switches) limit job.stretches ∙ began) it.same; loaded = it.loaded }
changed_is contents cards job it (Start switches) = record { same = of_still contents job (one_more (seven switches) job.stretches) (began_still (seven contents.switches) (seven switches) job.stretches) it.same; loaded = it.loaded }
changed_is contents cards job it Hold = record { same = it.same; loaded = it.loaded }
changed_is contents cards job it Release = record { same = it.same; loaded = it.loaded }
changed_is contents cards job it Collect = record { same = it.same; loaded = it.loaded }
changed_is contents cards job it Tell = it
changed_is contents cards job it (Cards from) = it
changed_is contents cards job it Lines = it

after_is : (contents : Contents) (cards : ℕ) (job : Job) → IsOf contents cards job → (c : JobCommand) → IsOf contents cards (job_after c job)
after_is contents cards job it c = go (job_refusal c (summary_of (kept_of job)))
  where
    go : (o : Option Refusal) → IsOf contents cards (job_unless c job o)
    go (Some reason) = it
    go None = changed_is contents cards job it c

-- ---- a job that is there stays there

found_before : (c : List ℕ) (n : ℕ) (job : Job) (o more : Office) → job_of c n o ≡ Some job → job_of c n (o ++ more) ≡ Some job
found_before c n job [] more found = absurd (let e = found in cc)
found_before c n job (e ∷ o) more found = elim (cases_Bool (is_entry c n e)) [
  | inl this ↦ simp this (let here : Some e.job ≡ Some job = rw this at found in here)
  | inr other ↦ simp other (found_before c n job o more (rw other at found))
]

one_name : (c d : List ℕ) (n m : ℕ) (e : Entry) → is_entry c n e ≡ true → is_entry d m e ≡ true → (d ≡ c) × (m ≡ n)
one_name c d n m e first second =
    let a = and_parts (bytes_eq e.customer c) (e.number == n) first in
    let b = and_parts (bytes_eq e.customer d) (e.number == m) second in
    let x : e.customer ≡ c = (bytes_eq-Decides e.customer c).0 a.0 in
    let y : e.customer ≡ d = (bytes_eq-Decides e.customer d).0 b.0 in
    let i : e.number ≡ n = grind (arith, nat_tests, a.1) in
    let j : e.number ≡ m = grind (arith, nat_tests, b.1) in
    (sym y ∙ x, sym j ∙ i)

-- another job in the place of some job: of this one, or of another
found_with : (c d : List ℕ) (n m : ℕ) (job other : Job) (o : Office) → job_of c n o ≡ Some job
    → (job_of c n (with_job d m other o) ≡ Some job) ⊎ ((job_of c n (with_job d m other o) ≡ Some other) × (d ≡ c) × (m ≡ n))
found_with c d n m job other [] found = absurd (let e = found in cc)
found_with c d n m job other (e ∷ o) found = go (is_entry c n e) refl (is_entry d m e) refl (found_with c d n m job other o)
  where
    go : (a : Bool) → is_entry c n e ≡ a → (b : Bool) → is_entry d m e ≡ b
        → (job_of c n o ≡ Some job → (job_of c n (with_job d m other o) ≡ Some job) ⊎ ((job_of c n (with_job d m other o) ≡ Some other) × (d ≡ c) × (m ≡ n)))
        → (job_of c n (with_job d m other (e ∷ o)) ≡ Some job) ⊎ ((job_of c n (with_job d m other (e ∷ o)) ≡ Some other) × (d ≡ c) × (m ≡ n))
    go true this true that rest = let put : job_of c n (with_job d m other (e ∷ o)) ≡ Some other = simp (that, this) in let names = one_name c d n m e this that in inr (put, names.0, names.1)
    go true this false not rest = let here : Some e.job ≡ Some job = rw this at found in let put : job_of c n (with_job d m other (e ∷ o)) ≡ Some job = simp (not, this) here in inl put
    go false away true that rest =
        let same : job_of c n (with_job d m other (e ∷ o)) ≡ job_of c n (with_job d m other o) = simp (that, away) in
        subst (λ x. (x ≡ Some job) ⊎ ((x ≡ Some other) × (d ≡ c) × (m ≡ n))) (sym same) (rest (rw away at found))
    go false away false not rest =
        let same : job_of c n (with_job d m other (e ∷ o)) ≡ job_of c n (with_job d m other o) = simp (not, away) in
        subst (λ x. (x ≡ Some job) ⊎ ((x ≡ Some other) × (d ≡ c) × (m ≡ n))) (sym same) (rest (rw away at found))

module _ (c : List ℕ) (n : ℕ) (contents : Contents) (cards : ℕ) where
  -- the job of this name is of these contents
  pub record IsThere (o : Office) : Type 0 where
    pub job : Job
    pub found : job_of c n o ≡ Some job
    pub is : IsOf contents cards job

  added_there : (o : Office) → IsThere o → (d : List ℕ) (m : ℕ) (job : Job) (b : Bool) → has_most_jobs d o ≡ b → IsThere (added d m o job).0
  added_there o it d m job true full = rw full it
  added_there o it d m job false room = rw room (record { job = it.job; found = found_before c n it.job o ((record { customer = d; number = m; job = job }) ∷ []) it.found; is = it.is })

  new_there : (o : Office) → IsThere o → (d : List ℕ) (m : ℕ) (r : Result Job Refusal) → IsThere (submitted_as d m o r).0
  new_there o it d m (Err reason) = it
  new_there o it d m (Ok job) = added_there o it d m job (has_most_jobs d o) refl

  submitted_there : (o : Office) → IsThere o → (d : List ℕ) (m : ℕ) (other : Contents) (j : Option Job) → IsThere (submitted d m other o j).0
  submitted_there o it d m other (Some job) = it
  submitted_there o it d m other None = new_there o it d m (job_or_refusal other)

  commanded_there : (o : Office) → IsThere o → (d : List ℕ) (m : ℕ) (k : JobCommand) (j : Option Job) → job_of d m o ≡ j → IsThere (commanded d m k o j).0
  commanded_there o it d m k None at = it
  commanded_there o it d m k (Some old) at = elim (found_with c d n m it.job (job_after k old) o it.found) [
    | inl still ↦ record { job = it.job; found = still; is = it.is }
    | inr put ↦
        let one : job_of c n o ≡ Some old = ap (λ x. job_of x n o) (sym put.1) ∙ ap (λ x. job_of d x o) (sym put.2) ∙ at in
        let both : Some it.job ≡ Some old = sym it.found ∙ one in
        let same : it.job ≡ old = cc in
        record { job = job_after k old; found = put.0; is = after_is contents cards old (subst (IsOf contents cards) same it.is) k }
  ]

  served_there : (o : Office) → IsThere o → (command : Command) → IsThere (served command o).0
  served_there o it (Submit customer m other) = submitted_there o it (string_bytes customer) m other (job_of (string_bytes customer) m o)
  served_there o it (OnJob customer m k) = commanded_there o it (string_bytes customer) m k (job_of (string_bytes customer) m o) refl
  served_there o it (Jobs customer) = it
  served_there o it Queue = it

  take_there : (o : Office) → IsThere o → (command : Command) → IsThere (take command o).0
  take_there o it command = go (early_refusal command)
    where
      go : (r : Option Refusal) → IsThere (taken command o r).0
      go (Some reason) = it
      go None = served_there o it command

  stays_there : (commands : List Command) (o : Office) → IsThere o → IsThere (fold commands o).0
  unfolding fold
  stays_there [] o it = it
  stays_there (command ∷ commands) o it = stays_there commands (take command o).0 (take_there o it command)

  -- ---- the reply to the submission

  told_again : (o : Office) → IsThere o → submitted c n contents o (job_of c n o) ≡ (o, reply.Taken cards)
  told_again o it =
      subst (λ j. submitted c n contents o j ≡ (o, reply.Taken cards)) (sym it.found)
      (let same = it.is.same in simp same (ap (λ k. let p : Office × Reply = (o, reply.Taken k) in p) it.is.loaded))

  repeated_is : (job : Job) (b : Bool) → is_of contents job ≡ b → repeated contents job ≡ reply.Taken cards → IsOf contents cards job
  repeated_is job true same told = let e : reply.Taken (length (loaded_deck job)) ≡ reply.Taken cards = rw same at told in record { same = same; loaded = cc }
  repeated_is job false other told = absurd (let e = rw other at told in cc)

  longer : (o : Office) (e : Entry) → o ++ e ∷ [] ≡ o → ⊥
  longer o e same = omega (arith, ap length same, length-append o (e ∷ []))

  -- where the submission is answered so and changes nothing, the job is there
  added_no : (o : Office) (job : Job) (b : Bool) → has_most_jobs c o ≡ b → added c n o job ≡ (o, reply.Taken cards) → ⊥
  added_no o job true full told = let e = ap (λ (p : Office × Reply). p.1) (rw full at told) in cc
  added_no o job false room told = longer o (record { customer = c; number = n; job = job }) (ap (λ (p : Office × Reply). p.0) (rw room at told))

  new_no : (o : Office) (r : Result Job Refusal) → submitted_as c n o r ≡ (o, reply.Taken cards) → ⊥
  new_no o (Err reason) told = let e = ap (λ (p : Office × Reply). p.1) told in cc
  new_no o (Ok job) told = added_no o job (has_most_jobs c o) refl told

  there_by : (o : Office) (j : Option Job) → job_of c n o ≡ j → submitted c n contents o j ≡ (o, reply.Taken cards) → IsThere o
  there_by o None at told = absurd (new_no o (job_or_refusal contents) told)
  there_by o (Some job) at told = record { job = job; found = at; is = repeated_is job (is_of contents job) refl (ap (λ (p : Office × Reply). p.1) told) }

-- ---- a submission

early_none : (command : Command) (o : Office) (cards : ℕ) (r : Option Refusal) → early_refusal command ≡ r → (taken command o r).1 ≡ reply.Taken cards → early_refusal command ≡ None
early_none command o cards (Some reason) is told = absurd (let e = told in cc)
early_none command o cards None is told = is

-- a command that is not refused early
take_served : (command : Command) (o : Office) → early_refusal command ≡ None → take command o ≡ served command o
take_served command o none = ap (taken command o) none

abbrev pub Repeats : Type 0
Repeats = (command : Command) (office : Office) (cards : ℕ) → (take command office).1 ≡ reply.Taken cards → take command (take command office).0 ≡ ((take command office).0, reply.Taken cards)

-- the command hands a job in
abbrev pub IsSubmission : Command → Type 0
IsSubmission (Submit customer number contents) = Unit {0}
IsSubmission (OnJob customer number c) = ⊥
IsSubmission (Jobs customer) = ⊥
IsSubmission Queue = ⊥

kept_again : Repeats → (command : Command) (commands : List Command) (office : Office) (cards : ℕ) → IsSubmission command → (take command office).1 ≡ reply.Taken cards
    → take command (fold commands (take command office).0).0 ≡ ((fold commands (take command office).0).0, reply.Taken cards)
kept_again law (OnJob customer n k) commands office cards submits told = absurd submits
kept_again law (Jobs customer) commands office cards submits told = absurd submits
kept_again law Queue commands office cards submits told = absurd submits
kept_again law (Submit customer n contents) commands office cards submits told =
    let command = Submit customer n contents in
    let c = string_bytes customer in
    let next = (take command office).0 in
    let none = early_none command office cards (early_refusal command) refl told in
    let twice = sym (take_served command next none) ∙ law command office cards told in
    let there = there_by c n contents cards next (job_of c n next) refl twice in
    let later = stays_there c n contents cards commands next there in
    take_served command (fold commands next).0 none ∙ told_again c n contents cards (fold commands next).0 later

-- ---- contents, and jobs that have them

same_kind : (kind : Kind) → is_same_kind kind kind ≡ true
same_kind Object = refl
same_kind Autocoder = refl

kinds_are : (a b : Kind) → is_same_kind a b ≡ true → a ≡ b
kinds_are Object Object is = refl
kinds_are Object Autocoder is = absurd (let e = is in cc)
kinds_are Autocoder Object is = absurd (let e = is in cc)
kinds_are Autocoder Autocoder is = refl

codes_are : (a b : Card) → (a.0 ≡ b.0) → a ≡ b
codes_are a b same = ap (λ (codes : List ℕ). let card : Card = record { 0 = codes } in card) same

decks_are : (a b : List Card) → (a ≡ b) ⊎ (a ≡ b → ⊥)
decks_are [] [] = inl refl
decks_are [] (c ∷ b) = inr (λ same. let e : [] ≡ c ∷ b = same in cc)
decks_are (c ∷ a) [] = inr (λ same. let e : c ∷ a ≡ [] = same in cc)
decks_are (c ∷ a) (d ∷ b) = elim (cases_Bool (bytes_eq c.0 d.0)) [
  | inr apart ↦ inr (λ same. let first : c ≡ d = cc in true≢false (sym ((bytes_eq-Decides c.0 d.0).1 (ap (λ (x : Card). x.0) first)) ∙ apart))
  | inl alike ↦ elim (decks_are a b) [
    | inl rest ↦
        let first : c ≡ d = codes_are c d ((bytes_eq-Decides c.0 d.0).0 alike) in
        inl (ap (λ (x : Card). x ∷ a) first ∙ ap (λ (xs : List Card). d ∷ xs) rest)
    | inr other ↦ inr (λ same. let rest : a ≡ b = cc in other rest)
  ]
]

of_contents : (contents : Contents) (job : Job) → HasContents contents job → is_of contents job ≡ true
of_contents contents job has =
    let one : is_same_kind job.kind contents.kind ≡ true = subst (λ k. is_same_kind job.kind k ≡ true) has.kind (same_kind job.kind) in
    let two : (positions_of job.size == contents.size) ≡ true = eq-eqb (positions_of job.size) contents.size has.size in
    let three : began_with (seven contents.switches) job.stretches ≡ true = has.switches in
    let four : bytes_eq (deck_bytes job.deck) (deck_bytes contents.deck) ≡ true = (bytes_eq-Decides (deck_bytes job.deck) (deck_bytes contents.deck)).1 (ap deck_bytes has.deck) in
    simp (one, two, three, four)

has_contents : (contents : Contents) (job : Job) → is_of contents job ≡ true → job.deck ≡ contents.deck → HasContents contents job
has_contents contents job is deck =
    let three = and_parts (is_same_kind job.kind contents.kind && (positions_of job.size == contents.size) && began_with (seven contents.switches) job.stretches) (bytes_eq (deck_bytes job.deck) (deck_bytes contents.deck)) is in
    let two = and_parts (is_same_kind job.kind contents.kind && (positions_of job.size == contents.size)) (began_with (seven contents.switches) job.stretches) three.0 in
    let one = and_parts (is_same_kind job.kind contents.kind) (positions_of job.size == contents.size) two.0 in
    record { kind = kinds_are job.kind contents.kind one.0; size = grind (arith, nat_tests, one.1); switches = two.1; deck = deck }

has_or_not : (contents : Contents) (job : Job) → HasContents contents job ⊎ (HasContents contents job → ⊥)
has_or_not contents job = elim (cases_Bool (is_of contents job)) [
  | inr other ↦ inr (λ has. true≢false (sym (of_contents contents job has) ∙ other))
  | inl same ↦ elim (decks_are job.deck contents.deck) [
    | inl deck ↦ inl (has_contents contents job same deck)
    | inr apart ↦ inr (λ has. apart has.deck)
  ]
]

-- ---- the cards that a new job's machine reads

loaded_unless : (size : Size) (contents : Contents) (job : Job) (o : Option Refusal) → job_unless_refused size contents o ≡ Ok job → loaded_deck job ≡ loaded_of contents.kind contents.deck
loaded_unless size contents job (Some reason) is = absurd (let e = is in cc)
loaded_unless size contents job None is = let same : new_job size contents ≡ job = cc in ap loaded_deck (sym same)

loaded_sized : (contents : Contents) (job : Job) (o : Option Size) → job_of_size contents o ≡ Ok job → loaded_deck job ≡ loaded_of contents.kind contents.deck
loaded_sized contents job None is = absurd (let e = is in cc)
loaded_sized contents job (Some size) is = loaded_unless size contents job (deck_refusal contents.kind contents.deck) is

-- ---- where it is lost whether the submission was kept

module _ (customer : List ℕ) (n : ℕ) (contents : Contents) (cards : ℕ) (office later : Office) where
  abbrev NumberTaken : Type 0
  NumberTaken = (job_of customer n office ≡ None) × ((job : Job) × (job_of customer n later ≡ Some job) × (HasContents contents job → ⊥))

  abbrev PlaceTaken : Type 0
  PlaceTaken = (job_of customer n later ≡ None) × (has_most_jobs customer office ≡ false) × (has_most_jobs customer later ≡ true)

  abbrev Told : Type 0
  Told = ((submitted customer n contents later (job_of customer n later)).1 ≡ reply.Taken cards) ⊎ (NumberTaken ⊎ PlaceTaken)

  room_of : (job : Job) (b : Bool) → has_most_jobs customer office ≡ b → (added customer n office job).1 ≡ reply.Taken cards → (has_most_jobs customer office ≡ false) × (length (loaded_deck job) ≡ cards)
  room_of job true full told = absurd (let e = rw full at told in cc)
  room_of job false room told = (room, let e : reply.Taken (length (loaded_deck job)) ≡ reply.Taken cards = rw room at told in cc)

  by_place : (job : Job) → job_of customer n later ≡ None → (has_most_jobs customer office ≡ false) × (length (loaded_deck job) ≡ cards) → (b : Bool) → has_most_jobs customer later ≡ b
      → ((added customer n later job).1 ≡ reply.Taken cards) ⊎ PlaceTaken
  by_place job free room true full = inr (free, room.0, full)
  by_place job free room false place = let here : (added customer n later job).1 ≡ reply.Taken cards = simp place (ap (λ k. reply.Taken k) room.1) in inl here

  by_new : job_of customer n later ≡ None → (r : Result Job Refusal) → (submitted_as customer n office r).1 ≡ reply.Taken cards → ((submitted_as customer n later r).1 ≡ reply.Taken cards) ⊎ PlaceTaken
  by_new free (Err reason) told = absurd (let e = told in cc)
  by_new free (Ok job) told = by_place job free (room_of job (has_most_jobs customer office) refl told) (has_most_jobs customer later) refl

  cards_loaded : (r : Result Job Refusal) → job_or_refusal contents ≡ r → (submitted_as customer n office r).1 ≡ reply.Taken cards → length (loaded_of contents.kind contents.deck) ≡ cards
  cards_loaded (Err reason) at told = absurd (let e = told in cc)
  cards_loaded (Ok job) at told =
      let loaded : loaded_deck job ≡ loaded_of contents.kind contents.deck = loaded_sized contents job (size_numbered contents.size) at in
      let room = room_of job (has_most_jobs customer office) refl told in
      ap length (sym loaded) ∙ room.1

  -- a job with the same contents is no exception
  told_alike : (job : Job) → HasContents contents job → length (loaded_of contents.kind contents.deck) ≡ cards → repeated contents job ≡ reply.Taken cards
  told_alike job has loaded =
      let same : is_of contents job ≡ true = of_contents contents job has in
      let count : length (loaded_deck job) ≡ cards = ap (λ k. length (loaded_of k job.deck)) has.kind ∙ ap (λ d. length (loaded_of contents.kind d)) has.deck ∙ loaded in
      simp same (ap (λ k. reply.Taken k) count)

  by_later : job_of customer n office ≡ None → (submitted_as customer n office (job_or_refusal contents)).1 ≡ reply.Taken cards → (j : Option Job) → job_of customer n later ≡ j → Told
  by_later free told (Some job) at = elim (has_or_not contents job) [
    | inl has ↦
        let said = told_alike job has (cards_loaded (job_or_refusal contents) refl told) in
        inl (subst (λ j. (submitted customer n contents later j).1 ≡ reply.Taken cards) (sym at) said)
    | inr other ↦ inr (inl (free, (job, at, other)))
  ]
  by_later free told None at = elim (by_new at (job_or_refusal contents) told) [
    | inl said ↦ inl (subst (λ j. (submitted customer n contents later j).1 ≡ reply.Taken cards) (sym at) said)
    | inr full ↦ inr (inr full)
  ]

by_first : (customer : List ℕ) (n : ℕ) (contents : Contents) (cards : ℕ) (commands : List Command) (office : Office) (j : Option Job) → job_of customer n office ≡ j → (submitted customer n contents office j).1 ≡ reply.Taken cards
    → Told customer n contents cards office (fold commands office).0
by_first customer n contents cards commands office (Some job) at told =
    let there : IsThere customer n contents cards office = record { job = job; found = at; is = repeated_is customer n contents cards job (is_of contents job) refl told } in
    let later = stays_there customer n contents cards commands office there in
    inl (ap (λ (p : Office × Reply). p.1) (told_again customer n contents cards (fold commands office).0 later))
by_first customer n contents cards commands office None at told = by_later customer n contents cards office (fold commands office).0 at told (job_of customer n (fold commands office).0) refl

lost_again : (command : Command) (commands : List Command) (office : Office) (cards : ℕ) → IsSubmission command → (take command office).1 ≡ reply.Taken cards
    → ((take command (fold commands office).0).1 ≡ reply.Taken cards) ⊎ (IsNumberTaken command office (fold commands office).0 ⊎ IsLastPlaceTaken command office (fold commands office).0)
lost_again (OnJob customer n k) commands office cards submits told = absurd submits
lost_again (Jobs customer) commands office cards submits told = absurd submits
lost_again Queue commands office cards submits told = absurd submits
lost_again (Submit customer n contents) commands office cards submits told =
    let command = Submit customer n contents in
    let c = string_bytes customer in
    let later = (fold commands office).0 in
    let none = early_none command office cards (early_refusal command) refl told in
    let first : (submitted c n contents office (job_of c n office)).1 ≡ reply.Taken cards = ap (λ (p : Office × Reply). p.1) (sym (take_served command office none)) ∙ told in
    elim (by_first c n contents cards commands office (job_of c n office) refl first) [
      | inl said ↦ inl (ap (λ (p : Office × Reply). p.1) (take_served command later none) ∙ said)
      | inr rest ↦ inr rest
    ]

-- ---- the same contents handed in by another command

abbrev taken_as : List ℕ → ℕ → Contents → Office → Option Refusal → Office × Reply
taken_as c n contents o (Some reason) = (o, reply.Refused reason)
taken_as c n contents o None = submitted c n contents o (job_of c n o)

abbrev as_taken : Command → Office → Option Refusal → Office × Reply
as_taken (Submit customer n contents) o r = taken_as (string_bytes customer) n contents o r
as_taken (OnJob customer n c) o r = taken (OnJob customer n c) o r
as_taken (Jobs customer) o r = taken (Jobs customer) o r
as_taken Queue o r = taken Queue o r

is_taken_as : (command : Command) (o : Office) (r : Option Refusal) → taken command o r ≡ as_taken command o r
is_taken_as (Submit customer n contents) o (Some reason) = refl
is_taken_as (Submit customer n contents) o None = refl
is_taken_as (OnJob customer n c) o r = refl
is_taken_as (Jobs customer) o r = refl
is_taken_as Queue o r = refl

repeats_alike : (first again : Command) → IsRepeatOf first again → (o : Office) → take again o ≡ take first o
repeats_alike (Submit a n x) (Submit b m y) same o =
    is_taken_as (Submit b m y) o (name_refusal (string_bytes b) m)
    ∙ ap (λ c. taken_as c m y o (name_refusal c m)) same.0
    ∙ ap (λ k. taken_as (string_bytes a) k y o (name_refusal (string_bytes a) k)) same.1
    ∙ ap (λ contents. taken_as (string_bytes a) n contents o (name_refusal (string_bytes a) n)) same.2
    ∙ sym (is_taken_as (Submit a n x) o (name_refusal (string_bytes a) n))
repeats_alike (Submit a n x) (OnJob b m k) same o = absurd same
repeats_alike (Submit a n x) (Jobs b) same o = absurd same
repeats_alike (Submit a n x) Queue same o = absurd same
repeats_alike (OnJob a n k) again same o = absurd same
repeats_alike (Jobs a) again same o = absurd same
repeats_alike Queue again same o = absurd same

submits : (first again : Command) → IsRepeatOf first again → IsSubmission first
submits (Submit a n x) again same = tt
submits (OnJob a n k) again same = absurd same
submits (Jobs a) again same = absurd same
submits Queue again same = absurd same

pub kept_repeat : Repeats → (first again : Command) (commands : List Command) (office : Office) (cards : ℕ) → IsRepeatOf first again → (take first office).1 ≡ reply.Taken cards
    → take again (fold commands (take first office).0).0 ≡ ((fold commands (take first office).0).0, reply.Taken cards)
kept_repeat law first again commands office cards same told =
    repeats_alike first again same (fold commands (take first office).0).0 ∙ kept_again law first commands office cards (submits first again same) told

pub lost_repeat : (first again : Command) (commands : List Command) (office : Office) (cards : ℕ) → IsRepeatOf first again → (take first office).1 ≡ reply.Taken cards
    → ((take again (fold commands office).0).1 ≡ reply.Taken cards) ⊎ (IsNumberTaken first office (fold commands office).0 ⊎ IsLastPlaceTaken first office (fold commands office).0)
lost_repeat first again commands office cards same told = elim (lost_again first commands office cards (submits first again same) told) [
  | inl said ↦ inl (ap (λ (p : Office × Reply). p.1) (repeats_alike first again same (fold commands office).0) ∙ said)
  | inr rest ↦ inr rest
]
