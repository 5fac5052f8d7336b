-- Replies and the offices that they leave.
use Rattle.std.proofs.Common.{◌≡◌, ℕ, suc, ◌*◌, ◌/◌, ◌<◌, List, [], ◌∷◌, map, length, length-append, All, Option, Some, None, Result, Ok, Err, Bool, true, false, bytes_eq, refl, sym, ap, subst, ◌∙◌, arith}
use Rattle.std.proofs.lemmas.List.Elements.{All-head, All-tail}
use Rattle.cards.specs.declared.decks.Card.{Card}
use Rattle.cards.specs.Decks.{deck_bytes, IsCard, IsDeck}
use Rattle.office.specs.Jobs.{Job, loaded_deck, IsJob}
use Rattle.office.specs.Kept.{Kept, kept_of, summary_of, job_refusal, answered, changed_job, taken_unless, take_kept, job_unless, job_after}
use Rattle.office.specs.New.{job_or_refusal}
use Rattle.office.specs.Office.{Office, job_of, own, with_job, and_job, has_most_jobs, added, submitted_as, submitted, commanded}
use Rattle.office.specs.declared.commands.Contents.{Contents}
use Rattle.office.specs.declared.commands.JobCommand.{JobCommand}
use Rattle.office.specs.declared.commands.JobCommand.TheVariants.{Slice, Start, Hold, Release, Collect, Standing as Tell, Cards, Lines}
use Rattle.office.specs.declared.refusals.Refusal.{Refusal}
use Rattle.office.specs.declared.refusals.Refusal.TheVariants as refusal
use Rattle.office.specs.declared.replies.Reply.{Reply}
use Rattle.office.specs.declared.replies.Reply.TheVariants.{Taken, Refused}
use Rattle.sqlite.specs.State.{State}
use Rattle.ledger_tables.specs.Tables as tables
use Rattle.office_tables.specs.Standing.{StandsIn, Served, named}
use Rattle.ledger.proofs.SavingChanges.{same_job}

-- ---- submissions

-- a customer has as many rows as jobs
pub jobs_named : (customer : List ℕ) (office : Office) → length (tables.jobs_of customer (map named office)) ≡ length (own customer office)
jobs_named customer [] = refl
jobs_named customer (e ∷ office) = go (bytes_eq e.customer customer) refl (jobs_named customer office)
  where
    go : (b : Bool) → bytes_eq e.customer customer ≡ b → length (tables.jobs_of customer (map named office)) ≡ length (own customer office)
        → length (tables.jobs_of customer (map named (e ∷ office))) ≡ length (own customer (e ∷ office))
    go true is rest = rw is (ap (λ n. suc n) rest)
    go false is rest = rw is rest

pub too_many : (new : State) (customer : List ℕ) (number : ℕ) (job : Job) (office : Office) → has_most_jobs customer office ≡ true → StandsIn new office
    → Served new (λ all. added customer number all job) office (Refused refusal.TooManyJobs)
too_many new customer number job office full s = record { reply_is = rw full; stands = rw full s }

pub few_enough : (new : State) (customer : List ℕ) (number : ℕ) (job : Job) (office : Office) → has_most_jobs customer office ≡ false → StandsIn new (and_job customer number job office)
    → Served new (λ all. added customer number all job) office (Taken (length (loaded_deck job)))
few_enough new customer number job office room s = record { reply_is = rw room; stands = rw room s }

pub not_new : (new : State) (customer : List ℕ) (number : ℕ) (contents : Contents) (reason : Refusal) (office : Office) → job_or_refusal contents ≡ Err reason → StandsIn new office
    → Served new (λ all. submitted_as customer number all (job_or_refusal contents)) office (Refused reason)
not_new new customer number contents reason office why s = record {
  reply_is = ap (λ (r : Result Job Refusal). (submitted_as customer number office r).1) (sym why);
  stands = subst (λ (r : Result Job Refusal). StandsIn new (submitted_as customer number office r).0) (sym why) s;
}

pub new_taken : (new : State) (customer : List ℕ) (number : ℕ) (contents : Contents) (job : Job) (office : Office) (reply : Reply) → job_or_refusal contents ≡ Ok job
    → Served new (λ all. added customer number all job) office reply → Served new (λ all. submitted_as customer number all (job_or_refusal contents)) office reply
new_taken new customer number contents job office reply taken s = record {
  reply_is = s.reply_is ∙ ap (λ (r : Result Job Refusal). (submitted_as customer number office r).1) (sym taken);
  stands = subst (λ (r : Result Job Refusal). StandsIn new (submitted_as customer number office r).0) (sym taken) s.stands;
}

-- cards have 80 bytes each
bytes_of : (deck : List Card) → All IsCard deck → length (deck_bytes deck) ≡ 80 * length deck
bytes_of [] all = refl
bytes_of (card ∷ deck) all = length-append card.0 (deck_bytes deck) ∙ omega (arith, (All-head IsCard card deck all).0, bytes_of deck (All-tail IsCard card deck all))

pub cards_counted : (job : Job) (bytes cards : ℕ) → IsDeck (loaded_deck job) → bytes ≡ length (deck_bytes (loaded_deck job)) → cards ≡ bytes / 80 → cards ≡ length (loaded_deck job)
cards_counted job bytes cards deck is at =
    let whole : bytes ≡ 80 * length (loaded_deck job) = is ∙ bytes_of (loaded_deck job) deck.1 in
    omega (arith, whole, at)

pub served_again : (new : State) (customer : List ℕ) (number : ℕ) (contents : Contents) (office : Office) (job : Job) (reply : Reply) → job_of customer number office ≡ Some job → reply ≡ (submitted customer number contents office (Some job)).1 → StandsIn new office
    → Served new (λ all. submitted customer number contents all (job_of customer number all)) office reply
served_again new customer number contents office job reply is told s = record {
  reply_is = told ∙ ap (λ (o : Option Job). (submitted customer number contents office o).1) (sym is);
  stands = subst (λ (o : Option Job). StandsIn new (submitted customer number contents office o).0) (sym is) s;
}

pub served_new : (new : State) (customer : List ℕ) (number : ℕ) (contents : Contents) (office : Office) (reply : Reply) → job_of customer number office ≡ None
    → Served new (λ all. submitted_as customer number all (job_or_refusal contents)) office reply → Served new (λ all. submitted customer number contents all (job_of customer number all)) office reply
served_new new customer number contents office reply none s = record {
  reply_is = s.reply_is ∙ ap (λ (o : Option Job). (submitted customer number contents office o).1) (sym none);
  stands = subst (λ (o : Option Job). StandsIn new (submitted customer number contents office o).0) (sym none) s.stands;
}

-- ---- commands on a job

-- a reply that isn't a refusal is none
answers : (c : JobCommand) (k : Kept) (reason : Refusal) → Refused reason ≡ answered c k → ⊥
answers (Slice limit) k reason told = let e = told in cc
answers (Start switches) k reason told = let e = told in cc
answers Hold k reason told = let e = told in cc
answers Release k reason told = let e = told in cc
answers Collect k reason told = let e = told in cc
answers Tell k reason told = let e = told in cc
answers (Cards from) k reason told = let e = told in cc
answers Lines k reason told = let e = told in cc

-- what is replied as a refusal is refused so
refused_so : (c : JobCommand) (k : Kept) (reason : Refusal) → Refused reason ≡ (take_kept c k).1 → job_refusal c (summary_of k) ≡ Some reason
refused_so c k reason told = go (job_refusal c (summary_of k)) told
  where
    go : (o : Option Refusal) → Refused reason ≡ (taken_unless c k o).1 → o ≡ Some reason
    go (Some why) is = let same : reason ≡ why = cc in ap Some (sym same)
    go None is = absurd (answers c k reason is)

-- what is replied otherwise is not refused
pub let_through : (c : JobCommand) (k : Kept) (reply : Reply) → reply ≡ (take_kept c k).1 → ((reason : Refusal) → reply ≡ Refused reason → ⊥) → job_refusal c (summary_of k) ≡ None
let_through c k reply told not = go (job_refusal c (summary_of k)) told
  where
    go : (o : Option Refusal) → reply ≡ (taken_unless c k o).1 → o ≡ None
    go (Some why) is = absurd (not why is)
    go None is = refl

pub no_job : (new : State) (customer : List ℕ) (number : ℕ) (c : JobCommand) (office : Office) → job_of customer number office ≡ None → StandsIn new office
    → Served new (λ all. commanded customer number c all (job_of customer number all)) office (Refused refusal.NoJob)
no_job new customer number c office none s = record {
  reply_is = ap (λ (o : Option Job). (commanded customer number c office o).1) (sym none);
  stands = subst (λ (o : Option Job). StandsIn new (commanded customer number c office o).0) (sym none) s;
}

pub command_refused : (new : State) (customer : List ℕ) (number : ℕ) (c : JobCommand) (reason : Refusal) (office : Office) (old : Job) → job_of customer number office ≡ Some old → Refused reason ≡ (take_kept c (kept_of old)).1 → StandsIn new office
    → Served new (λ all. commanded customer number c all (job_of customer number all)) office (Refused reason)
command_refused new customer number c reason office old is told s =
    let why = refused_so c (kept_of old) reason told in
    let stays : job_after c old ≡ old = ap (job_unless c old) why in
    let whole : with_job customer number (job_after c old) office ≡ office = ap (λ (j : Job). with_job customer number j office) stays ∙ same_job customer number old office s.tables.shared.distinct is in
    record {
      reply_is = told ∙ ap (λ (o : Option Job). (commanded customer number c office o).1) (sym is);
      stands = subst (λ (o : Option Job). StandsIn new (commanded customer number c office o).0) (sym is) (subst (StandsIn new) (sym whole) s);
    }

pub command_done : (new : State) (customer : List ℕ) (number : ℕ) (c : JobCommand) (reply : Reply) (office : Office) (old : Job) → job_of customer number office ≡ Some old → reply ≡ (take_kept c (kept_of old)).1 → job_refusal c (summary_of (kept_of old)) ≡ None
    → StandsIn new (with_job customer number (changed_job c old) office) → Served new (λ all. commanded customer number c all (job_of customer number all)) office reply
command_done new customer number c reply office old is told none s =
    let stays : changed_job c old ≡ job_after c old = sym (ap (job_unless c old) none) in
    record {
      reply_is = told ∙ ap (λ (o : Option Job). (commanded customer number c office o).1) (sym is);
      stands = subst (λ (o : Option Job). StandsIn new (commanded customer number c office o).0) (sym is) (subst (λ (j : Job). StandsIn new (with_job customer number j office)) stays s);
    }

-- what is known of commands
abbrev pub ActOnPictures : Type 0
ActOnPictures = (c : JobCommand) (job : Job) → 0 < length job.stretches → (take_kept c (kept_of job)).0 ≡ kept_of (job_after c job)

abbrev pub KeepJobs : Type 0
KeepJobs = (c : JobCommand) (job : Job) → IsJob job → IsJob (job_after c job)

pub none_is : {X : Type 0} (o : Option X) → ((x : X) → o ≡ Some x → ⊥) → o ≡ None
none_is None not = refl
none_is (Some x) not = absurd (not x refl)
