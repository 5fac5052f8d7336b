-- Jobs among others, and what is handed in again.
use Rattle.std.proofs.Common.{◌≡◌, ℕ, ◌==◌, ◌%◌, bytes_eq, List, [], ◌∷◌, ◌++◌, length, Bool, true, false, Option, None, Some, Result, Ok, Err, refl, ap, subst, arith, eq-eqb}
use Rattle.std.specs.Prelude.{string_bytes}
use Rattle.std.proofs.lemmas.Bool.Decides.{nat_tests}
use Rattle.std.proofs.lemmas.Slice.Eq.{bytes_eq-Decides}
use Rattle.core_store.specs.Storage.{positions_of}
use Rattle.core_store.specs.declared.sizes.Size.{Size}
use Rattle.core_store.proofs.SizeLemmas.{numbered}
use Rattle.office.specs.declared.commands.Command.{Command}
use Rattle.office.specs.declared.commands.Command.TheVariants.{Submit, Job as OnJob, Jobs, Queue}
use Rattle.office.specs.declared.commands.JobCommand.{JobCommand}
use Rattle.office.specs.declared.commands.JobCommand.TheVariants.{Slice}
use Rattle.office.specs.declared.commands.Contents.{Contents}
use Rattle.office.specs.declared.commands.Kind.{Kind}
use Rattle.office.specs.declared.commands.Kind.TheVariants.{Object, Autocoder}
use Rattle.office.specs.declared.refusals.Refusal.{Refusal}
use Rattle.office.specs.declared.replies.Reply.{Reply}
use Rattle.office.specs.declared.replies.Reply.TheVariants as reply
use Rattle.office.specs.Jobs.{Job, loaded_deck}
use Rattle.office.specs.Kept.{Kept, kept_of, summary_of, job_refusal, answered, taken_unless, take_kept}
use Rattle.core_store.specs.Storage.{size_numbered}
use Rattle.office.specs.New.{deck_refusal, new_job, job_unless_refused, job_of_size, job_or_refusal}
use Rattle.cards.specs.Decks.{deck_bytes}
use Rattle.office.specs.Office.{Office, is_entry, job_of, has_most_jobs, added, submitted_as, is_same_kind, is_of, submitted, commanded, early_refusal, served, taken, take}

this_name : (customer : List ℕ) (number : ℕ) (job : Job) → is_entry customer number (record { customer = customer; number = number; job = job }) ≡ true
this_name customer number job =
    let one : bytes_eq customer customer ≡ true = (bytes_eq-Decides customer customer).1 refl in
    let two : (number == number) ≡ true = grind (arith, nat_tests) in
    rw (one, two)

-- a job that was added is found by its name
pub found_added : (customer : List ℕ) (number : ℕ) (job : Job) (office : Office) → job_of customer number office ≡ None → job_of customer number (office ++ (record { customer = customer; number = number; job = job }) ∷ []) ≡ Some job
found_added customer number job [] none = rw (this_name customer number job)
found_added customer number job (e ∷ office) none = go (is_entry customer number e) refl (found_added customer number job office)
  where
    go : (b : Bool) → is_entry customer number e ≡ b → (job_of customer number office ≡ None → job_of customer number (office ++ (record { customer = customer; number = number; job = job }) ∷ []) ≡ Some job)
        → job_of customer number (e ∷ office ++ (record { customer = customer; number = number; job = job }) ∷ []) ≡ Some job
    go true this rest = absurd (let found = rw this at none in cc)
    go false other rest = rw other (rest (rw other at none))

-- ---- the contents of a new job

same_kind : (kind : Kind) → is_same_kind kind kind ≡ true
same_kind Object = refl
same_kind Autocoder = refl

new_is_of : (size : Size) (contents : Contents) → size_numbered contents.size ≡ Some size → is_of contents (new_job size contents) ≡ true
new_is_of size contents is =
    let n = contents.switches.0 % 128 in
    let same : (n == n) ≡ true = grind (arith, nat_tests) in
    let sized : (positions_of size == contents.size) ≡ true = eq-eqb (positions_of size) contents.size (numbered contents.size size is) in
    let bytes : bytes_eq (deck_bytes contents.deck) (deck_bytes contents.deck) ≡ true = (bytes_eq-Decides (deck_bytes contents.deck) (deck_bytes contents.deck)).1 refl in
    rw (same_kind contents.kind, sized, same, bytes)

of_refusal : (size : Size) (contents : Contents) (job : Job) (o : Option Refusal) → size_numbered contents.size ≡ Some size → job_unless_refused size contents o ≡ Ok job → is_of contents job ≡ true
of_refusal size contents job (Some reason) at is = absurd (let e = is in cc)
of_refusal size contents job None at is = let same : new_job size contents ≡ job = cc in subst (λ j. is_of contents j ≡ true) same (new_is_of size contents at)

of_size : (contents : Contents) (job : Job) (o : Option Size) → size_numbered contents.size ≡ o → job_of_size contents o ≡ Ok job → is_of contents job ≡ true
of_size contents job None at is = absurd (let e = is in cc)
of_size contents job (Some size) at is = of_refusal size contents job (deck_refusal contents.kind contents.deck) at is

-- ---- the same submission twice

module _ (customer : List ℕ) (number : ℕ) (contents : Contents) (office : Office) (cards : ℕ) where
  by_room : (job : Job) (b : Bool) → has_most_jobs customer office ≡ b → job_of customer number office ≡ None → is_of contents job ≡ true → (added customer number office job).1 ≡ reply.Taken cards
      → submitted customer number contents (added customer number office job).0 (job_of customer number (added customer number office job).0) ≡ ((added customer number office job).0, reply.Taken cards)
  by_room job true full none is told = absurd (let e = rw full at told in cc)
  by_room job false room none is told =
      let all : Office = office ++ (record { customer = customer; number = number; job = job }) ∷ [] in
      let here : reply.Taken (length (loaded_deck job)) ≡ reply.Taken cards = rw room at told in
      rw (room, found_added customer number job office none, is) (ap (λ (r : Reply). let p : Office × Reply = (all, r) in p) here)

  by_new : (r : Result Job Refusal) → job_or_refusal contents ≡ r → job_of customer number office ≡ None → (submitted_as customer number office r).1 ≡ reply.Taken cards
      → submitted customer number contents (submitted_as customer number office r).0 (job_of customer number (submitted_as customer number office r).0) ≡ ((submitted_as customer number office r).0, reply.Taken cards)
  by_new (Err reason) at none told = absurd (let e = told in cc)
  by_new (Ok job) at none told = by_room job (has_most_jobs customer office) refl none (of_size contents job (size_numbered contents.size) refl at) told

  by_job : (j : Option Job) → job_of customer number office ≡ j → (submitted customer number contents office j).1 ≡ reply.Taken cards
      → submitted customer number contents (submitted customer number contents office j).0 (job_of customer number (submitted customer number contents office j).0) ≡ ((submitted customer number contents office j).0, reply.Taken cards)
  by_job (Some job) at told = rw at (ap (λ (r : Reply). let p : Office × Reply = (office, r) in p) told)
  by_job None at told = by_new (job_or_refusal contents) refl at told

-- what is said of a command on a job is never that one was taken
not_taken : (c : JobCommand) (k : Kept) (cards : ℕ) → (take_kept c k).1 ≡ reply.Taken cards → ⊥
not_taken c k cards = go (job_refusal c (summary_of k))
  where
    go : (o : Option Refusal) → (taken_unless c k o).1 ≡ reply.Taken cards → ⊥
    go (Some reason) told = let e = told in cc
    go None told = answer c told
      where
        answer : (c : JobCommand) → answered c k ≡ reply.Taken cards → ⊥
        answer (Slice limit) told = let e = told in cc
        answer other told = let e = told in cc

not_commanded : (customer : List ℕ) (number : ℕ) (c : JobCommand) (office : Office) (cards : ℕ) (j : Option Job) → (commanded customer number c office j).1 ≡ reply.Taken cards → ⊥
not_commanded customer number c office cards None told = let e = told in cc
not_commanded customer number c office cards (Some job) told = not_taken c (kept_of job) cards told

-- the reply is that of the first, and nothing changes
served_twice : (command : Command) (office : Office) (cards : ℕ) → (served command office).1 ≡ reply.Taken cards → served command (served command office).0 ≡ ((served command office).0, reply.Taken cards)
served_twice (Submit customer number contents) office cards told = by_job (string_bytes customer) number contents office cards (job_of (string_bytes customer) number office) refl told
served_twice (OnJob customer number c) office cards told = absurd (not_commanded (string_bytes customer) number c office cards (job_of (string_bytes customer) number office) told)
served_twice (Jobs customer) office cards told = absurd (let e = told in cc)
served_twice Queue office cards told = absurd (let e = told in cc)

pub taken_twice : (command : Command) (office : Office) (cards : ℕ) → (take command office).1 ≡ reply.Taken cards → take command (take command office).0 ≡ ((take command office).0, reply.Taken cards)
taken_twice command office cards = go (early_refusal command)
  where
    go : (o : Option Refusal) → (taken command office o).1 ≡ reply.Taken cards → taken command (taken command office o).0 o ≡ ((taken command office o).0, reply.Taken cards)
    go (Some reason) told = absurd (let e = told in cc)
    go None told = served_twice command office cards told
