-- No two jobs have one name, whatever is commanded.
use Rattle.std.proofs.Common.{◌≡◌, ℕ, ◌==◌, bytes_eq, List, [], ◌∷◌, ◌++◌, Bool, true, false, if◌then◌else◌, Option, None, Some, Result, Ok, Err, refl, sym, ◌∙◌, true≢false, arith}
use Rattle.std.specs.Prelude.{string_bytes}
use Rattle.std.proofs.lemmas.Bool.{and_parts}
use Rattle.std.proofs.lemmas.Bool.Decides.{nat_tests}
use Rattle.std.proofs.lemmas.Slice.Eq.{bytes_eq-Decides}
use Rattle.office.specs.declared.commands.Command.{Command}
use Rattle.office.specs.declared.commands.Command.TheVariants.{Submit, Job as OnJob, Jobs, Queue}
use Rattle.office.specs.declared.commands.Contents.{Contents}
use Rattle.office.specs.declared.commands.JobCommand.{JobCommand}
use Rattle.office.specs.declared.refusals.Refusal.{Refusal}
use Rattle.office.specs.Jobs.{Job}
use Rattle.office.specs.Kept.{job_after}
use Rattle.office.specs.New.{job_or_refusal}
use Rattle.office.specs.Office.{Entry, Office, is_entry, job_of, IsFree, AreDistinct, with_job, has_most_jobs, added, submitted_as, submitted, commanded, early_refusal, served, taken, take}
use Rattle.office.proofs.OfficeOrder.{lost, named_alike}

-- ---- another job in the place of one

free_with : (customer c : List ℕ) (number n : ℕ) (job : Job) (office : Office) → IsFree c n office → IsFree c n (with_job customer number job office)
free_with customer c number n job [] free = tt
free_with customer c number n job (e ∷ office) free = (go (is_entry customer number e), free_with customer c number n job office free.1)
  where
    go : (b : Bool) → is_entry c n (if b then record e { job = job } else e) ≡ false
    go true = free.0
    go false = free.0

distinct_with : (customer : List ℕ) (number : ℕ) (job : Job) (office : Office) → AreDistinct office → AreDistinct (with_job customer number job office)
distinct_with customer number job [] distinct = tt
distinct_with customer number job (e ∷ office) distinct = (go (is_entry customer number e) (free_with customer e.customer number e.number job office distinct.0), distinct_with customer number job office distinct.1)
  where
    go : (b : Bool) → IsFree e.customer e.number (with_job customer number job office)
        → IsFree (if b then record e { job = job } else e).customer (if b then record e { job = job } else e).number (with_job customer number job office)
    go true free = free
    go false free = free

-- ---- one job more

name_of : (customer : List ℕ) (number : ℕ) (e : Entry) → is_entry customer number e ≡ true → (e.customer ≡ customer) × (e.number ≡ number)
name_of customer number e is =
    let both = and_parts (bytes_eq e.customer customer) (e.number == number) is in
    ((bytes_eq-Decides e.customer customer).0 both.0, let same : e.number ≡ number = grind (arith, nat_tests) in same)

apart : (a b : Entry) → is_entry a.customer a.number b ≡ false → is_entry b.customer b.number a ≡ false
apart a b other = lost (is_entry b.customer b.number a) (λ is. let name = name_of b.customer b.number a is in true≢false (sym (named_alike a b (sym name.0) (sym name.1)) ∙ other))

free_and : (c : List ℕ) (n : ℕ) (new : Entry) (office : Office) → IsFree c n office → is_entry c n new ≡ false → IsFree c n (office ++ new ∷ [])
free_and c n new [] free other = (other, tt)
free_and c n new (e ∷ office) free other = (free.0, free_and c n new office free.1 other)

others : (customer : List ℕ) (number : ℕ) (e : Entry) (office : Office) → job_of customer number (e ∷ office) ≡ None → (is_entry customer number e ≡ false) × (job_of customer number office ≡ None)
others customer number e office none = go (is_entry customer number e) refl
  where
    go : (b : Bool) → is_entry customer number e ≡ b → (is_entry customer number e ≡ false) × (job_of customer number office ≡ None)
    go true this = absurd (let found = rw this at none in cc)
    go false other = (other, rw other at none)

distinct_and : (new : Entry) (office : Office) → job_of new.customer new.number office ≡ None → AreDistinct office → AreDistinct (office ++ new ∷ [])
distinct_and new [] none distinct = (tt, tt)
distinct_and new (e ∷ office) none distinct =
    let rest = others new.customer new.number e office none in
    (free_and e.customer e.number new office distinct.0 (apart new e rest.0), distinct_and new office rest.1 distinct.1)

-- ---- any command

module _ (customer : List ℕ) (number : ℕ) (office : Office) (distinct : AreDistinct office) where
  by_room : (job : Job) → job_of customer number office ≡ None → (b : Bool) → has_most_jobs customer office ≡ b → AreDistinct (added customer number office job).0
  by_room job none true full = rw full distinct
  by_room job none false room = rw room (distinct_and (record { customer = customer; number = number; job = job }) office none distinct)

  by_new : (r : Result Job Refusal) → job_of customer number office ≡ None → AreDistinct (submitted_as customer number office r).0
  by_new (Err reason) none = distinct
  by_new (Ok job) none = by_room job none (has_most_jobs customer office) refl

  by_job : (contents : Contents) (j : Option Job) → job_of customer number office ≡ j → AreDistinct (submitted customer number contents office j).0
  by_job contents (Some job) at = distinct
  by_job contents None at = by_new (job_or_refusal contents) at

  by_command : (c : JobCommand) (j : Option Job) → AreDistinct (commanded customer number c office j).0
  by_command c None = distinct
  by_command c (Some job) = distinct_with customer number (job_after c job) office distinct

served_apart : (command : Command) (office : Office) → AreDistinct office → AreDistinct (served command office).0
served_apart (Submit customer number contents) office distinct = by_job (string_bytes customer) number office distinct contents (job_of (string_bytes customer) number office) refl
served_apart (OnJob customer number c) office distinct = by_command (string_bytes customer) number office distinct c (job_of (string_bytes customer) number office)
served_apart (Jobs customer) office distinct = distinct
served_apart Queue office distinct = distinct

pub stay_apart : (command : Command) (office : Office) → AreDistinct office → AreDistinct (take command office).0
stay_apart command office distinct = go (early_refusal command)
  where
    go : (o : Option Refusal) → AreDistinct (taken command office o).0
    go (Some reason) = distinct
    go None = served_apart command office distinct
