-- the lines of a reply are in the order of printing
use Rattle.std.proofs.Common.{◌≡◌, ◌⊎◌, ◌<◌, ◌+◌, ℕ, List, [], Bool, true, false, if◌then◌else◌, Option, Some, None, Result, Ok, Err, length, inl, inr, refl, sym, subst, arith}
use Rattle.std.proofs.lemmas.Bool.{cases_order}
use Rattle.std.specs.List.{AllByRecursion}
use Rattle.std.specs.Prelude.{string_bytes, slice_index_or}
use Rattle.sqlite.specs.Tree.{Trees}
use Rattle.sqlite.specs.State as store
use Rattle.units.specs.Listing.{IsAbove, IsRising}
use Rattle.units.specs.declared.printer.Line.{Line}
use Rattle.office.specs.Jobs.{Job, IsJob, lines_by, loaded_deck}
use Rattle.office.specs.Kept.{answered, job_refusal, kept_of, summary_of, taken_unless}
use Rattle.office.specs.New.{job_or_refusal}
use Rattle.office.specs.Office.{Entry, Office, and_job, commanded, early_refusal, has_most_jobs, is_of, job_of, served, submitted, submitted_as, take, taken}
use Rattle.office.specs.declared.commands.Command.{Command}
use Rattle.office.specs.declared.commands.Command.TheVariants as asks
use Rattle.office.specs.declared.commands.Contents.{Contents}
use Rattle.office.specs.declared.commands.JobCommand.{JobCommand}
use Rattle.office.specs.declared.commands.JobCommand.TheVariants.{Slice, Start, Hold, Release, Collect, Standing as Tell, Cards, Lines}
use Rattle.office.specs.declared.refusals.Refusal.{Refusal}
use Rattle.office.specs.declared.refusals.Refusal.TheVariants as refusal
use Rattle.office.specs.declared.replies.Reply.{Reply}
use Rattle.office.specs.declared.replies.Reply.TheVariants as reply
use Rattle.office_tables.specs.Standing.{CanBeKept, LeftAs, Rows, Stands}
use Rattle.ledger.proofs.Offices.{job_is}
use Rattle.http_messages.specs.Replies.{HasLinesInOrder}

-- ---- a job's lines

-- what is known of jobs
abbrev pub LinesRise : Type 0
LinesRise = (job : Job) → IsJob job → IsRising (lines_by job)

-- each job of the office can be kept
abbrev pub AreKept : Office → Type 0
AreKept = AllByRecursion (λ (e : Entry). CanBeKept e.job)

answers : LinesRise → (c : JobCommand) (job : Job) → IsJob job → HasLinesInOrder (answered c (kept_of job))
answers rise (Slice limit) job is = tt
answers rise (Start switches) job is = tt
answers rise Hold job is = tt
answers rise Release job is = tt
answers rise Collect job is = tt
answers rise Tell job is = tt
answers rise (Cards from) job is = tt
answers rise Lines job is = rise job is

on_job : LinesRise → (name : List ℕ) (number : ℕ) (c : JobCommand) (office : Office) → AreKept office → HasLinesInOrder (commanded name number c office (job_of name number office)).1
on_job rise name number c office kept = go (job_of name number office) refl
  where
    unless : (job : Job) (o : Option Refusal) → IsJob job → HasLinesInOrder (taken_unless c (kept_of job) o).1
    unless job (Some reason) is = tt
    unless job None is = answers rise c job is

    go : (o : Option Job) → job_of name number office ≡ o → HasLinesInOrder (commanded name number c office o).1
    go None is = tt
    go (Some job) is = unless job (job_refusal c (summary_of (kept_of job))) (job_is name number office job kept is).job

taken_in : (name : List ℕ) (number : ℕ) (contents : Contents) (office : Office) (o : Option Job) → HasLinesInOrder (submitted name number contents office o).1
taken_in name number contents office None = made (job_or_refusal contents)
  where
    room : (job : Job) (b : Bool) → HasLinesInOrder (if b then (let r : Office × Reply = (office, reply.Refused refusal.TooManyJobs) in r) else (and_job name number job office, reply.Taken (length (loaded_deck job)))).1
    room job true = tt
    room job false = tt

    made : (r : Result Job Refusal) → HasLinesInOrder (submitted_as name number office r).1
    made (Ok job) = room job (has_most_jobs name office)
    made (Err reason) = tt
taken_in name number contents office (Some job) = same (is_of contents job)
  where
    same : (b : Bool) → HasLinesInOrder (if b then reply.Taken (length (loaded_deck job)) else reply.Refused refusal.OtherContents)
    same true = tt
    same false = tt

replies_in_order : LinesRise → (command : Command) (office : Office) → AreKept office → HasLinesInOrder (take command office).1
replies_in_order rise command office kept = go (early_refusal command)
  where
    serves : (c : Command) → HasLinesInOrder (served c office).1
    serves (asks.Submit customer number contents) = taken_in (string_bytes customer) number contents office (job_of (string_bytes customer) number office)
    serves (asks.Job customer number c) = on_job rise (string_bytes customer) number c office kept
    serves (asks.Jobs customer) = tt
    serves asks.Queue = tt

    go : (o : Option Refusal) → HasLinesInOrder (taken command office o).1
    go (Some reason) = tt
    go None = serves command

-- ---- lines that can't be out of order are in order

less : (a b : ℕ) → ((a < b → ⊥) → ⊥) → a < b
less a b not = go (cases_order a b)
  where
    go : (a ≡ b) ⊎ ((a < b) ⊎ (b < a)) → a < b
    go (inl same) = absurd (not (λ (below : a < b). omega (arith, same, below)))
    go (inr (inl below)) = below
    go (inr (inr more)) = absurd (not (λ (below : a < b). omega (arith, more, below)))

not_above : (x y : Line) → (x.form < y.form → ⊥) → (x.form ≡ y.form → x.line < y.line → ⊥) → IsAbove x y → ⊥
not_above x y form line (inl below) = form below
not_above x y form line (inr (same, below)) = line same below

above : (x y : Line) → ((IsAbove x y → ⊥) → ⊥) → IsAbove x y
above x y not = go (cases_order x.form y.form)
  where
    go : (x.form ≡ y.form) ⊎ ((x.form < y.form) ⊎ (y.form < x.form)) → IsAbove x y
    go (inl same) = inr (same, less x.line y.line (λ no. not (not_above x y (λ (below : x.form < y.form). omega (arith, same, below)) (λ _. no))))
    go (inr (inl below)) = inl below
    go (inr (inr more)) = absurd (not (not_above x y (λ (below : x.form < y.form). omega (arith, more, below)) (λ (same : x.form ≡ y.form) _. omega (arith, more, same))))

rising : (lines : List Line) → ((IsRising lines → ⊥) → ⊥) → IsRising lines
rising lines not = record {
  on_forms = λ k d inside. (
    less 0 (slice_index_or lines k d).form (λ no. not (λ (r : IsRising lines). no (r.on_forms k d inside).0)),
    less 0 (slice_index_or lines k d).line (λ no. not (λ (r : IsRising lines). no (r.on_forms k d inside).1)),
  );
  in_order = λ k d inside. above (slice_index_or lines k d) (slice_index_or lines (k + 1) d) (λ no. not (λ (r : IsRising lines). no (r.in_order k d inside)));
}

-- what is replied where the tables represent an office, or may represent any since nothing can be seen of them
pub replied_in_order : LinesRise → (old : store.State) (command : Command) (r : Reply) → ((office : Office) → Stands old office → r ≡ (take command office).1)
    → (office : Office) → Stands old office → HasLinesInOrder r
replied_in_order rise old command r is office s = go r is
  where
    go : (r : Reply) → ((office : Office) → Stands old office → r ≡ (take command office).1) → HasLinesInOrder r
    go (reply.Lines lines) is = rising lines (λ no.
        let none : Rows old.now office → ⊥ = λ (rows : Rows old.now office). no (subst HasLinesInOrder (sym (is office s)) (replies_in_order rise command office rows.jobs)) in
        let none_left : (db : Trees) → LeftAs db office → ⊥ = λ db rows. no (subst HasLinesInOrder (sym (is office s)) (replies_in_order rise command office rows.jobs)) in
        let empty : Stands old [] = record {
          outside = s.outside;
          now = λ opened. absurd (none (s.now opened));
          left = λ db may. absurd (none_left db (s.left db may));
        } in
        no (subst HasLinesInOrder (sym (is [] empty)) (replies_in_order rise command [] tt)))
    go (reply.Taken cards) is = tt
    go (reply.Ran executed standing) is = tt
    go reply.Started is = tt
    go reply.Held is = tt
    go reply.Released is = tt
    go (reply.Collected cards lines) is = tt
    go (reply.Standing job) is = tt
    go (reply.Cards cards) is = tt
    go (reply.Jobs jobs) is = tt
    go (reply.Queue jobs) is = tt
    go (reply.Refused reason) is = tt
