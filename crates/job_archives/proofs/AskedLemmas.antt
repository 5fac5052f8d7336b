-- What a command tells that asks how a job stands.
use Rattle.std.proofs.Common.{◌≡◌, ◌⊎◌, inl, inr, subst, ℕ, List, map, Option, Some, None, String, string_bytes, refl, sym, ap, ◌∙◌}
use Rattle.std.specs.declared.alloc.Global.{Global}
use Rattle.office.specs.Jobs.{Job}
use Rattle.office.specs.Kept.{kept_of, summary_of}
use Rattle.office.specs.Office.{Office, commanded, early_refusal, job_of, take, taken}
use Rattle.office.specs.declared.commands.Command.{Command}
use Rattle.office.specs.declared.commands.Command.TheVariants.{Job as OnJob}
use Rattle.office.specs.declared.commands.JobCommand.TheVariants.{Standing as Tell}
use Rattle.office.specs.declared.refusals.Refusal.{Refusal}
use Rattle.office.specs.declared.replies.Reply.TheVariants as reply
use Rattle.office.specs.declared.summaries.Summary.{Summary}
use Rattle.sqlite.specs.Tree.{Trees}
use Rattle.ledger_tables.specs.Tables.{AreDistinct}
use Rattle.office_tables.specs.Standing.{LeftAs, named}
use Rattle.ledger.proofs.SavingChanges.{same_job}

-- the office is as it was, and the summary is that of the job of this name
pub record IsTold (office next : Office) (customer : List ℕ) (number : ℕ) (summary : Summary) : Type 0 where
  pub same : next ≡ office
  pub summary_is : (job : Job) → job_of customer number office ≡ Some job → summary ≡ summary_of (kept_of job)

-- the command that asks how a job stands
abbrev asking : String Global → ℕ → Command
asking name number = OnJob name number Tell

-- ---- the office that is asked is as it was

module _ (name : String Global) (number : ℕ) (office : Office) (apart : AreDistinct (map named office)) where
  same_found : (o : Option Job) → job_of (string_bytes name) number office ≡ o → (commanded (string_bytes name) number Tell office o).0 ≡ office
  same_found None at = refl
  same_found (Some job) at = same_job (string_bytes name) number job office apart at

  same_unless : (r : Option Refusal) → (taken (asking name number) office r).0 ≡ office
  same_unless (Some reason) = refl
  same_unless None = same_found (job_of (string_bytes name) number office) refl

  pub same_office : (take (asking name number) office).0 ≡ office
  same_office = same_unless (early_refusal (asking name number))

  -- so a crash leaves what stands for it
  pub left_same : (db : Trees) → LeftAs db office ⊎ LeftAs db (take (asking name number) office).0 → LeftAs db office
  left_same db (inl before) = before
  left_same db (inr after) = subst (LeftAs db) same_office after

-- ---- what is told

module _ (name : String Global) (number : ℕ) (office : Office) (summary : Summary) (apart : AreDistinct (map named office)) where
  found : (o : Option Job) → job_of (string_bytes name) number office ≡ o → reply.Standing summary ≡ (commanded (string_bytes name) number Tell office o).1
      → IsTold office (commanded (string_bytes name) number Tell office o).0 (string_bytes name) number summary
  found None at is = absurd (let no = is in cc)
  found (Some job) at is = record {
    same = same_job (string_bytes name) number job office apart at;
    summary_is = λ other there.
        let one : Some job ≡ Some other = sym at ∙ there in
        let same : job ≡ other = cc in
        let said : reply.Standing summary ≡ reply.Standing (summary_of (kept_of job)) = is in
        let told : summary ≡ summary_of (kept_of job) = cc in
        told ∙ ap (λ j. summary_of (kept_of j)) same;
  }

  told_unless : (r : Option Refusal) → reply.Standing summary ≡ (taken (asking name number) office r).1 → IsTold office (taken (asking name number) office r).0 (string_bytes name) number summary
  told_unless (Some reason) is = absurd (let no = is in cc)
  told_unless None is = found (job_of (string_bytes name) number office) refl is

  pub told_by : reply.Standing summary ≡ (take (asking name number) office).1 → IsTold office (take (asking name number) office).0 (string_bytes name) number summary
  told_by is = told_unless (early_refusal (asking name number)) is
