-- What the flags of a job are in the tables.
use Rattle.std.proofs.Common.{◌≡◌, ℕ, List, [], ◌∷◌, map, Bool, true, false, if◌then◌else◌, Option, Some, refl, sym, ap, subst, ◌∙◌, true≢false}
use Rattle.std.specs.List.{AllByRecursion}
use Rattle.std.proofs.Math.Path.{fun_ext}
use Rattle.office.specs.Jobs.{Job, IsJob}
use Rattle.office.specs.Office.{Entry, Office, is_entry, job_of, with_job}
use Rattle.ledger_rows.specs.Columns.{truth}
use Rattle.sqlite.specs.Effect.{Database}
use Rattle.ledger_tables.specs.Tables.{NamedJob, AreDistinct, Holds, is_job, flagged, with_flags}
use Rattle.ledger_tables.proofs.InsertLast.{name_is}
use Rattle.ledger.specs.Saving.{flagged_job}
use Rattle.office_tables.specs.Standing.{named, stretches_of, state_of, pages_of, cards_of, lines_of, profile_of, pockets_of, tables_of, CanBeKept, Rows}
use Rattle.ledger.proofs.SavingChanges.{all_with}
use Rattle.ledger.proofs.Offices.{job_is}
use Rattle.ledger.proofs.SavingLemmas.{same_tables, told_of}

module _ (customer : List ℕ) (number : ℕ) (old : Job) (held collected : Bool) where
  abbrev IsOld : Entry → Type 0
  IsOld e = is_entry customer number e ≡ true → e.job ≡ old

  none_old : (office : Office) → AllByRecursion (λ b. is_job customer number b ≡ false) (map named office) → AllByRecursion IsOld office
  none_old [] others = tt
  none_old (e ∷ office) others = (λ h. absurd (true≢false (sym h ∙ others.0)), none_old office others.1)

  -- whoever has the name is that job
  only_old : (office : Office) → AreDistinct (map named office) → job_of customer number office ≡ Some old → AllByRecursion IsOld office
  only_old [] distinct is = tt
  only_old (e ∷ office) distinct is = go (is_entry customer number e) refl (only_old office distinct.1)
    where
      go : (b : Bool) → is_entry customer number e ≡ b → (job_of customer number office ≡ Some old → AllByRecursion IsOld office) → AllByRecursion IsOld (e ∷ office)
      go true this rest =
          let found : Some e.job ≡ Some old = rw this at is in
          let same : e.job ≡ old = cc in
          let name = name_is e.customer customer e.number number this in
          let others : AllByRecursion (λ b. is_job customer number b ≡ false) (map named office) = subst (λ n. AllByRecursion (λ b. is_job customer n b ≡ false) (map named office)) name.1 (subst (λ c. AllByRecursion (λ b. is_job c e.number b ≡ false) (map named office)) name.0 distinct.0) in
          (λ h. same, none_old office others)
      go false other rest = (λ h. absurd (true≢false (sym h ∙ other)), rest (rw other at is))

  abbrev turned : NamedJob → NamedJob
  turned it = if is_job customer number it then flagged (truth held) (truth collected) it else it

  jobs_flagged : (office : Office) → AllByRecursion IsOld office
      → map named (with_job customer number (flagged_job held collected old) office) ≡ map turned (map named office)
  jobs_flagged [] all = refl
  jobs_flagged (e ∷ office) all = go (is_entry customer number e) refl (jobs_flagged office all.1)
    where
      go : (b : Bool) → is_entry customer number e ≡ b → map named (with_job customer number (flagged_job held collected old) office) ≡ map turned (map named office)
          → map named (with_job customer number (flagged_job held collected old) (e ∷ office)) ≡ map turned (map named (e ∷ office))
      go true this rest =
          let same : e.job ≡ old = all.0 this in
          rw this (ap (λ (j : Job). let y : List NamedJob = named (record e { job = record j { held = held; collected = collected } }) ∷ map named (with_job customer number (flagged_job held collected old) office) in y) (sym same) ∙ ap (λ xs. flagged (truth held) (truth collected) (named e) ∷ xs) rest)
      go false other rest = rw other (ap (λ xs. named e ∷ xs) rest)

  -- what the flags have no part in stays
  told_still : {X : Type 0} (tell : Option Job → X) → tell (Some (flagged_job held collected old)) ≡ tell (Some old) → (c : List ℕ) (n : ℕ) (office : Office) → AllByRecursion IsOld office → tell (job_of c n (with_job customer number (flagged_job held collected old) office)) ≡ tell (job_of c n office)
  told_still tell same c n [] all = refl
  told_still tell same c n (e ∷ office) all = go (is_entry customer number e) refl (is_entry c n e) refl (told_still tell same c n office all.1)
    where
      go : (b : Bool) → is_entry customer number e ≡ b → (d : Bool) → is_entry c n e ≡ d → tell (job_of c n (with_job customer number (flagged_job held collected old) office)) ≡ tell (job_of c n office)
          → tell (job_of c n (with_job customer number (flagged_job held collected old) (e ∷ office))) ≡ tell (job_of c n (e ∷ office))
      go true this true that rest = rw (this, that) (same ∙ ap (λ j. tell (Some j)) (sym (all.0 this)))
      go true this false that rest = rw (this, that) rest
      go false this true that rest = rw (this, that)
      go false this false that rest = rw (this, that) rest

  all_still : {X : Type 0} (tell : Option Job → X) → tell (Some (flagged_job held collected old)) ≡ tell (Some old) → (office : Office) → AllByRecursion IsOld office → told_of tell (with_job customer number (flagged_job held collected old) office) ≡ told_of tell office
  all_still tell same office all = fun_ext (λ c. fun_ext (λ n. told_still tell same c n office all))

  flags_told : (office : Office) → AreDistinct (map named office) → job_of customer number office ≡ Some old
      → tables_of (with_job customer number (flagged_job held collected old) office) ≡ with_flags customer number (truth held) (truth collected) (tables_of office)
  flags_told office distinct is =
      let all = only_old office distinct is in
      same_tables _ _ (jobs_flagged office all) (all_still stretches_of refl office all) (all_still state_of refl office all) (all_still pages_of refl office all) (all_still cards_of refl office all) (all_still lines_of refl office all)
      (all_still profile_of refl office all) (all_still pockets_of refl office all)

pub flags_saved : (db0 db : Database) (office : Office) (customer : List ℕ) (number a b : ℕ) (held collected : Bool) (old : Job) → Rows db0 office → job_of customer number office ≡ Some old → IsJob (flagged_job held collected old) → a ≡ truth held → b ≡ truth collected
    → Holds db (with_flags customer number a b (tables_of office)) → Rows db (with_job customer number (flagged_job held collected old) office)
flags_saved db0 db office customer number a b held collected old stands found job is_held is_collected holds =
    let it = job_is customer number office old stands.jobs found in
    let can : CanBeKept (flagged_job held collected old) = record { job = job; storage = it.storage; cards = it.cards; lines = it.lines } in
    let here = subst (λ n. Holds db (with_flags customer number n (truth collected) (tables_of office))) is_held (subst (λ n. Holds db (with_flags customer number a n (tables_of office))) is_collected holds) in
    record {
      tables = subst (Holds db) (sym (flags_told customer number old held collected office stands.tables.shared.distinct found)) here;
      jobs = all_with customer number (flagged_job held collected old) office stands.jobs can;
    }
