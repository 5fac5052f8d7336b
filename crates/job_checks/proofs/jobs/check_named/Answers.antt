use Rattle.std.proofs.Common.{◌≡◌, ℕ, List, Ok, sym, ap, subst, ◌∙◌}
use Rattle.office.specs.Jobs.{picture}
use Rattle.office_tables.proofs.ReadingLemmas.{picture_profile}
use Rattle.job_checks.specs.Jobs.{HasRunAs}
use Rattle.job_checks.specs.Kept.{rows_of_profile, rows_of_stretches}
use Rattle.job_checks.specs.Tables.{rows_of, tables_of}
use Rattle.job_checks.specs.declared.submitted.Submitted.{Submitted}
use Rattle.job_checks.proofs.DifferLemmas.{if_differs_then}
use Rattle.job_checks.proofs.JobLemmas.{named_by, same_entry}
use Rattle.job_checks.proofs.jobs.check_named.Goals as goal

pub returns-clause-other : goal.returns-clause-other
returns-clause-other c = if_differs_then c.check_again.result _ _ (λ no e has.
    let all = tables_of c.args.rows.now in
    let customer = c.args.name.customer.now in
    let number = c.args.name.number in
    let kept = has.run.kept in
    let key = named_by c.args.row.now e customer number c.requires has.run.row in
    let submitted = (c.in_ok-submitted.ensures e kept.can.job.deck has.run.row).0 in
    let own_stretches : rows_of customer number c.deref.result.now ≡ rows_of_stretches customer number e.job.stretches =
    ap (rows_of customer number) c.deref.ensures.value
    ∙ subst (λ (k : ℕ). rows_of customer k all.stretches ≡ rows_of_stretches customer k e.job.stretches) (sym key.1)
    (subst (λ (who : List ℕ). rows_of who e.number all.stretches ≡ rows_of_stretches who e.number e.job.stretches) (sym key.0) kept.stretches) in
    let own_profile : rows_of customer number c.deref-2.result.now ≡ rows_of_profile customer number (picture e.job).works.units.punch =
    ap (rows_of customer number) c.deref-2.ensures.value
    ∙ subst (λ (k : ℕ). rows_of customer k all.profiles ≡ rows_of_profile customer k (picture e.job).works.units.punch) (sym key.1)
    (subst (λ (who : List ℕ). rows_of who e.number all.profiles ≡ rows_of_profile who e.number (picture e.job).works.units.punch) (sym key.0) kept.machine.profiles) in
    let stretches = (c.in_ok-stretches.ensures e.job.stretches kept.can.job.stretches own_stretches).0 in
    let told : Ok c.in_ok-profile.profile ≡ Ok (picture e.job).works.units.punch.profile = c.in_ok-profile.ensures (picture e.job).works.units.punch own_profile in
    let profile : c.in_ok-profile.profile ≡ (picture e.job).works.units.punch.profile = cc in
    no (subst (HasRunAs all c.args.row.now)
    (sym (same_entry e customer number c.in_ok-submitted.submitted.numbers c.in_ok-submitted.submitted.deck c.in_ok-profile.profile c.in_ok-stretches.stretches.items key.0 key.1
    (ap (λ (s : Submitted). s.numbers) submitted) (ap (λ (s : Submitted). s.deck) submitted) (profile ∙ picture_profile e.job) stretches)) has.run)) c.check_again.ensures.other
