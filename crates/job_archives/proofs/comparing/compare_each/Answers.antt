use Rattle.std.proofs.Common.{◌≡◌, ◌++◌, [], ◌∷◌, refl, sym, ap, subst, take, arith, ◌∙◌}
use Rattle.std.proofs.lemmas.List.{take_more}
use Rattle.std.specs.List.{AllByRecursion}
use Rattle.sqlite.specs.Effect.{Database}
use Rattle.sqlite.specs.Tree.{Trees}
use Rattle.ledger_tables.specs.Schema.{bureau_schema}
use Rattle.job_checks.proofs.HandedRows.{unchanged_still, unchanged_then}
use Rattle.job_archives.specs.Copies.{HaveSameJob, IsSameJob, JobDiffers, Tells}
use Rattle.job_archives.proofs.CopyLemmas.{all_and_one, told_before}
use Rattle.job_archives.proofs.comparing.compare_each.Goals as goal

pub loop-job-init : goal.loop-job-init
loop-job-init g c = record {
  first = refl;
  second = refl;
  left = λ clean. (clean, λ db may. may);
  copy_left = λ clean. (clean, λ db may. may);
  clean = omega arith;
  copy_clean = omega arith;
  file_read = λ clean copied opened too ours same. (unchanged_still _ opened, unchanged_still _ too, λ one two. tt);
}

pub loop-job-preserved : goal.loop-job-preserved
loop-job-preserved g c =
    let was = c.loop-job.invariant in
    let i = c.loop-job.job-index in
    let rows = c.args.jobs.now in
    let row = c.job-item.result in
    let did = c.in_ok-told.ensures in
    record {
      first = did.first ∙ was.first;
      second = did.second ∙ was.second;
      left = λ clean. let it = did.left clean in let before = was.left it.0 in (before.0, λ db may. before.1 db (it.1 db may));
      copy_left = λ clean. let it = did.copy_left clean in let before = was.copy_left it.0 in (before.0, λ db may. before.1 db (it.1 db may));
      clean = omega (arith, was.clean, did.clean);
      copy_clean = omega (arith, was.copy_clean, did.copy_clean);
      file_read = λ clean copied opened too ours same.
          let before = was.file_read (did.left clean).0 (did.copy_left copied).0 opened too ours same in
          let one = before.0.0.now_is in
          let two = before.1.0.now_is in
          let here = did.read clean copied (subst (λ (db : Database). db.schema ≡ bureau_schema) (sym one) ours) (subst (λ (db : Database). db.schema ≡ bureau_schema) (sym two) same) in (
            unchanged_then _ _ _ before.0 here.0,
            unchanged_then _ _ _ before.1 here.1,
            λ a b.
                let found = subst (Tells (HaveSameJob _ _ c.in_ok-name.name.customer.now c.in_ok-name.name.number) (JobDiffers _ _)) c.in_default.is
                (told_before (λ (db other : Trees). HaveSameJob db other c.in_ok-name.name.customer.now c.in_ok-name.name.number) _ _ _ _ c.in_ok-told.told one two a b here.2) in
                subst (AllByRecursion (IsSameJob _ _)) (sym (take_more rows i row c.loop-job-test.true ∙ ap (λ x. take i rows ++ x ∷ []) (sym c.job-item.is)))
                (all_and_one (IsSameJob _ _) (take i rows) row (before.2 a b) (c.in_ok-name.name.customer.now, c.in_ok-name.name.number, c.in_ok-name.ensures.named.0, c.in_ok-name.ensures.named.1, found)),
          );
    }
