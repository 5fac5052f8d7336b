use Rattle.std.proofs.Common.{◌++◌, [], ◌∷◌, List, refl, sym, ap, subst, take, arith, ◌∙◌}
use Rattle.std.proofs.lemmas.List.{take_more}
use Rattle.sqlite.specs.Effect.{Database}
use Rattle.sqlite.specs.Held.{state}
use Rattle.sqlite.specs.Order.{Row}
use Rattle.sqlite.specs.State.{HasCleanDisk}
use Rattle.job_checks.specs.Jobs.{IsFound}
use Rattle.job_checks.specs.Walks.{HasTaken}
use Rattle.job_checks.proofs.HandedRows.{read_then, unchanged_still}
use Rattle.job_checks.proofs.WalkLemmas.{folds_next}
use Rattle.job_checks.proofs.walks.take_each.Goals as goal

pub loop-job-init : goal.loop-job-init
loop-job-init g c = record {
  same_reference = refl;
  left = λ clean. (clean, λ db may. may);
  clean = omega arith;
  read = λ clean opened ours. (unchanged_still _ opened, λ bureaus. refl);
}

pub loop-job-preserved : goal.loop-job-preserved
loop-job-preserved g c =
    let was = c.loop-job.invariant in
    let first = state g.S.Store c.args.tx.now.conn.now in
    let mid = state g.S.Store c.loop-job.tx.conn.now in
    let last = state g.S.Store c.run_job.new.tx.conn.now in
    let i = c.loop-job.job-index in
    let rows = c.args.jobs.now in
    let row = c.job-item.result in
    record {
      same_reference = c.in_ok-found.ensures.same_reference ∙ was.same_reference;
      left = λ clean. let it = c.in_ok-found.ensures.left clean in let before = was.left it.0 in (before.0, λ db may. before.1 db (it.1 db may));
      clean = omega (arith, was.clean, c.in_ok-found.ensures.clean);
      read = λ clean opened ours.
          let early : HasCleanDisk mid = (c.in_ok-found.ensures.left clean).0 in
          let before = was.read early opened ours in
          let it = read_then first mid last (λ (db : Database). IsFound db.trees row c.in_ok-found.found) before.0 (c.in_ok-found.ensures.read clean before.0.0.is_open) ours in (
            it.0,
            λ bureaus.
                subst (λ (xs : List Row). HasTaken g.E.EachJob.takes first.now.trees xs c.args.each.now c.take.new.self) (sym (take_more rows i row c.loop-job-test.true ∙ ap (λ x. take i rows ++ x ∷ []) (sym c.job-item.is)))
                (folds_next _ _ _ _ _ _ (before.1 bureaus) (c.in_ok-found.found, it.1 bureaus, c.in_ok-take.ensures)),
          );
    }
