use Rattle.std.proofs.Common.{refl, arith, ◌∙◌}
use Rattle.job_archives.proofs.filling.put_jobs.Goals as goal

pub loop-job-init : goal.loop-job-init
loop-job-init g c = record {
  file = refl;
  new = refl;
  left = λ clean. (clean, λ db may. may);
  clean = omega arith;
}

pub loop-job-preserved : goal.loop-job-preserved
loop-job-preserved g c =
    let was = c.loop-job.invariant in
    let did = c.in_ok-put_job.ensures in
    record {
      file = did.file ∙ was.file;
      new = did.new ∙ was.new;
      left = λ clean. let it = did.left clean in let before = was.left it.0 in (before.0, λ db may. before.1 db (it.1 db may));
      clean = omega (arith, was.clean, did.clean);
    }
