use Rattle.job_checks.specs.Tables.{tables_of}
use Rattle.job_archives.proofs.CopyLemmas.{job_told}
use Rattle.job_archives.proofs.comparing.compare_job.Goals as goal

pub returns-clause-read : goal.returns-clause-read
returns-clause-read g c clean copied ours same =
    let file = c.in_ok-rows.ensures.read clean ours in
    let copy = c.in_ok-others.ensures.read copied same in (
      file.0,
      copy.0,
      λ first second. job_told _ _ _ _ (tables_of c.in_ok-rows.rows) (tables_of c.in_ok-others.others) (file.1 first) (copy.1 second) c.other_rows.result c.other_rows.ensures,
    )
