use Rattle.std.proofs.lemmas.Result.{err_from_is_err_and}
use Rattle.job_archives.proofs.rerun.run_record.Goals as goal

pub returns-in_err-name : goal.returns-in_err-name
returns-in_err-name c = record {
  none = λ deck_text record_text.
      let returned = err_from_is_err_and c.from_residual.result c.from_residual.ensures.1 in
      rw (returned.1, returned.2) (c.in_err-name.ensures.none deck_text record_text);
}
