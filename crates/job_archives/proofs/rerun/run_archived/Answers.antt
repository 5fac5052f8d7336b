use Rattle.std.proofs.lemmas.Result.{err_from_is_err_and}
use Rattle.job_archives.proofs.rerun.run_archived.Goals as goal

pub returns-in_err-deck_of-clause-other : goal.returns-in_err-deck_of-clause-other
returns-in_err-deck_of-clause-other c =
    let returned = err_from_is_err_and c.from_residual.result c.from_residual.ensures.1 in
    rw (returned.1, returned.2) (c.in_err-deck_of.ensures.none c.args.deck.now c.args.facts.now)

pub returns-in_err-run-clause-other : goal.returns-in_err-run-clause-other
returns-in_err-run-clause-other c =
    let returned = err_from_is_err_and c.from_residual-in_err-run.result c.from_residual-in_err-run.ensures.1 in
    rw (returned.1, returned.2) (c.in_err-run.ensures.none c.args.deck.now c.args.facts.now)
