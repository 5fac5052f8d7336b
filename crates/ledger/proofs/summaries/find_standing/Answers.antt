use Rattle.ledger.proofs.BureauResults.{store_passed}
use Rattle.ledger.proofs.summaries.find_standing.Goals as goal

pub returns-in_err-progress-clause-failed : goal.returns-in_err-progress-clause-failed
returns-in_err-progress-clause-failed g c job clean inside store office has is =
    c.in_err-progress.ensures.failed job clean inside (store_passed c.from_residual.result _ c.from_residual.ensures.1 store) office has is
