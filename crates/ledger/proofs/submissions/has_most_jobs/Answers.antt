use Rattle.std.proofs.Common.{nat_le, ap, ◌∙◌}
use Rattle.ledger_tables.specs.Steps.{seen}
use Rattle.office_tables.specs.Standing.{tables_of}
use Rattle.ledger.proofs.BureauResults.{store_passed}
use Rattle.ledger.proofs.Offices.{still}
use Rattle.ledger.proofs.Replies.{jobs_named}
use Rattle.ledger.proofs.submissions.has_most_jobs.Goals as goal

pub returns-clause-found : goal.returns-clause-found
returns-clause-found g c clean inside office s =
    let found = c.in_ok-count.ensures.found clean inside (tables_of office) s.tables in
    (still (seen g.S.Store c.args.tables.now) (seen g.S.Store c.count_jobs.new.self) office found.0 s, ap (nat_le 200) (found.1 ∙ jobs_named c.args.customer.now office))

pub returns-in_err-count-clause-failed : goal.returns-in_err-count-clause-failed
returns-in_err-count-clause-failed g c clean inside store office has any =
    c.in_err-count.ensures.failed clean inside (store_passed c.from_residual.result _ c.from_residual.ensures.1 store) (tables_of office) (λ opened. (has opened).tables) tt
