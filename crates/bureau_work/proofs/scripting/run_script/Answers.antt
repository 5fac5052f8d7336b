use Rattle.std.proofs.Common.{inl, refl}
use Rattle.ledger.proofs.WorkLemmas.{worked_still}
use Rattle.bureau_work.proofs.scripting.run_script.Goals as goal

pub returns-in_default-clause-works : goal.returns-in_default-clause-works
returns-in_default-clause-works g c =
    worked_still c.kept_offices_run_whole.ensures g.S.Store c.args.bureau.now.conn c.args.bureau.now.conn c.args.bureau.now.broken _ (λ clean o s. s) (inl (refl, refl, refl, refl))
