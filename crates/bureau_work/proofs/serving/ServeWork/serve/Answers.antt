use Rattle.ledger.proofs.WorkLemmas.{worked_still}
use Rattle.bureau_work.proofs.WorkLemmas.{no_clients, told_none}
use Rattle.bureau_work.proofs.serving.ServeWork.serve.Goals as goal

pub returns-in_default-clause-works : goal.returns-in_default-clause-works
returns-in_default-clause-works g c =
    worked_still c.kept_offices_run_whole.ensures g.S.Store c.args.bureau.now.conn c.args.bureau.now.conn c.args.bureau.now.broken _ (λ clean o s. s)
    (told_none g.C.Clients.came g.C.Clients.missed g.C.Clients.went c.args.self.now.count c.args.self.now.clients)

pub returns-clause-works : goal.returns-clause-works
returns-clause-works g c =
    worked_still c.kept_offices_run_whole.ensures g.S.Store c.args.bureau.now.conn c.args.bureau.now.conn c.args.bureau.now.broken _ (λ clean o s. s)
    (no_clients g.C.Clients.came g.C.Clients.missed g.C.Clients.went c.args.self.now.count c.args.self.now.clients c.args.self.now.clients c.in-None.is)
