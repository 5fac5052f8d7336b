use Rattle.std.proofs.Common.{arith, false, refl, subst, sym, ◌+◌, ◌∙◌}
use Rattle.ledger.proofs.WorkLemmas.{worked_still}
use Rattle.ledger.specs.Working.{HasWorked}
use Rattle.bureau_work.specs.Visits.{AreTurns, IsTurn}
use Rattle.bureau_work.proofs.WorkLemmas.{not_broken, served_all, served_more, served_until}
use Rattle.bureau_work.proofs.serving.serve_clients.Goals as goal

pub loop-init : goal.loop-init
loop-init g c = record {
  works = worked_still c.kept_offices_run_whole.ensures g.S.Store c.args.bureau.now.conn c.args.bureau.now.conn false _ (λ clean o s. s) (refl, refl, refl);
  clean = omega arith;
}

pub loop-preserved : goal.loop-preserved
loop-preserved g c =
    let was = c.loop.invariant in
    record {
      works = served_more g.C.Clients.came g.C.Clients.missed g.C.Clients.went g.S.Store c.args.bureau.now.conn c.serve_next.new.bureau.conn
          c.loop.counter c.args.clients.now c.loop.clients c.serve_next.new.clients c.loop.bureau.conn false c.serve_next.ensures.clean was.works
          (not_broken g.S.Store c.loop.bureau.conn c.serve_next.new.bureau.conn (IsTurn g.C.Clients.came g.C.Clients.missed g.C.Clients.went c.loop.clients c.serve_next.new.clients)
          c.serve_next.new.bureau.broken (sym c.broken.ensures ∙ c.if-broken.false) c.serve_next.ensures.works);
      clean = omega (arith, was.clean, c.serve_next.ensures.clean);
    }

pub returns-then-broken-clause-works : goal.returns-then-broken-clause-works
returns-then-broken-clause-works g c =
    let was = c.loop.invariant in
    served_until g.C.Clients.came g.C.Clients.missed g.C.Clients.went g.S.Store c.args.bureau.now.conn c.serve_next.new.bureau.conn
    (c.loop.counter + 1) c.args.count c.args.clients.now c.serve_next.new.clients c.serve_next.new.bureau.broken
    (served_more g.C.Clients.came g.C.Clients.missed g.C.Clients.went g.S.Store c.args.bureau.now.conn c.serve_next.new.bureau.conn
    c.loop.counter c.args.clients.now c.loop.clients c.serve_next.new.clients c.loop.bureau.conn c.serve_next.new.bureau.broken c.serve_next.ensures.clean was.works c.serve_next.ensures.works)

pub returns-clause-works : goal.returns-clause-works
returns-clause-works g c =
    served_all g.C.Clients.came g.C.Clients.missed g.C.Clients.went g.S.Store c.args.bureau.now.conn c.loop.bureau.conn
    c.args.count c.args.clients.now c.loop.clients c.loop.bureau.broken
    (subst (λ n. HasWorked g.S.Store c.args.bureau.now.conn c.loop.bureau.conn false (AreTurns g.C.Clients.came g.C.Clients.missed g.C.Clients.went n c.args.clients.now c.loop.clients)) (omega (arith, c.loop.auto)) c.loop.invariant.works)
