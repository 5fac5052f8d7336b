use Rattle.std.proofs.Common.{inl, inr, refl}
use Rattle.ledger.proofs.WorkLemmas.{worked_so, worked_still}
use Rattle.bureau_work.proofs.serving.serve_next.Goals as goal

pub returns-in_default-clause-works : goal.returns-in_default-clause-works
returns-in_default-clause-works g c =
    worked_still c.kept_offices_run_whole.ensures g.S.Store c.args.bureau.now.conn c.args.bureau.now.conn c.args.bureau.now.broken _ (λ clean o s. s)
    (inr (c.in_default.ensures, refl, refl))

pub returns-clause-works : goal.returns-clause-works
returns-clause-works g c =
    worked_so g.S.Store c.args.bureau.now.conn c.exchange-ended.new.bureau.conn c.exchange-ended.new.bureau.broken _ _
    (λ done replies told. inl (record {
      between = c.next.new.self;
      asked = _;
      begun = _;
      told = _;
      it = c.exchange-ended.result;
      came = c.in-Some.ensures;
      tells = told;
      went = c.end.ensures;
    }))
    c.exchange-ended.ensures.works
