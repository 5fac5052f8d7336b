use Rattle.std.proofs.Common.{Option, Some, None, IfSome, inl, inr, refl}
use Rattle.ledger.proofs.WorkLemmas.{worked_so, worked_still}
use Rattle.exchanges.proofs.answering.answer_next.Goals as goal

if_some : {X : Type 0} (found : Option X) (P Q : X → Type 0) → ((x : X) → P x → Q x) → IfSome found P → IfSome found Q
if_some None P Q so is = tt
if_some (Some x) P Q so is = so x is

pub returns-in-Ok-clause-comes : goal.returns-in-Ok-clause-comes
returns-in-Ok-clause-comes g c = inl (c.in-Ok.request, c.in-Ok.ensures.request, c.answer.ensures.comes)

pub returns-in-Ok-clause-works : goal.returns-in-Ok-clause-works
returns-in-Ok-clause-works g c =
    worked_so g.S.Store c.args.bureau.now.conn c.answer.new.bureau.conn c.answer.new.bureau.broken _ _
    (λ done replies told. inl (c.in-Ok.request, c.in-Ok.ensures.request, told)) c.answer.ensures.works

pub returns-in-Err-clause-works : goal.returns-in-Err-clause-works
returns-in-Err-clause-works g c =
    if_some c.unread.result _ _
    (λ message told. worked_still c.kept_offices_run_whole.ensures g.S.Store c.args.bureau.now.conn c.args.bureau.now.conn c.args.bureau.now.broken _ (λ clean o s. s)
    (inr (refl, refl, told.1)))
    c.unread.ensures.some
