use Rattle.std.proofs.Common.{[], inl, inr, refl, sym, ap, subst}
use Rattle.exchanges.specs.Answers.{IsAnswer}
use Rattle.exchanges.specs.Exchanges.{ComesTo}
use Rattle.exchanges.specs.Messages.{bytes_in}
use Rattle.exchanges.specs.Work.{asked_by}
use Rattle.ledger.proofs.WorkLemmas.{worked_still}
use Rattle.exchanges.proofs.answering.answer.Goals as goal

pub returns-in-Refused-clause-works : goal.returns-in-Refused-clause-works
returns-in-Refused-clause-works g c =
    worked_still c.kept_offices_run_whole.ensures g.S.Store c.args.bureau.now.conn c.args.bureau.now.conn c.args.bureau.now.broken _ (λ clean o s. s)
    (refl, inl (ap asked_by c.in-Refused.is, subst (λ r. IsAnswer r [] c.refusal.result.status (bytes_in c.refusal.result.bytes)) (sym c.in-Refused.is) c.refusal.ensures))

pub returns-in-BadDeck-clause-works : goal.returns-in-BadDeck-clause-works
returns-in-BadDeck-clause-works g c =
    worked_still c.kept_offices_run_whole.ensures g.S.Store c.args.bureau.now.conn c.args.bureau.now.conn c.args.bureau.now.broken _ (λ clean o s. s) (
      refl,
      elim c.bad_deck.ensures [
        | inl is ↦ inl (ap asked_by c.in-BadDeck.is, subst (λ r. IsAnswer r [] c.bad_deck.result.status (bytes_in c.bad_deck.result.bytes)) (sym c.in-BadDeck.is) is)
        | inr of ↦ inr of
      ],
    )

pub returns-in-Asks-clause-comes : goal.returns-in-Asks-clause-comes
returns-in-Asks-clause-comes g c clean office s =
    subst (λ r. ComesTo g.S.Store c.carry_out.new.bureau.conn c.carry_out.new.bureau.broken c.args.meter.now c.carry_out.new.meter office r c.carry_out.result.status (bytes_in c.carry_out.result.bytes))
    (sym c.in-Asks.is) (c.carry_out.ensures.comes clean office s)
