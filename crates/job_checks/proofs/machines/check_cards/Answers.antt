use Rattle.std.proofs.Common.{take, sym, rules}
use Rattle.std.proofs.lemmas.List.{take_all}
use Rattle.std.proofs.lemmas.List.Elements.{All-more, All-same}
use Rattle.office.proofs.JobMeters.{on_err}
use Rattle.ledger_rows.specs.Pockets.{punched_bytes, IsPunched}
use Rattle.ledger_tables.specs.Tables as row
use Rattle.ledger_tables.proofs.Stepping.{on_any}
use Rattle.job_checks.proofs.PlacedLemmas.{placed_fails, placed_step}
use Rattle.job_checks.proofs.machines.check_cards.Goals as goal

pub loop-at-preserved : goal.loop-at-preserved
loop-at-preserved c =
    let inv = c.loop-at.invariant in
    let customer = c.args.name.customer.now in
    let number = c.args.name.number in
    let cards = c.args.cards.now in
    let card = c.index-cards-at.result in (
      placed_step (row.card_row customer number) punched_bytes 1 cards c.loop-at.at card _ _ _ _ _ c.loop-at-test.true inv.0 c.in_ok-rest.ensures.passed (search rules),
      All-more IsPunched cards c.loop-at.at _ c.loop-at-test.true inv.1 c.card_bytes-bytes.ensures.card,
    )

pub returns-in_err-rest-clause-other : goal.returns-in_err-rest-clause-other
returns-in_err-rest-clause-other c =
    on_err c.from_residual.result _
    (placed_fails (row.card_row c.args.name.customer.now c.args.name.number) punched_bytes 1 c.args.cards.now c.loop-at.at c.index-cards-at.result _ _ _ _ c.loop-at-test.true c.loop-at.invariant.0 c.in_err-rest.ensures.other (search rules))

pub returns-clause-characters : goal.returns-clause-characters
returns-clause-characters c =
    let cards = c.args.cards.now in
    on_any c.pass_none.result _ (All-same IsPunched cards (take c.loop-at.at cards) (sym (take_all c.loop-at.at cards c.loop-at-test.false)) c.loop-at.invariant.1)
