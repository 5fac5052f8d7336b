use Rattle.std.proofs.Common.{drop, refl}
use Rattle.ledger_tables.specs.Schema as schema
use Rattle.ledger_tables.proofs.Stepping.{if_ok_then}
use Rattle.job_checks.proofs.JobReads.{read_key_in_order}
use Rattle.job_checks.proofs.JobTexts.{select_cards, select_cards_is}
use Rattle.job_checks.proofs.TableReads.{cards_obeyed, cards_required}
use Rattle.job_checks.proofs.job_rows.card_rows.Goals as goal

pub returns-clause-read : goal.returns-clause-read
returns-clause-read g c clean =
    if_ok_then c.rows.result _ _
    (λ rows shown ours.
    let did = read_key_in_order 7 (drop 2 schema.cards.columns) cards_required c.args.name.customer.now c.args.name.number select_cards _ (λ db. refl) _ _ rows.items shown ours select_cards_is in
    (did.0, λ bureaus. did.1 bureaus.in_order.cards (cards_obeyed _ bureaus)))
    (c.rows.ensures.shown clean)
