use Rattle.std.proofs.Common.{All, take}
use Rattle.ledger_rows.specs.Pockets.{punched_bytes, IsPunched}
use Rattle.ledger_tables.specs.Tables as row
use Rattle.job_checks.specs.Kept.{rows_of_cards}
use Rattle.job_checks.specs.Tables.{rows_of}
use Rattle.job_checks.proofs.PlacedLemmas.{Leads, placed_from}
use Rattle.job_checks.proofs.machines.check_cards.Given as goal

abbrev pub invariant-loop-at : goal.invariant-loop-at
invariant-loop-at l = Leads (rows_of l.name.customer.now l.name.number l.fn.rows) (rows_of_cards l.name.customer.now l.name.number l.cards)
    (rows_of l.name.customer.now l.name.number l.rest) (placed_from (row.card_row l.name.customer.now l.name.number) punched_bytes 1 l.cards l.at)
    × All IsPunched (take l.at l.cards)
