use Rattle.std.proofs.Common.{◌∙◌}
use Rattle.std.proofs.lemmas.List.{get_or_default}
use Rattle.ledger_rows.proofs.PocketsRead.{no_row, one_row}
use Rattle.ledger_rows.proofs.pockets.put_into_pockets.Goals as goal

pub loop-row-preserved : goal.loop-row-preserved
loop-row-preserved c =
    let now = c.loop-row.cards in
    let loop = c.loop-row.invariant in
    let rows = c.args.rows.now in
    let i = c.loop-row.row-index in
    let within = c.loop-row-test.true in
    let done = one_row c.args.cards.now now c.put_into_pocket.new.cards rows i _ within (get_or_default rows i _ no_row within) loop.put loop.are loop.size
    (c.put_into_pocket.ensures.put c.if-not-put_into_pocket.false) (c.put_into_pocket.ensures.is.0 c.if-not-put_into_pocket.false) in
    record { put = done.0; are = done.1; size = c.put_into_pocket.ensures.size ∙ loop.size }
