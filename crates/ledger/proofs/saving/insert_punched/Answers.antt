use Rattle.std.proofs.Common.{◌++◌, arith}
use Rattle.sqlite.specs.State.{HasCleanDisk}
use Rattle.ledger_tables.specs.Steps.{seen}
use Rattle.ledger_tables.proofs.Frames.{on_ok_then}
use Rattle.ledger_tables.proofs.Stepping.{on_any}
use Rattle.ledger.specs.Saving.{with_all_cards}
use Rattle.ledger.proofs.saving.insert_punched.Goals as goal

pub returns-clause-added : goal.returns-clause-added
returns-clause-added g c earlier clean inside =
    let early : HasCleanDisk (seen g.S.Store c.insert_cards.new.tables) = omega (arith, c.insert_pockets.ensures.step.survives.clean) in
    let on = c.in_ok-insert_cards.ensures.step.frame early inside in
    let did = c.in_ok-insert_cards.ensures.added earlier early inside in
    on_ok_then c.insert_pockets.result _ _
    (λ more t holds has. more (with_all_cards c.args.name (earlier ++ c.args.cards.now) t) (did t holds has.0) (record { are = has.1.are; count = has.1.count }))
    (c.insert_pockets.ensures.added earlier clean on.inside)

pub returns-clause-characters : goal.returns-clause-characters
returns-clause-characters g c = on_any c.insert_pockets.result _ c.in_ok-insert_cards.ensures.characters
