use Rattle.std.proofs.Common.{arith}
use Rattle.sqlite.specs.State.{HasCleanDisk}
use Rattle.ledger_tables.specs.Steps.{seen}
use Rattle.ledger_tables.proofs.Frames.{on_ok_then}
use Rattle.ledger.proofs.migrating.end_first.Goals as goal

pub returns-clause-ended : goal.returns-clause-ended
returns-clause-ended g c clean inside =
    let early : HasCleanDisk (seen g.S.Store c.drop_pictures.new.self) = omega (arith, c.end_third.ensures.step.survives.clean) in
    let on = c.in_ok-drop_pictures.ensures.step.frame early inside in
    let dropped = c.in_ok-drop_pictures.ensures.dropped early inside in
    on_ok_then c.end_third.result _ _ (λ ended storages version t holds. ended version t (λ _. dropped t storages version holds)) (c.end_third.ensures.ended clean on.inside)
