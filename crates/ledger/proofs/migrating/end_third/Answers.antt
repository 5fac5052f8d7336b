use Rattle.std.proofs.Common.{arith}
use Rattle.sqlite.specs.State.{HasCleanDisk}
use Rattle.ledger_tables.specs.Raising.{with_plain_profiles}
use Rattle.ledger_tables.specs.Steps.{seen}
use Rattle.ledger_tables.proofs.Frames.{on_ok_then}
use Rattle.ledger.proofs.migrating.end_third.Goals as goal

pub returns-clause-ended : goal.returns-clause-ended
returns-clause-ended g c clean inside =
    let early : HasCleanDisk (seen g.S.Store c.add_profiles.new.self) = omega (arith, c.set_version.ensures.step.survives.clean) in
    let on = c.in_ok-add_profiles.ensures.step.frame early inside in
    let added = c.in_ok-add_profiles.ensures.added early inside in
    on_ok_then c.set_version.result _ _ (λ set version t holds. set (with_plain_profiles t) version (added t version holds)) (c.set_version.ensures.set clean on.inside)
