use Rattle.std.proofs.Common.{arith}
use Rattle.sqlite.specs.State.{HasCleanDisk}
use Rattle.ledger_tables.specs.Steps.{seen}
use Rattle.ledger_tables.proofs.Frames.{on_ok_then}
use Rattle.ledger_tables.proofs.open_tables.OpenTables.add_profiles.Goals as goal

pub returns-clause-added : goal.returns-clause-added
returns-clause-added g c clean inside =
    let late : HasCleanDisk (seen g.S.Store c.make_pockets.new.self) = omega (arith, c.copy_profiles.ensures.step.survives.clean) in
    let early : HasCleanDisk (seen g.S.Store c.make_profiles.new.self) = omega (arith, late, c.make_pockets.ensures.step.survives.clean) in
    let on = c.in_ok-make_profiles.ensures.step.frame early inside in
    let first = c.in_ok-make_profiles.ensures.beside early inside in
    let more = c.in_ok-make_pockets.ensures.step.frame late on.inside in
    let second = c.in_ok-make_pockets.ensures.beside late on.inside in
    on_ok_then c.copy_profiles.result _ _ (λ copied t version has. copied t version (second t version (first t version has))) (c.copy_profiles.ensures.copied clean more.inside)
