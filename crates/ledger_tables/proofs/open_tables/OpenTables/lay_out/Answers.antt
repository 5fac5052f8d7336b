use Rattle.std.proofs.Common.{arith}
use Rattle.sqlite.specs.State.{HasCleanDisk}
use Rattle.ledger_tables.specs.Steps.{seen}
use Rattle.ledger_tables.proofs.Frames.{on_ok_then}
use Rattle.ledger_tables.proofs.open_tables.OpenTables.lay_out.Goals as goal

pub returns-clause-laid : goal.returns-clause-laid
returns-clause-laid g c clean inside =
    let late : HasCleanDisk (seen g.S.Store c.make_pages.new.self) = omega (arith, c.copy_pictures.ensures.step.survives.clean) in
    let early : HasCleanDisk (seen g.S.Store c.make_states.new.self) = omega (arith, late, c.make_pages.ensures.step.survives.clean) in
    let on = c.in_ok-make_states.ensures.step.frame early inside in
    let first = c.in_ok-make_states.ensures.beside early inside in
    let more = c.in_ok-make_pages.ensures.step.frame late on.inside in
    let second = c.in_ok-make_pages.ensures.beside late on.inside in
    on_ok_then c.copy_pictures.result _ _ (λ copied t storages has. copied t storages (second t storages (first t storages has))) (c.copy_pictures.ensures.copied clean more.inside)
