use Rattle.std.proofs.Common.{◌≡◌, arith, rules}
use Rattle.sqlite.specs.State.{HasCleanDisk}
use Rattle.ledger_tables.specs.Steps.{seen}
use Rattle.ledger_tables.proofs.Frames.{on_ok_then}
use Rattle.ledger.specs.Saving.{with_all_stretches}
use Rattle.ledger.proofs.saving.insert_begun.Goals as goal

pub returns-clause-added : goal.returns-clause-added
returns-clause-added g c clean inside =
    let early : HasCleanDisk (seen g.S.Store c.insert_last_stretch.new.tables) = omega (arith, c.insert_machine.ensures.step.survives.clean) in
    let on = c.in_ok-insert_last_stretch.ensures.step.frame early inside in
    let machine : c.parts-parts.result.machine.now ≡ c.args.job.now.machine = search rules in
    let stretches : c.parts-parts.result.stretches.now ≡ c.args.job.now.stretches = search rules in
    let did = rw stretches at (c.in_ok-insert_last_stretch.ensures.added early inside) in
    let more = rw machine at (c.insert_machine.ensures.added clean on.inside) in
    on_ok_then c.insert_machine.result _ _ (λ more t holds has. more (with_all_stretches c.args.name c.args.job.now.stretches t) (did t holds has.stretches) (record { state = has.machine.state; pages = has.machine.pages; profile = has.machine.profile })) more
