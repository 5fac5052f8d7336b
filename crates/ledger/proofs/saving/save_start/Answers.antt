use Rattle.std.proofs.Common.{◌≡◌, ap, arith, rules, is_some}
use Rattle.sqlite.specs.State.{HasCleanDisk}
use Rattle.ledger_tables.specs.Steps.{seen}
use Rattle.ledger_tables.proofs.Frames.{on_ok_then}
use Rattle.office.specs.Kept.{Kept}
use Rattle.units.specs.Switches.{seven}
use Rattle.ledger.specs.Saving.{with_running}
use Rattle.office_tables.specs.Standing.{tables_of, stretches_of, state_of}
use Rattle.ledger.proofs.SavingChanges.{start_saved}
use Rattle.ledger.proofs.saving.save_start.Goals as goal

pub returns-clause-saved : goal.returns-clause-saved
returns-clause-saved g c switches old clean inside =
    let early : HasCleanDisk (seen g.S.Store c.set_state.new.tables) = omega (arith, c.insert_last_stretch.ensures.step.survives.clean) in
    let on = c.in_ok-set_state.ensures.step.frame early inside in
    let machine : c.parts-started.result.machine.now ≡ c.args.job.now.machine = search rules in
    let stretches : c.parts-started.result.stretches.now ≡ c.args.job.now.stretches = search rules in
    let did = rw machine at (c.in_ok-set_state.ensures.set early inside) in
    let storage = rw machine at c.in_ok-set_state.ensures.characters in
    let more = rw stretches at (c.insert_last_stretch.ensures.added clean on.inside) in
    let customer = c.args.name.customer.now in
    let number = c.args.name.number in
    on_ok_then c.insert_last_stretch.result _ _
    (λ more office stands is.
    let mid = with_running c.args.name c.args.job.now.machine (tables_of office) in
    let moved = did (tables_of office) stands.tables (ap is_some (ap state_of is.found)) in
    start_saved (seen g.S.Store c.args.tables.now).now (seen g.S.Store c.insert_last_stretch.new.tables).now office customer number switches old c.args.job.now stands is.found is.made is.counted is.is is.job storage
    (more mid moved (old.stretches, record { switches = seven switches; granted = 0 }, ap (λ (k : Kept). k.stretches) is.made, ap stretches_of is.found)))
    more
