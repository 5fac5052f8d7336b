use Rattle.std.proofs.Common.{◌≡◌, [], ap, ◌∙◌, arith, rules}
use Rattle.sqlite.specs.State.{HasCleanDisk}
use Rattle.ledger_tables.specs.Steps.{seen}
use Rattle.ledger_tables.proofs.Frames.{on_ok_then}
use Rattle.office.specs.Kept.{Kept}
use Rattle.units.specs.Switches.{seven}
use Rattle.ledger.specs.Saving.{with_handed}
use Rattle.office_tables.specs.Standing.{tables_of, stretches_of, state_of, pages_of, profile_of}
use Rattle.ledger.proofs.SavingLemmas.{on_ok_both}
use Rattle.ledger.proofs.SavingJobs.{none_named, one_stretch, new_saved}
use Rattle.ledger.proofs.saving.save_new.Goals as goal

pub returns-clause-saved : goal.returns-clause-saved
returns-clause-saved g c new it clean inside =
    let early : HasCleanDisk (seen g.S.Store c.insert_handed.new.tables) = omega (arith, c.insert_begun.ensures.step.survives.clean) in
    let on = c.in_ok-insert_handed.ensures.step.frame early inside in
    let loads : c.machine.inside.units.hopper.deck ≡ c.args.job.now.machine.works.units.hopper.deck = search rules in
    let did = rw loads at (c.in_ok-insert_handed.ensures.added early inside) in
    let loaded = rw loads at c.in_ok-insert_handed.ensures.loaded in
    let customer = c.args.name.customer.now in
    let number = c.args.name.number in
    let stretches = ap (λ (k : Kept). k.stretches) it.kept_is ∙ one_stretch c.args.contents.now new it.taken in
    on_ok_then c.insert_begun.result _ _
    (λ all office stands free.
    let mid = with_handed c.args.name c.args.contents.now c.args.job.now.machine.works.units.hopper.deck (tables_of office) in
    let before = did (tables_of office) stands.tables (none_named customer number office free) in
    new_saved c.runs_only_add.ensures.deck c.commands_keep_jobs.ensures.new (seen g.S.Store c.insert_begun.new.tables).now office customer number c.args.contents.now new c.args.job.now stands.jobs free it.taken it.kept_is c.in_ok-insert_handed.ensures.deck loaded all.0
    (all.1 mid before (record { stretches = ([], record { switches = seven c.args.contents.now.switches; granted = 0 }, stretches, ap stretches_of free); machine = record { state = ap state_of free; pages = ap pages_of free; profile = ap profile_of free } })))
    (on_ok_both c.insert_begun.result _ _ c.insert_begun.ensures.characters (c.insert_begun.ensures.added clean on.inside))
