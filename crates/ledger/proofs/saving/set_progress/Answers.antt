use Rattle.std.proofs.Common.{◌≡◌, arith, rules}
use Rattle.sqlite.specs.State.{HasCleanDisk}
use Rattle.ledger_tables.specs.Steps.{seen}
use Rattle.ledger_tables.proofs.Frames.{on_ok_then}
use Rattle.ledger.specs.Saving.{with_choice, with_machine}
use Rattle.ledger.proofs.saving.set_progress.Goals as goal

pub returns-clause-set : goal.returns-clause-set
returns-clause-set g c clean inside =
    let early : HasCleanDisk (seen g.S.Store c.set_running.new.tables) = omega (arith, c.set_last_granted.ensures.step.survives.clean) in
    let on = c.in_ok-set_running.ensures.step.frame early inside in
    let machine : c.parts-parts.result.machine.now ≡ c.args.job.now.machine = search rules in
    let stretches : c.parts-parts.result.stretches.now ≡ c.args.job.now.stretches = search rules in
    let did = rw machine at (c.in_ok-set_running.ensures.set early inside) in
    let more = rw stretches at (c.set_last_granted.ensures.set clean on.inside) in
    on_ok_then c.set_last_granted.result _ _ (λ more t holds has. more (with_choice c.args.name c.args.job.now.machine (with_machine c.args.name c.args.job.now.machine t)) (did t holds has.0) has.1) more
