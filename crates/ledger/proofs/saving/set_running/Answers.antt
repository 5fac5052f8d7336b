use Rattle.std.proofs.Common.{◌≡◌, arith, rules}
use Rattle.sqlite.specs.State.{HasCleanDisk}
use Rattle.ledger_tables.specs.Steps.{seen}
use Rattle.ledger_tables.proofs.Frames.{on_ok_then}
use Rattle.ledger_tables.proofs.Stepping.{on_any}
use Rattle.units.specs.Pockets.{pocket_number}
use Rattle.ledger.specs.Saving.{with_machine}
use Rattle.ledger.proofs.saving.set_running.Goals as goal

pub returns-clause-set : goal.returns-clause-set
returns-clause-set g c clean inside =
    let early : HasCleanDisk (seen g.S.Store c.set_machine.new.tables) = omega (arith, c.set_choice.ensures.step.survives.clean) in
    let on = c.in_ok-set_machine.ensures.step.frame early inside in
    let chosen : c.number-chosen.result ≡ pocket_number c.args.machine.now.works.units.punch.chosen = search rules in
    let before : c.number.result ≡ pocket_number c.args.earlier.now.chosen = search rules in
    let did = c.in_ok-set_machine.ensures.set early inside in
    let choice = rw (chosen, before) at (c.set_choice.ensures.set clean on.inside) in
    on_ok_then c.set_choice.result _ _ (λ more t holds has. more (with_machine c.args.name c.args.machine.now t) (did t holds has.rows) has.chosen) choice

pub returns-clause-characters : goal.returns-clause-characters
returns-clause-characters g c = on_any c.set_choice.result _ c.in_ok-set_machine.ensures.characters
