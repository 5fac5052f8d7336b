use Rattle.std.proofs.Common.{◌≡◌, arith, rules}
use Rattle.sqlite.specs.State.{HasCleanDisk}
use Rattle.ledger_tables.specs.Steps.{seen}
use Rattle.ledger_tables.proofs.Frames.{on_ok_then}
use Rattle.ledger.specs.Saving.{with_running}
use Rattle.ledger.proofs.saving.insert_state.Goals as goal

pub returns-clause-added : goal.returns-clause-added
returns-clause-added g c clean inside =
    let early : HasCleanDisk (seen g.S.Store c.insert_state.new.self) = omega (arith, c.insert_profile.ensures.step.survives.clean) in
    let on = c.in_ok-insert_state.ensures.step.frame early inside in
    let punch : c.machine.inside.units.punch ≡ c.args.machine.now.works.units.punch = search rules in
    let did = rw c.state_row.ensures at (c.in_ok-insert_state.ensures.added early inside) in
    let row = rw (c.profile_row.ensures, punch) at (c.insert_profile.ensures.added clean on.inside) in
    on_ok_then c.insert_profile.result _ _ (λ more t holds has. more (with_running c.args.name c.args.machine.now t) (did t holds has.0) has.1) row
