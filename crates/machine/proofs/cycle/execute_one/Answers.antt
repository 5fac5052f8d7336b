use Rattle.std.proofs.Common.{◌∙◌, ap, refl}
use Rattle.machine.specs.Effect.{works_of}
use Rattle.machine.specs.Run.{running}
use Rattle.machine.specs.declared.operations.Course.TheVariants.{GoesOn, Halts}
use Rattle.machine.specs.declared.standings.Standing.TheVariants.{Checked}
use Rattle.machine.proofs.Steps.{attempt_size, step_check, step_makes, step_ok}
use Rattle.machine.proofs.cycle.execute_one.Goals as goal

pub returns-in-Ok-GoesOn-clause-machine : goal.returns-in-Ok-GoesOn-clause-machine
returns-in-Ok-GoesOn-clause-machine g c =
    let w = works_of (g.C.Core.cells c.args.core.now) c.args.registers.now c.args.units.now in
    let x = works_of (g.C.Core.cells c.attempt_alone.new.core) c.attempt_alone.new.registers c.attempt_alone.new.units in
    step_ok (running w) w x GoesOn refl refl (rw c.in-Ok-GoesOn.field-0-is at c.in-Ok-GoesOn.ensures)

pub returns-in-Ok-GoesOn-clause-size : goal.returns-in-Ok-GoesOn-clause-size
returns-in-Ok-GoesOn-clause-size g c = attempt_size _ _ GoesOn (rw c.in-Ok-GoesOn.field-0-is at c.in-Ok-GoesOn.ensures)

pub returns-in-Ok-Halts-clause-machine : goal.returns-in-Ok-Halts-clause-machine
returns-in-Ok-Halts-clause-machine g c =
    let w = works_of (g.C.Core.cells c.args.core.now) c.args.registers.now c.args.units.now in
    let x = works_of (g.C.Core.cells c.attempt_alone.new.core) c.attempt_alone.new.registers c.attempt_alone.new.units in
    step_ok (running w) w x Halts refl refl (rw c.in-Ok-Halts.field-0-is at c.in-Ok-Halts.ensures)

pub returns-in-Ok-Halts-clause-size : goal.returns-in-Ok-Halts-clause-size
returns-in-Ok-Halts-clause-size g c = attempt_size _ _ Halts (rw c.in-Ok-Halts.field-0-is at c.in-Ok-Halts.ensures)

pub returns-in-Err-Stopped-clause-machine : goal.returns-in-Err-Stopped-clause-machine
returns-in-Err-Stopped-clause-machine g c =
    let w = works_of (g.C.Core.cells c.args.core.now) c.args.registers.now c.args.units.now in
    let ended = rw c.in-Err-Stopped.field-0-is at c.in-Err-Stopped.ensures in
    ap (λ works. record { works = works; standing = Checked c.in-Err-Stopped.check }) ended.1
    ∙ step_check (running w) w c.in-Err-Stopped.check refl refl ended.0

pub returns-in-Err-NoMemory-clause-memory : goal.returns-in-Err-NoMemory-clause-memory
returns-in-Err-NoMemory-clause-memory g c =
    let w = works_of (g.C.Core.cells c.args.core.now) c.args.registers.now c.args.units.now in
    let ended = rw c.in-Err-NoMemory.field-0-is at c.in-Err-NoMemory.ensures in
    step_makes (running w) w refl refl ended.0
