use Rattle.std.proofs.Common.{arith, sym, length, ◌<◌}
use Rattle.machine.specs.Effect.{works_of}
use Rattle.machine.proofs.ShapeDecoding.{attempt_unread, shape_ends}
use Rattle.machine.proofs.cycle.read_here.Goals as goal

pub returns-in-Ok-clause-below : goal.returns-in-Ok-clause-below
returns-in-Ok-clause-below g c = omega (arith, shape_ends (g.C.Core.cells c.args.core.now) c.args.registers.now.i c.in-Ok.shape (sym c.in-Ok.ensures))

pub returns-in-Err-clause-check : goal.returns-in-Err-clause-check
returns-in-Err-clause-check g c = λ units.
    let w = works_of (g.C.Core.cells c.args.core.now) c.args.registers.now units in
    let inside : w.registers.i < length w.storage = omega arith in
    attempt_unread w inside c.in-Err.check (sym c.in-Err.ensures)
