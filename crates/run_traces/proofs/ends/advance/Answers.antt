use Rattle.std.proofs.Common.{arith}
use Rattle.machine.proofs.Attempts.{attempts_fit}
use Rattle.run_traces.proofs.ends.advance.Goals as goal

pub overflow_cast-result : goal.overflow_cast-result
overflow_cast-result g c = omega (arith, attempts_fit c.args.machine.now c.args.count, c.in_ok-run.ensures.meter, c.ticks.ensures, c.new-meter.ensures)

pub returns-clause-attempts : goal.returns-clause-attempts
returns-clause-attempts g c = omega (arith, attempts_fit c.args.machine.now c.args.count, c.in_ok-run.ensures.meter, c.ticks.ensures, c.new-meter.ensures)
