use Rattle.machine.proofs.BranchConditions.{met_at, kept_at}
use Rattle.machine.proofs.branches.Condition.test.Goals as goal

pub returns-clause-met : goal.returns-clause-met
returns-clause-met c = rw (← c.number.ensures.same) (met_at c.number.result c.place_of.result c.args.registers.now c.args.units.now c.number.ensures.below c.place_of.ensures c.if-met-eq0.false)

pub returns-clause-registers : goal.returns-clause-registers
returns-clause-registers c = rw (← c.number.ensures.same) (kept_at c.number.result c.args.registers.now c.number.ensures.below c.if-met-eq0.false)
