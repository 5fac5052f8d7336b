use Rattle.std.proofs.Common.{◌∙◌, sym}
use Rattle.machine.proofs.BranchConditions.{none_is_met}
use Rattle.machine.proofs.branches.Condition.test_named.Goals as goal

pub returns-in_default-clause-met : goal.returns-in_default-clause-met
returns-in_default-clause-met c = none_is_met c.args.code c.args.registers.now c.args.units.now (sym c.of_code.ensures ∙ c.in_default.is)
