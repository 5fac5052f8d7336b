use Rattle.std.proofs.Common.{◌∙◌, sym}
use Rattle.check_causes.proofs.OrderLemmas.{by_order, by_no_order}
use Rattle.check_causes.proofs.operations.test_carriage.Goals as goal

pub returns-in-Some : goal.returns-in-Some
returns-in-Some c = c.test_order.ensures ∙ by_order c.args.instruction.first c.args.instruction.length c.args.instruction.last c.in-Some.order c.args.printer.now c.requires (sym c.of_code.ensures ∙ c.in-Some.is)

pub returns-in-None : goal.returns-in-None
returns-in-None c = by_no_order c.args.instruction.first c.args.instruction.length c.args.instruction.last c.args.printer.now c.requires (sym c.of_code.ensures ∙ c.in-None.is)
