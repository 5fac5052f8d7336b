use Rattle.workbench_arguments.proofs.WorkbenchCommand.{free, simple}
use Rattle.workbench_arguments.proofs.tasks.wish_of.Goals as goal

pub asked_by-requires-clause-simple : goal.asked_by-requires-clause-simple
asked_by-requires-clause-simple c = λ κs. simple

pub asked_by-requires-clause-free : goal.asked_by-requires-clause-free
asked_by-requires-clause-free c = λ κs. free
