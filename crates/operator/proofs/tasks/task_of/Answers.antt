use Rattle.std.proofs.Common.{subst}
use Rattle.std.proofs.lemmas.Result.{IfOk-weaker}
use Rattle.command_line.specs.Arguments.{given}
use Rattle.command_line.specs.Plain.{texts}
use Rattle.command_line.specs.Programs.{AsksFor, for_subcommand, wish_as}
use Rattle.command_line.specs.declared.programs.Asked.{Asked}
use Rattle.operator.specs.Subcommands.{operator}
use Rattle.operator.specs.declared.subcommands.Subcommand.{Subcommand}
use Rattle.operator.proofs.tasks.task_of.Goals as goal

pub returns-in-Subcommand : goal.returns-in-Subcommand
returns-in-Subcommand c =
    let asks = subst (λ (asked : Asked Subcommand). AsksFor operator (texts c.args.arguments.now) (wish_as asked)) c.in-Subcommand.is c.in_ok-asked.ensures in
    IfOk-weaker c.subcommand_task.result _ _ (λ task is. (for_subcommand c.in-Subcommand.subcommand (given c.in-Subcommand.found), asks, is)) c.subcommand_task.ensures
