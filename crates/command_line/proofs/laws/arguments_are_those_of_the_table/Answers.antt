use Rattle.command_line.proofs.AskedWays.{same_help}
use Rattle.command_line.proofs.CommandArguments.{subcommand_asked, taken}
use Rattle.command_line.proofs.laws.arguments_are_those_of_the_table.Goals as goal

pub returns-clause-help : goal.returns-clause-help
returns-clause-help c = same_help

pub returns-clause-subcommand : goal.returns-clause-subcommand
returns-clause-subcommand c = subcommand_asked

pub returns-clause-values : goal.returns-clause-values
returns-clause-values c = taken
