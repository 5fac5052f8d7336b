use Rattle.std.proofs.Common.{length}
use Rattle.command_line.proofs.options.+next_value.Given as goal

abbrev pub decreases-next_value : goal.decreases-next_value
decreases-next_value l = length l.arguments.now
