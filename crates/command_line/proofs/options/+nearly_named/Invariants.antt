use Rattle.std.proofs.Common.{length}
use Rattle.command_line.proofs.options.+nearly_named.Given as goal

abbrev pub decreases-nearly_named : goal.decreases-nearly_named
decreases-nearly_named l = length l.arguments.now
