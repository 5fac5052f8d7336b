use Rattle.std.proofs.Common.{length}
use Rattle.command_line.proofs.options.+option_named.Given as goal

abbrev pub decreases-option_named : goal.decreases-option_named
decreases-option_named l = length l.arguments.now
