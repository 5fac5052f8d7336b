use Rattle.std.proofs.Common.{ap}
use Rattle.command_line.specs.Mistakes.{usage_shown}
use Rattle.command_line.proofs.MistakeLines.{same_text}
use Rattle.command_line.proofs.mistakes.show_usage.Goals as goal

pub returns-in-Some : goal.returns-in-Some
returns-in-Some g c = same_text _ _ _ (ap (usage_shown c.args.program.now) c.in-Some.ensures) c.writeln.ensures.bytes

pub returns-in-None : goal.returns-in-None
returns-in-None g c = same_text _ _ _ (ap (usage_shown c.args.program.now) c.in-None.ensures) c.writeln-in-None.ensures.bytes
