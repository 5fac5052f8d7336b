use Rattle.std.proofs.Common.{ap, sym}
use Rattle.std.specs.Prelude.{option_map}
use Rattle.command_line.specs.Mistakes.{name_line}
use Rattle.command_line.proofs.MistakeLines.{same_text}
use Rattle.command_line.proofs.mistakes.complain_of_name.Goals as goal

pub returns-in-Some : goal.returns-in-Some
returns-in-Some g c = same_text _ _ _ (sym (ap (λ o. name_line c.args.program.now c.args.argument.now c.args.kind.now c.args.mark.now (option_map (λ name. name.now) o)) c.in-Some.is)) c.writeln.ensures.bytes

pub returns-in-None : goal.returns-in-None
returns-in-None g c = same_text _ _ _ (sym (ap (λ o. name_line c.args.program.now c.args.argument.now c.args.kind.now c.args.mark.now (option_map (λ name. name.now) o)) c.in-None.is)) c.writeln-in-None.ensures.bytes
