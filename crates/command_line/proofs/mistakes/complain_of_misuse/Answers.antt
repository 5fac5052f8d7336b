use Rattle.std.proofs.Common.{ap, sym}
use Rattle.command_line.specs.Mistakes.{misuse_line}
use Rattle.command_line.specs.Misuses.{misuse_as}
use Rattle.command_line.proofs.MistakeLines.{same_text}
use Rattle.command_line.proofs.mistakes.complain_of_misuse.Goals as goal

pub returns-in-NoOption : goal.returns-in-NoOption
returns-in-NoOption g c = same_text _ _ _ (sym (ap (λ m. misuse_line c.args.program.now (misuse_as m)) c.in-NoOption.is)) c.complain_of_name.ensures

pub returns-in-NoValue : goal.returns-in-NoValue
returns-in-NoValue g c = same_text _ _ _ (sym (ap (λ m. misuse_line c.args.program.now (misuse_as m)) c.in-NoValue.is)) c.writeln.ensures.bytes

pub returns-in-TooMany : goal.returns-in-TooMany
returns-in-TooMany g c = same_text _ _ _ (sym (ap (λ m. misuse_line c.args.program.now (misuse_as m)) c.in-TooMany.is)) c.writeln-in-TooMany.ensures.bytes

pub returns-in-Missing : goal.returns-in-Missing
returns-in-Missing g c = same_text _ _ _ (sym (ap (λ m. misuse_line c.args.program.now (misuse_as m)) c.in-Missing.is)) c.writeln-in-Missing.ensures.bytes

pub returns-in-OfOptions : goal.returns-in-OfOptions
returns-in-OfOptions g c = same_text _ _ _ (sym (ap (λ m. misuse_line c.args.program.now (misuse_as m)) c.in-OfOptions.is)) c.writeln-in-OfOptions.ensures.bytes
