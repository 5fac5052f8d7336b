use Rattle.std.proofs.Common.{ap, sym}
use Rattle.command_line.specs.Mistakes.{complaint_line}
use Rattle.command_line.proofs.MistakeLines.{same_text}
use Rattle.command_line.proofs.mistakes.complain.Goals as goal

pub returns-in-Memory : goal.returns-in-Memory
returns-in-Memory g c = same_text _ _ _ (sym (ap (complaint_line c.args.program.now) c.in-Memory.is)) c.writeln.ensures.bytes

pub returns-in-NoText : goal.returns-in-NoText
returns-in-NoText g c = same_text _ _ _ (sym (ap (complaint_line c.args.program.now) c.in-NoText.is)) c.writeln-in-NoText.ensures.bytes

pub returns-in-Subcommand : goal.returns-in-Subcommand
returns-in-Subcommand g c = same_text _ _ _ (sym (ap (complaint_line c.args.program.now) c.in-Subcommand.is)) c.complain_of_name.ensures

pub returns-in-Nothing : goal.returns-in-Nothing
returns-in-Nothing g c = same_text _ _ _ (sym (ap (complaint_line c.args.program.now) c.in-Nothing.is)) c.writeln-in-Nothing.ensures.bytes

pub returns-in-Arguments : goal.returns-in-Arguments
returns-in-Arguments g c = same_text _ _ _ (sym (ap (complaint_line c.args.program.now) c.in-Arguments.is)) c.complain_of_misuse.ensures

pub returns-in-Value : goal.returns-in-Value
returns-in-Value g c = same_text _ _ _ (sym (ap (complaint_line c.args.program.now) c.in-Value.is)) c.writeln-in-Value.ensures.bytes

pub returns-in-Hyphen : goal.returns-in-Hyphen
returns-in-Hyphen g c = same_text _ _ _ (sym (ap (complaint_line c.args.program.now) c.in-Hyphen.is)) c.writeln-in-Hyphen.ensures.bytes
