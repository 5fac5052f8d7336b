use Rattle.std.proofs.Common.{◌∙◌, ap, sym}
use Rattle.std.proofs.lemmas.List.Folds.{fold-map}
use Rattle.std.proofs.lemmas.Result.{IfOk-weaker}
use Rattle.std.specs.Prelude.{fold}
use Rattle.clap.specs.Words.{App}
use Rattle.command_line.specs.Programs.{Syntax, command, syntax_as}
use Rattle.command_line.specs.Tables.{with_subcommand_named}
use Rattle.command_line.proofs.programs.command_of.Goals as goal

abbrev with_line : {R : Type 0} → App → Syntax R → App
with_line a syntax = with_subcommand_named a syntax.1 syntax.2

pub returns : goal.returns
unfolding command
returns g c = IfOk-weaker c.with_subcommands.result _ _
    (λ command is. is ∙ (ap (λ (a : App). fold (λ b syntax. with_line b (syntax_as syntax)) a c.args.program.now.subcommands.now) c.named_command.ensures
    ∙ sym (fold-map with_line syntax_as _ c.args.program.now.subcommands.now)))
    c.with_subcommands.ensures
