use Rattle.std.proofs.Common.{◌≡◌, take}
use Rattle.std.specs.Prelude.{fold, map}
use Rattle.clap.specs.Words.{app_of}
use Rattle.command_line.specs.Tables.{with_subcommand_named}
use Rattle.command_line.proofs.programs.with_subcommands.Given as goal

abbrev pub invariant-loop-syntax : goal.invariant-loop-syntax
invariant-loop-syntax g l = app_of l.command
    ≡ fold (λ a syntax. with_subcommand_named a syntax.name.now (map (λ g. (g.0.now, g.1)) syntax.arguments.now)) (app_of l.fn.command) (take l.syntax-index l.subcommands)
