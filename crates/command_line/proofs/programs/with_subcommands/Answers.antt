use Rattle.std.proofs.Common.{◌≡◌, ◌∙◌, ap, sym, take, take_all, map}
use Rattle.std.proofs.lemmas.List.Sums.{fold_more}
use Rattle.std.specs.Prelude.{fold}
use Rattle.clap.specs.Words.{App, app_of}
use Rattle.command_line.specs.Tables.{with_subcommand_named}
use Rattle.command_line.specs.declared.programs.Syntax.{Syntax}
use Rattle.command_line.proofs.programs.with_subcommands.Goals as goal

abbrev step : {R : Type 0} → App → Syntax R → App
step a syntax = with_subcommand_named a syntax.name.now (map (λ g. (g.0.now, g.1)) syntax.arguments.now)

next : {R : Type 0} {a b : App} (syntax : Syntax R) → a ≡ b → step a syntax ≡ step b syntax
next syntax e = ap (λ (a : App). step a syntax) e

pub loop-syntax-preserved : goal.loop-syntax-preserved
loop-syntax-preserved g c = c.in_ok-command.ensures ∙ (next c.syntax-item.result c.loop-syntax.invariant
    ∙ (ap (step (fold step (app_of c.args.command) (take c.loop-syntax.syntax-index c.args.subcommands.now))) c.syntax-item.is ∙ sym (fold_more step (app_of c.args.command) c.args.subcommands.now c.loop-syntax.syntax-index c.syntax-item.result c.loop-syntax-test.true)))

pub returns : goal.returns
returns g c = c.loop-syntax.invariant ∙ ap (fold step (app_of c.args.command)) (take_all c.loop-syntax.syntax-index c.args.subcommands.now c.loop-syntax-test.false)
