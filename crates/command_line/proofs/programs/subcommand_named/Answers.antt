use Rattle.std.proofs.Common.{◌≡◌, ◌∙◌, List, None, Some, ap, refl}
use Rattle.std.specs.Prelude.{Option, find, map, option_map}
use Rattle.std.specs.Str.{bytes_eq}
use Rattle.clap.proofs.WalkLemmas.{find-map}
use Rattle.clap.specs.Words.{Text}
use Rattle.command_line.specs.Programs.{syntax_as}
use Rattle.command_line.specs.declared.programs.Syntax as syntax
use Rattle.command_line.proofs.programs.subcommand_named.Goals as goal

subcommand_again : {R : Type 0} (o : Option (syntax.Syntax R)) → option_map (λ l. l.subcommand) o ≡ option_map (λ l. l.0) (option_map syntax_as o)
subcommand_again None = refl
subcommand_again (Some l) = refl

usage_again : {R : Type 0} (o : Option (syntax.Syntax R)) → option_map (λ l. l.usage.now) o ≡ option_map (λ l. l.3) (option_map syntax_as o)
usage_again None = refl
usage_again (Some l) = refl

-- the subcommand of the syntax that is found is the same, as the code has the lines and as the
-- definitions do
same_subcommand : {R : Type 0} (argument : Text) (lines : List (syntax.Syntax R))
    → option_map (λ (l : syntax.Syntax R). l.subcommand) (find (λ l. bytes_eq l.name.now argument) lines)
    ≡ option_map (λ l. l.0) (find (λ l. bytes_eq l.1 argument) (map syntax_as lines))
same_subcommand argument lines = subcommand_again _ ∙ ap (option_map (λ l. l.0)) (find-map (λ l. bytes_eq l.1 argument) syntax_as lines)

-- and so is how it is used
same_usage : {R : Type 0} (argument : Text) (lines : List (syntax.Syntax R))
    → option_map (λ (l : syntax.Syntax R). l.usage.now) (find (λ l. bytes_eq l.name.now argument) lines)
    ≡ option_map (λ l. l.3) (find (λ l. bytes_eq l.1 argument) (map syntax_as lines))
same_usage argument lines = usage_again _ ∙ ap (option_map (λ l. l.3)) (find-map (λ l. bytes_eq l.1 argument) syntax_as lines)

pub returns-in-Some-clause-subcommand : goal.returns-in-Some-clause-subcommand
returns-in-Some-clause-subcommand g c = ap (option_map (λ (l : syntax.Syntax _). l.subcommand)) c.in-Some.ensures ∙ same_subcommand c.args.argument.now c.args.program.now.subcommands.now

pub returns-in-None-clause-subcommand : goal.returns-in-None-clause-subcommand
returns-in-None-clause-subcommand g c = ap (option_map (λ (l : syntax.Syntax _). l.subcommand)) c.in-None.ensures ∙ same_subcommand c.args.argument.now c.args.program.now.subcommands.now

pub returns-in-Some-clause-usage : goal.returns-in-Some-clause-usage
returns-in-Some-clause-usage g c = ap (option_map (λ (l : syntax.Syntax _). l.usage.now)) c.in-Some.ensures ∙ same_usage c.args.argument.now c.args.program.now.subcommands.now

pub returns-in-None-clause-usage : goal.returns-in-None-clause-usage
returns-in-None-clause-usage g c = ap (option_map (λ (l : syntax.Syntax _). l.usage.now)) c.in-None.ensures ∙ same_usage c.args.argument.now c.args.program.now.subcommands.now
