use Rattle.std.proofs.Common.{◌≡◌, ◌∙◌, List, None, Some, ap, refl}
use Rattle.std.specs.Prelude.{Option, find, map, option_map}
use Rattle.clap.proofs.WalkLemmas.{find-map}
use Rattle.clap.specs.Words.{Text}
use Rattle.command_line.specs.Near.{is_near}
use Rattle.command_line.specs.Programs.{syntax_as}
use Rattle.command_line.specs.declared.programs.Syntax as syntax
use Rattle.command_line.proofs.programs.near_subcommand.Goals as goal

name_again : {R : Type 0} (o : Option (syntax.Syntax R)) → option_map (λ l. l.name.now) o ≡ option_map (λ l. l.1) (option_map syntax_as o)
name_again None = refl
name_again (Some l) = refl

-- the name of the syntax that is found is the same, as the code has the lines and as the definitions
-- do
same_name : {R : Type 0} (argument : Text) (lines : List (syntax.Syntax R))
    → option_map (λ (l : syntax.Syntax R). l.name.now) (find (λ l. is_near l.name.now argument) lines)
    ≡ option_map (λ l. l.1) (find (λ l. is_near l.1 argument) (map syntax_as lines))
same_name argument lines = name_again _ ∙ ap (option_map (λ l. l.1)) (find-map (λ l. is_near l.1 argument) syntax_as lines)

pub returns-in-Some : goal.returns-in-Some
returns-in-Some g c = ap (option_map (λ (l : syntax.Syntax _). l.name.now)) c.in-Some.ensures ∙ same_name c.args.argument.now c.args.program.now.subcommands.now

pub returns-in-None : goal.returns-in-None
returns-in-None g c = ap (option_map (λ (l : syntax.Syntax _). l.name.now)) c.in-None.ensures ∙ same_name c.args.argument.now c.args.program.now.subcommands.now
