use Rattle.std.proofs.Common.{◌≡◌, ◌∙◌, [], List, ap}
use Rattle.std.specs.Prelude.{Option, find, map, option_map, unwrap_or}
use Rattle.std.specs.Str.{bytes_eq}
use Rattle.clap.proofs.WalkLemmas.{find-map}
use Rattle.clap.specs.Words.{Text}
use Rattle.command_line.specs.Misuses.{Arguments}
use Rattle.command_line.specs.Programs.{Syntax, syntax_as}
use Rattle.command_line.specs.declared.programs.Syntax as syntax
use Rattle.command_line.proofs.programs.arguments_named.Goals as goal

-- the arguments of the syntax that may be found
abbrev those : {R : Type 0} → Option (Syntax R) → Arguments
those o = unwrap_or (option_map (λ l. l.2) o) []

-- the syntax that is found has the same ones, as the code has the lines and as the definitions do
same_arguments : {R : Type 0} (argument : Text) (lines : List (syntax.Syntax R))
    → those (option_map syntax_as (find (λ l. bytes_eq l.name.now argument) lines)) ≡ those (find (λ l. bytes_eq l.1 argument) (map syntax_as lines))
same_arguments argument lines = ap those (find-map (λ l. bytes_eq l.1 argument) syntax_as lines)

pub returns-in-Some : goal.returns-in-Some
returns-in-Some g c = ap (λ o. those (option_map syntax_as o)) c.in-Some.ensures ∙ same_arguments c.args.argument.now c.args.program.now.subcommands.now

pub returns-in-None : goal.returns-in-None
returns-in-None g c = ap (λ o. those (option_map syntax_as o)) c.in-None.ensures ∙ same_arguments c.args.argument.now c.args.program.now.subcommands.now
