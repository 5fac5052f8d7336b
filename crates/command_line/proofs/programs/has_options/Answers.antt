use Rattle.std.proofs.Common.{◌≡◌, ◌∙◌, ◌∷◌, ◌||◌, [], Bool, List, None, Some, false, ap, refl, sym}
use Rattle.std.specs.List.{list_any}
use Rattle.std.specs.Prelude.{Option, find, map, option_map, unwrap_or}
use Rattle.std.specs.Borrow.{Bor}
use Rattle.std.specs.Str.{bytes_eq}
use Rattle.clap.proofs.WalkLemmas.{find-map}
use Rattle.clap.specs.Words.{Text}
use Rattle.command_line.specs.Programs.{syntax_as}
use Rattle.command_line.specs.Tables.{is_option}
use Rattle.command_line.specs.declared.programs.Syntax as syntax
use Rattle.command_line.specs.declared.tables.Kind.{Kind}
use Rattle.command_line.proofs.programs.has_options.Goals as goal

-- one of the arguments is an option, as the code has them, where one is as the definitions do
same_any : (arguments : List (Bor Text × Kind))
    → list_any (λ (g : Bor Text × Kind). is_option g.1) arguments
    ≡ list_any (λ (g : Text × Kind). is_option g.1) (map (λ (g : Bor Text × Kind). (g.0.now, g.1)) arguments)
same_any [] = refl
same_any (one ∷ more) = ap (λ b. is_option one.1 || b) (same_any more)

-- whether the syntax that may be found has an option
abbrev has : {R : Type 0} → Option (syntax.Syntax R) → Bool
has o = list_any (λ (g : Text × Kind). is_option g.1) (unwrap_or (option_map (λ l. l.2) (option_map syntax_as o)) [])

-- the syntax that is found is the same, as the code has the lines and as the definitions do
same_line : {R : Type 0} (argument : Text) (lines : List (syntax.Syntax R))
    → has (find (λ l. bytes_eq l.name.now argument) lines)
    ≡ list_any (λ (g : Text × Kind). is_option g.1) (unwrap_or (option_map (λ l. l.2) (find (λ l. bytes_eq l.1 argument) (map syntax_as lines))) [])
same_line argument lines = ap (λ o. list_any (λ (g : Text × Kind). is_option g.1) (unwrap_or (option_map (λ l. l.2) o) [])) (find-map (λ l. bytes_eq l.1 argument) syntax_as lines)

found : {R : Type 0} (o : Option (syntax.Syntax R)) (l : syntax.Syntax R) → Some l ≡ o → list_any (λ (g : Bor Text × Kind). is_option g.1) l.arguments.now ≡ has o
found o l e = same_any l.arguments.now ∙ ap has e

none : {R : Type 0} (o : Option (syntax.Syntax R)) → None ≡ o → false ≡ has o
none o e = ap has e

pub returns-in-Some : goal.returns-in-Some
returns-in-Some g c = c.is_option_among.ensures ∙ (found _ c.in-Some.syntax.now c.in-Some.ensures ∙ same_line c.args.argument.now c.args.program.now.subcommands.now)

pub returns-in-None : goal.returns-in-None
returns-in-None g c = none _ c.in-None.ensures ∙ same_line c.args.argument.now c.args.program.now.subcommands.now
