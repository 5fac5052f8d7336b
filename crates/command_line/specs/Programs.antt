-- programs as tables of subcommands, and what arguments ask for by them
use Rattle.std.specs.Prelude.{◌≡◌, ◌⊎◌, ◌&&◌, ◌||◌, Bool, false, true, List, [], ◌∷◌, Option, Some, None, codes, find, fold, if◌then◌else◌, is_some, map, not, option_map, unwrap_or}
use Rattle.std.specs.List.{list_any}
use Rattle.std.specs.Str.{bytes_eq}
use Rattle.clap.specs.Words.{App, Row, Text, fault_of, subcommand_of}
use Rattle.command_line.specs.Arguments.{given}
use Rattle.command_line.specs.Misuses.{Arguments, Misuse, misuse, misuse_as}
use Rattle.command_line.specs.Near.{is_near}
use Rattle.command_line.specs.Plain.{is_odd}
use Rattle.command_line.specs.Tables.{is_option, named, with_subcommand_named}
use Rattle.command_line.specs.declared.mistakes.Mistake.{Mistake}
use Rattle.command_line.specs.declared.mistakes.Mistake.TheVariants as mistake
use Rattle.command_line.specs.declared.programs.Asked.{Asked}
use Rattle.command_line.specs.declared.programs.Asked.TheVariants as asked
use Rattle.command_line.specs.declared.programs.Syntax as syntax
use Rattle.command_line.specs.declared.programs.Program as code
use Rattle.command_line.specs.declared.tables.Kind.{Kind}

-- a subcommand of a program: the subcommand, its name, its arguments in order, and how it is used
abbrev pub Syntax : Type 0 → Type 0
Syntax R = R × Text × List (Text × Kind) × Text

-- a program by its arguments: its name, and its subcommands
pub record Program (R : Type 0) : Type 0 where
  pub name : Text
  pub subcommands : List (Syntax R)

-- a subcommand as the code has it
abbrev pub syntax_as : {R : Type 0} → syntax.Syntax R → Syntax R
syntax_as syntax =
    (syntax.subcommand, syntax.name.now, map (λ g. (g.0.now, g.1)) syntax.arguments.now, syntax.usage.now)

-- a program as the code has it
abbrev pub program_as : {R : Type 0} → code.Program R → Program R
program_as program = record { name = program.name.now; subcommands = map syntax_as program.subcommands.now }

-- the subcommand with this name, if there is one
abbrev pub subcommand_named : {R : Type 0} → Program R → Text → Option R
subcommand_named program argument =
    option_map (λ syntax. syntax.0) (find (λ syntax. bytes_eq syntax.1 argument) program.subcommands)

-- how the subcommand with this name is used, if there is one
abbrev pub usage_named : {R : Type 0} → Program R → Text → Option Text
usage_named program argument =
    option_map (λ syntax. syntax.3) (find (λ syntax. bytes_eq syntax.1 argument) program.subcommands)

-- the program's whole command: with each subcommand, and the subcommand's arguments
unfoldable pub command : {R : Type 0} → Program R → App
command program = fold (λ a syntax. with_subcommand_named a syntax.1 syntax.2) (named program.name) program.subcommands

-- what arguments can ask for: the help of a subcommand or the whole help, the version, or a
-- subcommand with what is found of its arguments
pub data Wish (R : Type 0) : Type 0 where
  for_help : Option R → Wish R
  for_version : Wish R
  for_subcommand : R → List Row → Wish R

-- the argument asks for help
abbrev pub IsHelpArgument : Text → Type 0
IsHelpArgument argument = (argument ≡ codes "--help") ⊎ (argument ≡ codes "-h")

-- whether the argument asks for help
abbrev pub is_help : Text → Bool
is_help argument = bytes_eq argument (codes "--help") || bytes_eq argument (codes "-h")

-- the arguments ask for the version
abbrev pub IsVersion : List Text → Type 0
IsVersion arguments = arguments ≡ codes "--version" ∷ []

-- whether one of the arguments asks for help, and `--` does not come before it
unfoldable pub has_help : List Text → Bool
has_help [] = false
has_help (argument ∷ more) =
    not (bytes_eq argument (codes "--")) && (is_help argument || has_help more)

-- the arguments ask for the help of the subcommand that the first one names, by one behind it, or
-- alone for the whole help
abbrev pub AsksForHelp : {R : Type 0} → Program R → List Text → Option R → Type 0
AsksForHelp program (argument ∷ []) None = IsHelpArgument argument
AsksForHelp program (name ∷ argument ∷ more) (Some subcommand) =
    (has_help (argument ∷ more) ≡ true) × (subcommand_named program name ≡ Some subcommand)
AsksForHelp program _ _ = ⊥

-- clap takes the arguments by the program's command, and finds this subcommand with these arguments
pub record HasSubcommand {R : Type 0} (program : Program R) (arguments : List Text) (subcommand : R)
    (found : List Row) : Type 0 where
  pub name : Text
  pub taken : fault_of (command program) arguments ≡ []
  pub is_subcommand : subcommand_of (command program) arguments ≡ Some (name, found)
  pub named : subcommand_named program name ≡ Some subcommand

-- the arguments ask for this
abbrev pub AsksFor : {R : Type 0} → Program R → List Text → Wish R → Type 0
AsksFor program arguments (for_help page) = AsksForHelp program arguments page
AsksFor program arguments for_version = IsVersion arguments
AsksFor program arguments (for_subcommand subcommand found) = HasSubcommand program arguments subcommand found

-- the arguments ask for this in place of a subcommand: a help, or the version
abbrev pub AsksInPlace : {R : Type 0} → Program R → List Text → Wish R → Type 0
AsksInPlace program arguments (for_help page) = AsksForHelp program arguments page
AsksInPlace program arguments for_version = IsVersion arguments
AsksInPlace program arguments (for_subcommand subcommand found) = ⊥

-- what is asked for, as the code has it
abbrev pub wish_as : {R : Type 0} → Asked R → Wish R
wish_as (asked.Help page) = for_help page
wish_as asked.Version = for_version
wish_as (asked.Subcommand subcommand found) = for_subcommand subcommand (given found)

-- how the subcommand is used that arguments begin with, if they begin with one
abbrev pub usage_begun : {R : Type 0} → Program R → List Text → Option Text
usage_begun program [] = None
usage_begun program (argument ∷ more) = usage_named program argument

-- ---- arguments that hold no option

-- whether the arguments begin with a subcommand's name and `--`
abbrev pub has_dashes : {R : Type 0} → Program R → List Text → Bool
has_dashes program [] = false
has_dashes program (argument ∷ []) = false
has_dashes program (argument ∷ other ∷ more) =
    is_some (subcommand_named program argument) && bytes_eq other (codes "--")

-- whether none of the arguments is an option, or they begin with a subcommand's name and `--`
abbrev pub is_clear : {R : Type 0} → Program R → List Text → Bool
is_clear program arguments = has_dashes program arguments || not (is_some (find is_odd arguments))

-- whether the subcommand with this name has an option
abbrev pub has_options : {R : Type 0} → Program R → Text → Bool
has_options program argument = list_any (λ g. is_option g.1)
    (unwrap_or (option_map (λ syntax. syntax.2) (find (λ syntax. bytes_eq syntax.1 argument) program.subcommands)) [])

-- the first argument that begins with a hyphen, where the subcommand has no options whose name
-- comes first, and `--` does not come behind that
abbrev pub stray_option : {R : Type 0} → Program R → List Text → Option Text
stray_option program [] = None
stray_option program (argument ∷ more) =
    if has_dashes program (argument ∷ more) || has_options program argument then None
    else find is_odd (argument ∷ more)

-- ---- arguments that ask for nothing

-- the first subcommand whose name is nearly this
abbrev pub near_subcommand : {R : Type 0} → Program R → Text → Option Text
near_subcommand program argument =
    option_map (λ syntax. syntax.1) (find (λ syntax. is_near syntax.1 argument) program.subcommands)

-- the arguments of the subcommand with this name
abbrev pub arguments_named : {R : Type 0} → Program R → Text → Arguments
arguments_named program argument =
    unwrap_or (option_map (λ syntax. syntax.2) (find (λ syntax. bytes_eq syntax.1 argument) program.subcommands)) []

-- the arguments begin with this one
abbrev pub BeginsWith : Text → List Text → Type 0
BeginsWith argument [] = ⊥
BeginsWith argument (first ∷ more) = first ≡ argument

-- what is wrong with the arguments behind the first one, by those of the subcommand that it names
abbrev pub misuse_begun : {R : Type 0} → Program R → List Text → Option Misuse
misuse_begun program [] = None
misuse_begun program (name ∷ more) = Some (misuse (arguments_named program name) more)

-- this is what is wrong with arguments that ask for nothing: there are none, or the first one is no
-- subcommand's name; or they are not used as the subcommand is whose name comes first; one of them
-- may be read as an option there
abbrev pub IsMisread : {R : Type 0} → Program R → List Text → Mistake → Type 0
IsMisread program arguments mistake.Nothing = arguments ≡ []
IsMisread program arguments (mistake.Subcommand argument near) =
    (usage_begun program arguments ≡ None) × BeginsWith argument.now arguments
    × (near_subcommand program argument.now ≡ option_map (λ name. name.now) near)
IsMisread program arguments (mistake.Arguments it usage) =
    (usage_begun program arguments ≡ Some usage.now) × (stray_option program arguments ≡ None)
    × (misuse_begun program arguments ≡ Some (misuse_as it))
IsMisread program arguments (mistake.Hyphen argument usage) =
    (usage_begun program arguments ≡ Some usage.now) × (stray_option program arguments ≡ Some argument.now)
IsMisread program arguments _ = ⊥
