-- the subcommands of the program's arguments
use Rattle.std.specs.Prelude.{◌∷◌, [], List, codes, map}
use Rattle.clap.specs.Words.{Text}
use Rattle.command_line.specs.Programs.{Syntax, Program}
use Rattle.command_line.specs.declared.subcommands.Subcommand.{Subcommand}
use Rattle.command_line.specs.declared.subcommands.Subcommand.TheVariants as name
use Rattle.command_line.specs.declared.tables.Kind.{Kind}
use Rattle.command_line.specs.declared.tables.Kind.TheVariants.{Value}

-- values with these names, each in its place
abbrev pub values_in : List Text → List (Text × Kind)
values_in names = map (λ name. (name, Value)) names

-- a subcommand: the argument that is its name, its values, and how it is used
abbrev pub syntax_of : Subcommand → Syntax Subcommand
syntax_of name.Run = (
  name.Run,
  codes "run",
  values_in (codes "DECK" ∷ codes "SIZE" ∷ codes "SWITCHES" ∷ []),
  codes "run DECK SIZE SWITCHES",
)
syntax_of name.Assemble = (
  name.Assemble,
  codes "assemble",
  values_in (codes "IN" ∷ codes "OUT" ∷ []),
  codes "assemble IN OUT",
)
syntax_of name.Init = (name.Init, codes "init", values_in (codes "FILE" ∷ []), codes "init FILE")
syntax_of name.Apply = (
  name.Apply,
  codes "apply",
  values_in (codes "FILE" ∷ codes "SCRIPT" ∷ []),
  codes "apply FILE SCRIPT",
)
syntax_of name.Export = (
  name.Export,
  codes "export",
  values_in (codes "FILE" ∷ codes "CUSTOMER" ∷ codes "NUMBER" ∷ []),
  codes "export FILE CUSTOMER NUMBER",
)
syntax_of name.Migrate =
    (name.Migrate, codes "migrate", values_in (codes "FILE" ∷ []), codes "migrate FILE")
syntax_of name.Serve = (
  name.Serve,
  codes "serve",
  values_in (codes "FILE" ∷ codes "PORT" ∷ codes "COUNT" ∷ []),
  codes "serve FILE PORT COUNT",
)

-- all subcommands
abbrev pub subcommands : List Subcommand
subcommands = name.Run ∷ name.Assemble ∷ name.Init ∷ name.Apply ∷ name.Export ∷ name.Migrate
    ∷ name.Serve ∷ []

-- the program by its arguments, with the table of its subcommands
abbrev pub bureau : Program Subcommand
bureau = record { name = codes "bureau"; subcommands = map syntax_of subcommands }

-- the argument that is the name of a subcommand
abbrev pub name_of : Subcommand → Text
name_of subcommand = (syntax_of subcommand).1

-- the names of a subcommand's values
abbrev pub values_of : Subcommand → List Text
values_of subcommand = map (λ value. value.0) (syntax_of subcommand).2
