-- what the program's arguments ask for
use Rattle.std.specs.Prelude.{◌≡◌, ◌⊎◌, List, [], ◌∷◌, Option, Some, None, codes, map, true, unwrap_or}
use Rattle.clap.specs.Words.{Row, Text, first_of}
use Rattle.command_line.specs.Plain.{ArePlain}
use Rattle.command_line.specs.Programs.{HasSubcommand, IsVersion, Wish, for_help, for_subcommand, for_version, has_help, is_clear}
use Rattle.command_line.specs.Subcommands.{bureau, name_of, values_of}
use Rattle.command_line.specs.declared.subcommands.Subcommand.{Subcommand}
use Rattle.command_line.specs.declared.subcommands.Subcommand.TheVariants as name
use Rattle.command_line.specs.declared.help.TheConstants.{APPLY_HELP, ASSEMBLE_HELP, EXPORT_HELP, HELP, INIT_HELP, MIGRATE_HELP, RUN_HELP, SERVE_HELP}

-- the arguments ask for the help of a subcommand, by `--help` or `-h` behind its name and before a
-- `--`, or for the whole help
abbrev pub IsHelp : Option Subcommand → List Text → Type 0
IsHelp None arguments = (arguments ≡ codes "--help" ∷ []) ⊎ (arguments ≡ codes "-h" ∷ [])
IsHelp (Some subcommand) arguments = (more : List Text)
    × (arguments ≡ name_of subcommand ∷ more) × (has_help more ≡ true)

-- the arguments are the subcommand's name and these values; no value begins with a hyphen, but for
-- `-` alone, unless `--` comes before the values
abbrev pub HasValues : Subcommand → List Text → List Text → Type 0
HasValues subcommand values arguments =
    ((arguments ≡ name_of subcommand ∷ values) × ArePlain arguments) ⊎ (arguments ≡ name_of subcommand ∷ codes "--" ∷ values)

-- the values that were found of a subcommand
abbrev pub values_found : List Row → Subcommand → List Text
values_found found subcommand = map (λ value. unwrap_or (first_of value found) []) (values_of subcommand)

-- the arguments ask for this: a help, the version, or a subcommand with its values
abbrev pub Asks : List Text → Wish Subcommand → Type 0
Asks arguments (for_help page) = IsHelp page arguments
Asks arguments for_version = IsVersion arguments
Asks arguments (for_subcommand subcommand found) = HasValues subcommand (values_found found subcommand) arguments

-- by the table the arguments are those of a subcommand with these values, none of which is read as
-- an option
pub record AreTaken (arguments : List Text) (subcommand : Subcommand) (values : List Text) : Type 0 where
  pub found : List Row
  pub clear : is_clear bureau arguments ≡ true
  pub has : HasSubcommand bureau arguments subcommand found
  pub are : values_found found subcommand ≡ values

-- ---- what is printed

-- the text of the help of a subcommand, or of the whole help
abbrev pub page_of : Option Subcommand → Text
page_of None = HELP.now
page_of (Some name.Run) = RUN_HELP.now
page_of (Some name.Assemble) = ASSEMBLE_HELP.now
page_of (Some name.Init) = INIT_HELP.now
page_of (Some name.Apply) = APPLY_HELP.now
page_of (Some name.Export) = EXPORT_HELP.now
page_of (Some name.Migrate) = MIGRATE_HELP.now
page_of (Some name.Serve) = SERVE_HELP.now
