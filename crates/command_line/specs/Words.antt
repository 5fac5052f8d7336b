-- the rows of words that the program takes, and which row some arguments spell
use Rattle.std.specs.Prelude.{◌≡◌, List, [], Option, length}
use Rattle.clap.specs.Words.{Text}
use Rattle.command_line.specs.Arguments.{given}
use Rattle.command_line.specs.Asked.{HasValues, IsHelp, values_found}
use Rattle.command_line.specs.Programs.{IsVersion}
use Rattle.command_line.specs.Subcommands.{values_of}
use Rattle.command_line.specs.declared.subcommands.Subcommand.{Subcommand}
use Rattle.command_line.specs.declared.spelled.Words.{Words}
use Rattle.command_line.specs.declared.spelled.Words.TheVariants as words

-- a row of words: no words, a help, the version, or a subcommand with its values
pub data Row : Type 0 where
  standard : Row
  help : Option Subcommand → Row
  version : Row
  subcommand : Subcommand → List Text → Row

-- the arguments are the words of this row
abbrev pub Spells : List Text → Row → Type 0
Spells arguments standard = arguments ≡ []
Spells arguments (help page) = IsHelp page arguments
Spells arguments version = IsVersion arguments
Spells arguments (subcommand name values) =
    (length values ≡ length (values_of name)) × HasValues name values arguments

-- the arguments are the words of this row, which is a help or the version
abbrev pub SpellsInPlace : List Text → Row → Type 0
SpellsInPlace arguments (help page) = IsHelp page arguments
SpellsInPlace arguments version = IsVersion arguments
SpellsInPlace arguments _ = ⊥

-- a row of words as the code has it
abbrev pub row_as : Words → Row
row_as words.Standard = standard
row_as (words.Help page) = help page
row_as words.Version = version
row_as (words.Subcommand name found) = subcommand name (values_found (given found) name)
