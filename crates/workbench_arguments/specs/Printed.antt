-- what the program prints of itself
use Rattle.std.specs.Prelude.{List, ℕ, Option, Some, None, codes}
use Rattle.command_line.specs.Versions.{version_of}
use Rattle.workbench_arguments.specs.declared.subcommands.Subcommand.{Subcommand}
use Rattle.workbench_arguments.specs.declared.subcommands.Subcommand.TheVariants as name
use Rattle.workbench_arguments.specs.declared.help.TheConstants.{CARD_HELP, CODE_HELP, COMPARE_HELP, CONSOLE_HELP, CONVERT_HELP, CUT_HELP, DECK_HELP, DUMP_HELP, FILM_HELP, HELP, INTAKE_HELP, LIST_HELP, MANIFEST_HELP, PAGE_HELP, PAGES_HELP, PROFILE_HELP, PUNCH_HELP, SEQUENCE_HELP, SOURCE_HELP, TRACE_HELP}

-- the text of the help of a subcommand, or of the whole help
abbrev pub page_of : Option Subcommand → List ℕ
page_of None = HELP.now
page_of (Some name.Punch) = PUNCH_HELP.now
page_of (Some name.List) = LIST_HELP.now
page_of (Some name.Compare) = COMPARE_HELP.now
page_of (Some name.Sequence) = SEQUENCE_HELP.now
page_of (Some name.Convert) = CONVERT_HELP.now
page_of (Some name.Cut) = CUT_HELP.now
page_of (Some name.Source) = SOURCE_HELP.now
page_of (Some name.Manifest) = MANIFEST_HELP.now
page_of (Some name.Intake) = INTAKE_HELP.now
page_of (Some name.Trace) = TRACE_HELP.now
page_of (Some name.Dump) = DUMP_HELP.now
page_of (Some name.Profile) = PROFILE_HELP.now
page_of (Some name.Console) = CONSOLE_HELP.now
page_of (Some name.Card) = CARD_HELP.now
page_of (Some name.Deck) = DECK_HELP.now
page_of (Some name.Pages) = PAGES_HELP.now
page_of (Some name.Page) = PAGE_HELP.now
page_of (Some name.Film) = FILM_HELP.now
page_of (Some name.Code) = CODE_HELP.now

-- the text of the version
abbrev pub version_text : List ℕ
version_text = version_of (codes "workbench")
