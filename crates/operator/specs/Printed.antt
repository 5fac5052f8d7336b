-- what the program prints of itself
use Rattle.std.specs.Prelude.{List, ℕ, Option, Some, None, codes}
use Rattle.command_line.specs.Versions.{version_of}
use Rattle.operator.specs.declared.subcommands.Subcommand.{Subcommand}
use Rattle.operator.specs.declared.subcommands.Subcommand.TheVariants as name
use Rattle.operator.specs.declared.help.TheConstants.{ARCHIVE_HELP, CHECK_HELP, CLASS_HELP, COPY_HELP, HELP, JOBS_HELP, JOIN_HELP, PART_HELP, RESTORE_HELP, VERIFY_HELP, WATCH_HELP, WORK_HELP}

-- the text of the help of a subcommand, or of the whole help
abbrev pub page_of : Option Subcommand → List ℕ
page_of None = HELP.now
page_of (Some name.Check) = CHECK_HELP.now
page_of (Some name.Jobs) = JOBS_HELP.now
page_of (Some name.Copy) = COPY_HELP.now
page_of (Some name.Part) = PART_HELP.now
page_of (Some name.Join) = JOIN_HELP.now
page_of (Some name.Archive) = ARCHIVE_HELP.now
page_of (Some name.Verify) = VERIFY_HELP.now
page_of (Some name.Restore) = RESTORE_HELP.now
page_of (Some name.Work) = WORK_HELP.now
page_of (Some name.Watch) = WATCH_HELP.now
page_of (Some name.Class) = CLASS_HELP.now

-- the text of the version
abbrev pub version_text : List ℕ
version_text = version_of (codes "operator")
