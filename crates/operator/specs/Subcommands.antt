-- the program's arguments
use Rattle.std.specs.Prelude.{[], ◌∷◌, codes}
use Rattle.command_line.specs.Programs.{Program}
use Rattle.command_line.specs.declared.tables.Kind.TheVariants.{Value, Further, Several, Flag, Setting}
use Rattle.operator.specs.declared.subcommands.Subcommand.{Subcommand}
use Rattle.operator.specs.declared.subcommands.Subcommand.TheVariants as name

-- the program by its arguments, with the table of its subcommands: each with its name, its
-- arguments in order, by name, and how it is used
abbrev pub operator : Program Subcommand
operator = record {
  name = codes "operator";
  subcommands = (name.Check, codes "check", (codes "FILE", Value) ∷ [], codes "check FILE")
      ∷ (
        name.Jobs,
        codes "jobs",
        (codes "FILE", Value) ∷ (codes "CUSTOMER", Further) ∷ [],
        codes "jobs FILE [CUSTOMER]",
      )
      ∷ (
        name.Copy,
        codes "copy",
        (codes "FILE", Value) ∷ (codes "NEW", Value) ∷ [],
        codes "copy FILE NEW",
      )
      ∷ (
        name.Part,
        codes "part",
        (codes "FILE", Value) ∷ (codes "NEW", Value) ∷ (codes "others", Flag)
            ∷ (codes "CUSTOMER", Several) ∷ [],
        codes "part FILE NEW [--others] CUSTOMER..",
      )
      ∷ (
        name.Join,
        codes "join",
        (codes "FIRST", Value) ∷ (codes "SECOND", Value) ∷ (codes "NEW", Value) ∷ [],
        codes "join FIRST SECOND NEW",
      )
      ∷ (
        name.Archive,
        codes "archive",
        (codes "FILE", Value) ∷ (codes "FOLDER", Value) ∷ (codes "pages", Flag) ∷ [],
        codes "archive FILE FOLDER [--pages]",
      )
      ∷ (
        name.Verify,
        codes "verify",
        (codes "FOLDER", Value) ∷ [],
        codes "verify FOLDER",
      )
      ∷ (
        name.Restore,
        codes "restore",
        (codes "FOLDER", Value) ∷ (codes "NEW", Value) ∷ [],
        codes "restore FOLDER NEW",
      )
      ∷ (
        name.Work,
        codes "work",
        (codes "PORT", Value) ∷ (codes "slice", Setting) ∷ (codes "rounds", Setting)
            ∷ (codes "pause", Setting) ∷ (codes "keep", Flag) ∷ [],
        codes "work PORT [--slice N] [--rounds N] [--pause SECONDS] [--keep]",
      )
      ∷ (
        name.Watch,
        codes "watch",
        (codes "PORT", Value) ∷ (codes "rounds", Setting) ∷ (codes "pause", Setting) ∷ [],
        codes "watch PORT [--rounds N] [--pause SECONDS]",
      )
      ∷ (
        name.Class,
        codes "class",
        (codes "PORT", Value) ∷ (codes "NAMES", Value) ∷ (codes "PAGE", Further)
            ∷ (codes "watch", Flag) ∷ (codes "pause", Setting) ∷ [],
        codes "class PORT NAMES [PAGE] [--watch] [--pause SECONDS]",
      )
      ∷ [];
}
