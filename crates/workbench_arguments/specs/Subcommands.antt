-- the program's arguments
use Rattle.std.specs.Prelude.{[], ◌∷◌, ◌++◌, codes}
use Rattle.command_line.specs.Programs.{Program}
use Rattle.command_line.specs.declared.tables.Kind.TheVariants.{Value, Further, Several, Flag, Setting}
use Rattle.workbench_arguments.specs.declared.subcommands.Subcommand.{Subcommand}
use Rattle.workbench_arguments.specs.declared.subcommands.Subcommand.TheVariants as name

-- the program by its arguments, with the table of its subcommands: each with its name, its
-- arguments in order, by name, and how it is used
abbrev pub workbench : Program Subcommand
workbench = record {
  name = codes "workbench";
  subcommands = (
    name.Punch,
    codes "punch",
    (codes "IN", Value) ∷ (codes "OUT", Value) ∷ (codes "fold", Flag)
        ∷ (codes "tabs", Setting) ∷ (codes "signs", Setting) ∷ (codes "keep", Setting)
        ∷ (codes "empty", Setting) ∷ (codes "report", Flag) ∷ [],
    codes "punch IN OUT [--fold] [--tabs LIST] [--signs TABLE] [--keep COLUMN] "
        ++ codes "[--empty MODE] [--report]",
  )
      ∷ (
        name.List,
        codes "list",
        (codes "DECK", Value) ∷ (codes "ruler", Flag) ∷ (codes "punches", Flag) ∷ [],
        codes "list DECK [--ruler] [--punches]",
      )
      ∷ (
        name.Compare,
        codes "compare",
        (codes "ONE", Value) ∷ (codes "OTHER", Value) ∷ [],
        codes "compare ONE OTHER",
      )
      ∷ (
        name.Sequence,
        codes "sequence",
        (codes "IN", Value) ∷ (codes "OUT", Further) ∷ (codes "IDENT", Further)
            ∷ (codes "FIRST", Further) ∷ (codes "STEP", Further) ∷ [],
        codes "sequence IN [OUT IDENT FIRST STEP]",
      )
      ∷ (
        name.Convert,
        codes "convert",
        (codes "IN", Value) ∷ (codes "OUT", Value) ∷ (codes "FROM", Value) ∷ (codes "TO", Value)
            ∷ [],
        codes "convert IN OUT FROM TO",
      )
      ∷ (
        name.Cut,
        codes "cut",
        (codes "IN", Value) ∷ (codes "OUT", Value) ∷ (codes "FIRST", Value)
            ∷ (codes "LAST", Value) ∷ (codes "numbers", Flag) ∷ [],
        codes "cut IN OUT FIRST LAST [--numbers]",
      )
      ∷ (
        name.Source,
        codes "source",
        (codes "IN", Value) ∷ (codes "data", Flag) ∷ (codes "width", Setting) ∷ [],
        codes "source IN [--data] [--width 80|120]",
      )
      ∷ (
        name.Manifest,
        codes "manifest",
        (codes "FILE", Several) ∷ (codes "form", Setting) ∷ (codes "cards", Flag)
            ∷ (codes "check", Setting) ∷ [],
        codes "manifest FILE.. [--form FORM] [--cards] [--check KNOWN]",
      )
      ∷ (
        name.Intake,
        codes "intake",
        (codes "FOLDER", Value) ∷ (codes "OUT", Value) ∷ (codes "fold", Flag)
            ∷ (codes "tabs", Setting) ∷ (codes "signs", Setting) ∷ (codes "keep", Setting)
            ∷ (codes "empty", Setting) ∷ [],
        codes "intake FOLDER OUT [--fold] [--tabs LIST] [--signs TABLE] "
            ++ codes "[--keep COLUMN] [--empty MODE]",
      )
      ∷ (
        name.Trace,
        codes "trace",
        (codes "DECK", Value) ∷ (codes "SIZE", Value) ∷ (codes "SWITCHES", Value)
            ∷ (codes "from", Setting) ∷ (codes "count", Setting) ∷ (codes "stop", Setting)
            ∷ (codes "names", Setting) ∷ (codes "fields", Flag) ∷ [],
        codes "trace DECK SIZE SWITCHES [--from N] [--count N] [--stop ADDRESS] "
            ++ codes "[--names SOURCE] [--fields]",
      )
      ∷ (
        name.Dump,
        codes "dump",
        (codes "DECK", Value) ∷ (codes "SIZE", Value) ∷ (codes "SWITCHES", Value)
            ∷ (codes "after", Setting) ∷ (codes "stop", Setting) ∷ (codes "first", Setting)
            ∷ (codes "last", Setting) ∷ [],
        codes "dump DECK SIZE SWITCHES [--after N] [--stop ADDRESS] [--first N] [--last N]",
      )
      ∷ (
        name.Profile,
        codes "profile",
        (codes "DECK", Value) ∷ (codes "SIZE", Value) ∷ (codes "SWITCHES", Value)
            ∷ (codes "names", Setting) ∷ [],
        codes "profile DECK SIZE SWITCHES [--names SOURCE]",
      )
      ∷ (
        name.Console,
        codes "console",
        (codes "DECK", Value) ∷ (codes "SIZE", Value) ∷ (codes "SWITCHES", Value)
            ∷ (codes "names", Setting) ∷ [],
        codes "console DECK SIZE SWITCHES [--names SOURCE]",
      )
      ∷ (
        name.Card,
        codes "card",
        (codes "DECK", Value) ∷ (codes "N", Value) ∷ (codes "OUT", Value) ∷ [],
        codes "card DECK N OUT",
      )
      ∷ (
        name.Deck,
        codes "deck",
        (codes "DECK", Value) ∷ (codes "OUT", Value) ∷ (codes "title", Setting) ∷ [],
        codes "deck DECK OUT [--title TEXT]",
      )
      ∷ (
        name.Pages,
        codes "pages",
        (codes "LISTING", Value) ∷ (codes "OUT", Value) ∷ (codes "title", Setting) ∷ [],
        codes "pages LISTING OUT [--title TEXT]",
      )
      ∷ (
        name.Page,
        codes "page",
        (codes "SOURCE", Value) ∷ (codes "SIZE", Value) ∷ (codes "SWITCHES", Value)
            ∷ (codes "OUT", Value) ∷ (codes "title", Setting) ∷ [],
        codes "page SOURCE SIZE SWITCHES OUT [--title TEXT]",
      )
      ∷ (
        name.Film,
        codes "film",
        (codes "DECK", Value) ∷ (codes "SIZE", Value) ∷ (codes "SWITCHES", Value)
            ∷ (codes "OUT", Value) ∷ (codes "names", Setting) ∷ (codes "from", Setting)
            ∷ (codes "last", Setting) ∷ (codes "count", Setting) ∷ (codes "title", Setting) ∷ [],
        codes "film DECK SIZE SWITCHES OUT [--names SOURCE] [--from N] [--last N] "
            ++ codes "[--count N] [--title TEXT]",
      )
      ∷ (
        name.Code,
        codes "code",
        (codes "DECK", Value) ∷ (codes "SIZE", Value) ∷ (codes "OUT", Further)
            ∷ (codes "names", Setting) ∷ (codes "after", Setting) ∷ (codes "run", Flag)
            ∷ (codes "numbers", Flag) ∷ [],
        codes "code DECK SIZE [OUT] [--names SOURCE] [--after N] [--run] [--numbers]",
      )
      ∷ [];
}
