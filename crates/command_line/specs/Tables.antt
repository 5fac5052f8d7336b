-- commands of clap that are made from tables of subcommands
use Rattle.std.specs.Prelude.{◌≡◌, Bool, List, true, false, Some, fold}
use Rattle.clap.specs.Words.{App, Rule, Text, new_app, new_rule, with_rule, with_subcommand}
use Rattle.clap.specs.Simple.{on_top}
use Rattle.clap.specs.declared.builder.ArgAction.TheVariants.{Append, Set, SetTrue}
use Rattle.clap.specs.declared.builder.command.Command.{Command}
use Rattle.clap.specs.declared.builder.command.Command.TheViews.{out-Command}
use Rattle.command_line.specs.declared.tables.Kind.{Kind}
use Rattle.command_line.specs.declared.tables.Kind.TheVariants.{Value, Further, Several, Flag, Setting}

-- the rule of an argument with this name
abbrev pub rule_for : Text → Kind → Rule
rule_for id Value = record (new_rule id) { required = true; action = Some Set }
rule_for id Further = record (new_rule id) { action = Some Set }
rule_for id Several = record (new_rule id) { required = true; action = Some Append }
rule_for id Flag = record (new_rule id) { long = Some id; action = Some SetTrue }
rule_for id Setting = record (new_rule id) { long = Some id; action = Some Set }

-- whether an argument of this kind is an option
abbrev pub is_option : Kind → Bool
is_option Flag = true
is_option Setting = true
is_option other = false

-- whether a value of this kind cannot be left out
abbrev pub is_needed : Kind → Bool
is_needed Value = true
is_needed Several = true
is_needed other = false

-- whether a value of this kind may come on and on
abbrev pub is_several : Kind → Bool
is_several Several = true
is_several other = false

-- the command of a subcommand: its name, and its arguments in order
abbrev pub subcommand_app : Text → List (Text × Kind) → App
subcommand_app name arguments =
    fold (λ a argument. with_rule a (rule_for argument.0 argument.1)) (new_app name) arguments

-- the command with one more subcommand
abbrev pub with_subcommand_named : App → Text → List (Text × Kind) → App
with_subcommand_named a name arguments = with_subcommand a (subcommand_app name arguments).top

-- the command hands none of its own arguments down to its subcommands
abbrev pub IsLocal : Command → Type 0
IsLocal c = (out-Command c).has_globals ≡ false

-- the command of this name before it has subcommands, without clap's own help and without the
-- program's name in front
abbrev pub named : Text → App
named name = on_top (λ s. record s {
  no_binary_name = true;
  disable_help_flag = true;
  disable_help_subcommand = true;
}) (new_app name)
