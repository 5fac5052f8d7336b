-- what is wrong with the arguments after a subcommand's name
use Rattle.std.specs.Prelude.{◌==◌, ◌&&◌, Bool, true, false, if◌then◌else◌, List, [], ◌∷◌, ℕ, Option, Some, None, codes, drop, find, is_some, map, not, option_map, position, slice_index_or, take, unwrap_or}
use Rattle.std.specs.Borrow.{Bor}
use Rattle.std.specs.Str.{bytes_eq}
use Rattle.clap.specs.Words.{Text}
use Rattle.command_line.specs.Near.{is_near}
use Rattle.command_line.specs.Plain.{is_odd}
use Rattle.command_line.specs.Tables.{is_needed, is_option, is_several}
use Rattle.command_line.specs.declared.misuses.Misuse as code
use Rattle.command_line.specs.declared.misuses.Misuse.TheVariants as said
use Rattle.command_line.specs.declared.places.Place as reading
use Rattle.command_line.specs.declared.tables.Kind.{Kind}
use Rattle.command_line.specs.declared.tables.Kind.TheVariants.{Setting}

-- the arguments of a subcommand by their names, each with its kind
abbrev pub Arguments : Type 0
Arguments = List (Text × Kind)

-- an argument, and arguments, as the code has them
abbrev pub argument_as : Bor Text × Kind → Text × Kind
argument_as argument = (argument.0.now, argument.1)

abbrev pub arguments_as : List (Bor Text × Kind) → Arguments
arguments_as arguments = map (λ g. (g.0.now, g.1)) arguments

-- ---- options, as they are written

-- what is behind two hyphens
abbrev pub behind_hyphens : Text → Option Text
behind_hyphens word = if bytes_eq (take 2 word) (codes "--") then Some (drop 2 word) else None

-- a text up to a place
abbrev pub up_to : Option ℕ → Text → Text
up_to None text = text
up_to (Some place) text = take place text

-- the byte of a `=`
abbrev pub equals : ℕ
equals = slice_index_or (codes "=") 0 0

-- where a text has a `=`, behind which an option may have its value
abbrev pub equals_in : Text → Option ℕ
equals_in text = position (λ byte. byte == equals) text

-- a text up to its `=`
abbrev pub name_in : Text → Text
name_in text = up_to (equals_in text) text

-- the name that is meant by an argument that is no option: what is behind two hyphens up to a `=`,
-- or else the argument
abbrev pub bare_name : Text → Text
bare_name word = unwrap_or (option_map name_in (behind_hyphens word)) word

-- whether the argument is the option with this name
abbrev pub is_named : Text → Text × Kind → Bool
is_named name argument = is_option argument.1 && bytes_eq argument.0 name

-- the option with this name
abbrev pub option_named : Arguments → Text → Option (Text × Kind)
option_named arguments name = find (is_named name) arguments

-- the option of this name, where it was written with two hyphens
abbrev pub option_in : Arguments → Option Text → Option (Text × Kind)
option_in arguments None = None
option_in arguments (Some text) = option_named arguments (name_in text)

-- whether the argument is an option with nearly this name
abbrev pub is_nearly : Text → Text × Kind → Bool
is_nearly name argument = is_option argument.1 && is_near argument.0 name

-- the first option with nearly this name
abbrev pub near_option : Arguments → Text → Option Text
near_option arguments name = option_map (λ one. one.0) (find (is_nearly name) arguments)

-- whether an option of this kind has its value in the next argument where it is written so
abbrev pub awaits_value : Kind → Text → Bool
awaits_value Setting word = not (is_some (equals_in word))
awaits_value other word = false

-- the name of an option, if it awaits its value where it is written so
abbrev pub awaited_by : Text → Kind → Text → Option Text
awaited_by name kind word = if awaits_value kind word then Some name else None

-- ---- values, in their places

-- the next value that may come, and the arguments behind it
unfoldable pub next_value : Arguments → Option (Text × Kind × Arguments)
next_value [] = None
next_value (one ∷ more) = if is_option one.1 then next_value more else Some (one.0, one.1, more)

-- ---- what is told

-- what is wrong with arguments
pub data Misuse : Type 0 where
  no_option : Text → Option Text → Misuse
  no_value : Text → Misuse
  too_many : Text → Misuse
  missing : Text → Misuse
  of_options : Misuse

-- the same as the code has it
abbrev pub misuse_as : code.Misuse → Misuse
misuse_as (said.NoOption word near) = no_option word.now (option_map (λ name. name.now) near)
misuse_as (said.NoValue name) = no_value name.now
misuse_as (said.TooMany word) = too_many word.now
misuse_as (said.Missing name) = missing name.now
misuse_as said.OfOptions = of_options

-- how far arguments are read: those that may still come, whether the last value may come again, the
-- option whose value is the next argument, and whether `--` has come
pub record Place : Type 0 where
  pub to_come : Arguments
  pub goes_on : Bool
  pub awaited : Option Text
  pub is_behind : Bool

-- the same as the code has it
abbrev pub place_as : reading.Place → Place
place_as place = record {
  to_come = arguments_as place.to_come.now;
  goes_on = place.goes_on;
  awaited = option_map (λ name. name.now) place.awaited;
  is_behind = place.is_behind;
}

-- what an argument makes of a place: reading goes on from another one, or this is wrong
pub data Step : Type 0 where
  onward : Place → Step
  wrong : Misuse → Step

-- the argument is the value that comes next, if one may come
abbrev pub with_next : Option (Text × Kind × Arguments) → Place → Text → Step
with_next None place word = wrong (too_many word)
with_next (Some (name, kind, more)) place word =
    onward (record place { to_come = more; goes_on = is_several kind })

-- the argument is a value
abbrev pub with_value : Place → Text → Step
with_value place word =
    if place.goes_on then onward place else with_next (next_value place.to_come) place word

-- the argument is this option, if it is one
abbrev pub with_known : Option (Text × Kind) → Arguments → Place → Text → Step
with_known None all place word =
    wrong (no_option word (near_option all (bare_name word)))
with_known (Some (name, kind)) all place word =
    onward (record place { awaited = awaited_by name kind word })

-- the argument begins with a hyphen
abbrev pub with_option : Arguments → Place → Text → Step
with_option all place word = with_known (option_in all (behind_hyphens word)) all place word

-- the argument is the value of this option
abbrev pub with_awaited : Text → Place → Text → Step
with_awaited name place word =
    if is_odd word then wrong (no_value name) else onward (record place { awaited = None })

-- the argument is a value, an option or `--`
abbrev pub with_any : Arguments → Place → Text → Step
with_any all place word =
    if bytes_eq word (codes "--") then onward (record place { is_behind = true })
    else if is_odd word then with_option all place word else with_value place word

-- the argument comes before a `--`, where this option may await its value
abbrev pub with_before : Option Text → Arguments → Place → Text → Step
with_before None all place word = with_any all place word
with_before (Some name) all place word = with_awaited name place word

-- what the next argument makes of a place
abbrev pub step : Arguments → Place → Text → Step
step all place word = if place.is_behind then with_value place word
    else with_before place.awaited all place word

-- the value that comes next is missing, if it cannot be left out; else it is the options that are
-- wrong: one comes twice, or has a value that it does not take
abbrev pub lacks_value : Text → Kind → Misuse
lacks_value name kind = if is_needed kind then missing name else of_options

-- the value that comes next is missing, if one may come
abbrev pub lacks : Option (Text × Kind × Arguments) → Misuse
lacks None = of_options
lacks (Some (name, kind, more)) = lacks_value name kind

-- what is wrong where no argument is left
abbrev pub at_end : Option Text → Arguments → Misuse
at_end None to_come = lacks (next_value to_come)
at_end (Some name) to_come = no_value name

-- what is wrong behind a step
abbrev pub after_step : Step → (Place → Misuse) → Misuse
after_step (onward place) next = next place
after_step (wrong misuse) next = misuse

-- the first thing that is wrong from a place on
unfoldable pub misuse_from : Arguments → Place → List Text → Misuse
misuse_from all place [] = at_end place.awaited place.to_come
misuse_from all place (word ∷ more) =
    after_step (step all place word) (λ next. misuse_from all next more)

-- the place before the arguments of a subcommand
abbrev pub beginning : Arguments → Place
beginning all = record { to_come = all; goes_on = false; awaited = None; is_behind = false }

-- the first thing that is wrong with the arguments after the name of a subcommand that has these
abbrev pub misuse : Arguments → List Text → Misuse
misuse all arguments = misuse_from all (beginning all) arguments
