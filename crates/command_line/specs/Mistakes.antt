-- what a program of subcommands prints of arguments that ask for nothing, and its exit status
use Rattle.std.specs.Prelude.{List, [], ◌∷◌, ◌++◌, Option, Some, None, ℕ, codes, option_map}
use Rattle.std.specs.declared.io.ErrorKind.{ErrorKind}
use Rattle.std.specs.declared.io.ErrorKind.TheVariants.{OutOfMemory}
use Rattle.cards.specs.Files.{line_feed}
use Rattle.command_line.specs.Misuses.{Misuse, misuse_as, missing, no_option, no_value, of_options, too_many}
use Rattle.command_line.specs.Printed.{fault_words}
use Rattle.command_line.specs.declared.faults.Fault.TheVariants as fault
use Rattle.command_line.specs.declared.mistakes.Mistake.{Mistake}
use Rattle.command_line.specs.declared.mistakes.Mistake.TheVariants.{Memory, NoText, Nothing, Subcommand, Arguments, Hyphen, Value}
use Rattle.command_line.specs.declared.statuses.Status.{Status}
use Rattle.command_line.specs.declared.statuses.Status.TheVariants.{NotDone, Misused}

-- the mistake of a process whose arguments cannot be read, by the kind of its error
abbrev pub mistake_of : ErrorKind → Mistake
mistake_of OutOfMemory = Memory
mistake_of _ = NoText

-- the line on an argument that names nothing of a kind, with the name that it nearly is behind the
-- mark of such names
abbrev pub name_line : List ℕ → List ℕ → List ℕ → List ℕ → Option (List ℕ) → List ℕ
name_line program argument kind mark (Some name) = program ++ (codes ": `" ++ (argument
    ++ (codes "` is no " ++ (kind ++ (codes "; did you mean `" ++ (mark ++ (name
    ++ codes "`?\n")))))))
name_line program argument kind mark None =
    program ++ (codes ": `" ++ (argument ++ (codes "` is no " ++ (kind ++ codes "\n"))))

-- the line on what is wrong with the arguments of a subcommand
abbrev pub misuse_line : List ℕ → Misuse → List ℕ
misuse_line program (no_option argument near) =
    name_line program argument (codes "option of the subcommand") (codes "--") near
misuse_line program (no_value name) =
    program ++ (codes ": `--" ++ (name ++ codes "` has no value behind it\n"))
misuse_line program (too_many argument) =
    program ++ (codes ": `" ++ (argument ++ codes "` is one argument too many\n"))
misuse_line program (missing name) = program ++ (codes ": " ++ (name ++ codes " is missing\n"))
misuse_line program of_options =
    program ++ codes ": an option is given twice, or with a value that it does not take\n"

-- the line on what is wrong with the arguments
abbrev pub complaint_line : List ℕ → Mistake → List ℕ
complaint_line program Memory = program ++ codes ": no memory to read the arguments\n"
complaint_line program NoText = program ++ codes ": an argument is not UTF-8 text\n"
complaint_line program Nothing = program ++ codes ": there is no subcommand\n"
complaint_line program (Subcommand argument near) =
    name_line program argument.now (codes "subcommand") [] (option_map (λ name. name.now) near)
complaint_line program (Arguments it usage) = misuse_line program (misuse_as it)
complaint_line program (Hyphen argument usage) = program ++ (codes ": `" ++ (argument.now
    ++ codes "` begins with a hyphen; put `--` before the values if it is one\n"))
complaint_line program (Value said) = program ++ (codes ": " ++ (said.now ++ codes "\n"))

-- how the subcommand is used that the arguments begin with, where they are not used so
abbrev pub usage_of : Mistake → Option (List ℕ)
usage_of (Arguments it usage) = Some usage.now
usage_of (Hyphen argument usage) = Some usage.now
usage_of other = None

-- the line on how the arguments should be: those of the subcommand, or how all subcommands are
-- listed
abbrev pub usage_shown : List ℕ → Option (List ℕ) → List ℕ
usage_shown program (Some usage) = codes "usage: "
    ++ (program ++ (codes " " ++ (usage ++ codes "; --help after its name has an example\n")))
usage_shown program None = codes "usage: "
    ++ (program ++ (codes " SUBCOMMAND ARGUMENTS..; " ++ (program ++ codes " --help lists them\n")))

-- the line on how the arguments should be where this is wrong
abbrev pub usage_line : List ℕ → Mistake → List ℕ
usage_line program mistake = usage_shown program (usage_of mistake)

-- what is printed: the fault of memory, or else both lines
abbrev pub mistake_message : List ℕ → Mistake → List ℕ
mistake_message program Memory = fault_words fault.Memory ++ line_feed ∷ []
mistake_message program mistake = complaint_line program mistake ++ usage_line program mistake

-- the exit status
abbrev pub mistake_status : Mistake → Status
mistake_status Memory = NotDone
mistake_status other = Misused
