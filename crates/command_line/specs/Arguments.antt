-- the arguments that are found after a subcommand's name
use Rattle.std.specs.Prelude.{◌≡◌, Bool, List, [], Option, Some, None, codes, option_map, unwrap_or}
use Rattle.std.specs.Borrow.{Bor}
use Rattle.std.specs.Str.{bytes_eq}
use Rattle.clap.specs.Words.{Row, Text, first_of, found_of, rows_of}
use Rattle.command_line.specs.declared.arguments.Found.{Found}

-- what was found of each argument
abbrev pub given : Found → List Row
given found = rows_of (found_of found.matches)

-- this is the value of an argument
abbrev pub HasArgument : Text → List Row → Text → Type 0
HasArgument id found text = first_of id found ≡ Some text

-- this is the value of an argument, if one was given
abbrev pub MayHaveArgument : Text → List Row → Option (Bor Text) → Type 0
MayHaveArgument id found text = first_of id found ≡ option_map (λ t. t.now) text

-- this is what the text of an option is read as, or this other where it is not given
abbrev pub ReadsOr : {X : Type 0} → (Text → X → Type 0) → X → Option Text → X → Type 0
ReadsOr Is other None value = value ≡ other
ReadsOr Is other (Some text) value = Is text value

-- this is what the text of an option is read as, if it is given
abbrev pub ReadsIf : {X : Type 0} → (Text → X → Type 0) → Option Text → Option X → Type 0
ReadsIf Is None value = value ≡ None
ReadsIf Is (Some text) None = ⊥
ReadsIf Is (Some text) (Some value) = Is text value

-- whether an option without a value was given
unfoldable pub has_flag : Text → List Row → Bool
has_flag id found = bytes_eq (unwrap_or (first_of id found) []) (codes "true")
