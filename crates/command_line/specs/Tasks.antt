-- the tasks that arguments ask for, with their values read
use Rattle.std.specs.Prelude.{◌≡◌, ◌≢◌, ◌⊎◌, ◌<◌, ◌≤◌, ⊤, ℕ, List, [], ◌∷◌, codes, decimal}
use Rattle.clap.specs.Words.{Text}
use Rattle.core_store.specs.Storage.{positions_of}
use Rattle.core_store.specs.declared.Size.{Size}
use Rattle.core_store.specs.declared.Size.TheVariants.{Positions4000}
use Rattle.units.specs.Switches.{AreSeven}
use Rattle.units.specs.declared.Switches.{Switches}
use Rattle.command_line.specs.Asked.{HasValues, IsHelp}
use Rattle.command_line.specs.Programs.{IsMisread, IsVersion}
use Rattle.command_line.specs.Subcommands.{bureau}
use Rattle.command_line.specs.declared.mistakes.Mistake.{Mistake}
use Rattle.command_line.specs.declared.mistakes.Mistake.TheVariants.{Memory, Value}
use Rattle.command_line.specs.declared.subcommands.Subcommand.{Subcommand}
use Rattle.command_line.specs.declared.subcommands.Subcommand.TheVariants as name
use Rattle.texts.specs.Numbers.{IsNumberOf}
use Rattle.texts.specs.Switches.{text_of}
use Rattle.command_line.specs.declared.tasks.Input.TheVariants.{Standard, File}
use Rattle.command_line.specs.declared.tasks.Task.{Task}
use Rattle.command_line.specs.declared.tasks.Task.TheVariants.{Apply, Assemble, Export, Help, Init, Migrate, Run, Serve, Version}

-- a port's number: 1 to 65535
abbrev pub IsPort : ℕ → Type 0
IsPort number = (0 < number) × (number ≤ 65535)

-- a number of connections to serve: 1 to 1,000,000
abbrev pub IsCount : ℕ → Type 0
IsCount number = (0 < number) × (number ≤ 1000000)

-- the arguments ask for this task
abbrev pub Wants : List (List ℕ) → Task → Type 0
Wants arguments (Help subcommand) = IsHelp subcommand arguments
Wants arguments Version = IsVersion arguments
Wants arguments (Run Standard s w) = (arguments ≡ []) × (s ≡ Positions4000) × (text_of w ≡ codes "A")
Wants arguments (Run (File path) s w) =
    HasValues name.Run (path.now ∷ decimal (positions_of s) ∷ text_of w ∷ []) arguments × AreSeven w
Wants arguments (Assemble source out) =
    HasValues name.Assemble (source.now ∷ out.now ∷ []) arguments
Wants arguments (Init file) = HasValues name.Init (file.now ∷ []) arguments
Wants arguments (Apply file script) = HasValues name.Apply (file.now ∷ script.now ∷ []) arguments
Wants arguments (Export file customer number) =
    (text : List ℕ) × HasValues name.Export (file.now ∷ customer.now ∷ text ∷ []) arguments
    × IsNumberOf text number
Wants arguments (Migrate file) = HasValues name.Migrate (file.now ∷ []) arguments
Wants arguments (Serve file port count) =
    HasValues name.Serve (file.now ∷ decimal port ∷ decimal count ∷ []) arguments
    × IsPort port × IsCount count

-- the task is that of a subcommand with these values
abbrev pub WantsSubcommand : Subcommand → List Text → Task → Type 0
WantsSubcommand subcommand values (Help page) = ⊥
WantsSubcommand subcommand values Version = ⊥
WantsSubcommand subcommand values (Run Standard s w) = ⊥
WantsSubcommand subcommand values (Run (File path) s w) = (subcommand ≡ name.Run)
    × (values ≡ path.now ∷ decimal (positions_of s) ∷ text_of w ∷ []) × AreSeven w
WantsSubcommand subcommand values (Assemble source out) =
    (subcommand ≡ name.Assemble) × (values ≡ source.now ∷ out.now ∷ [])
WantsSubcommand subcommand values (Init file) = (subcommand ≡ name.Init) × (values ≡ file.now ∷ [])
WantsSubcommand subcommand values (Apply file script) =
    (subcommand ≡ name.Apply) × (values ≡ file.now ∷ script.now ∷ [])
WantsSubcommand subcommand values (Export file customer number) = (text : Text) × (subcommand ≡ name.Export)
    × (values ≡ file.now ∷ customer.now ∷ text ∷ []) × IsNumberOf text number
WantsSubcommand subcommand values (Migrate file) = (subcommand ≡ name.Migrate) × (values ≡ file.now ∷ [])
WantsSubcommand subcommand values (Serve file port count) = (subcommand ≡ name.Serve)
    × (values ≡ file.now ∷ decimal port ∷ decimal count ∷ []) × IsPort port × IsCount count

-- ---- what is wrong with arguments that ask for no task

-- this is said of the texts of a size and of switches: of the size if it is none, else of the
-- switches
abbrev pub IsValueMistake : Text → Text → Mistake → Type 0
IsValueMistake size switches (Value said) =
    ((said.now ≡ codes "SIZE must be 1400, 2000, 4000, 8000, 12000 or 16000")
    × ((s : Size) → size ≢ decimal (positions_of s)))
    ⊎ ((said.now ≡ codes "SWITCHES must be rising letters of ABCDEFG, or - for none")
    × ((s : Size) × (size ≡ decimal (positions_of s)))
    × ((w : Switches) → AreSeven w → switches ≢ text_of w))
IsValueMistake size switches _ = ⊥

-- this is said of the texts of a port and of a count: of the port if it is none, else of the count
abbrev pub IsServeMistake : Text → Text → Mistake → Type 0
IsServeMistake port count (Value said) =
    ((said.now ≡ codes "PORT must be a number from 1 to 65535")
    × ((p : ℕ) → IsPort p → port ≢ decimal p))
    ⊎ ((said.now ≡ codes "COUNT must be a number from 1 to 1000000")
    × ((p : ℕ) × IsPort p × (port ≡ decimal p))
    × ((c : ℕ) → IsCount c → count ≢ decimal c))
IsServeMistake port count _ = ⊥

-- this is wrong with the values of a subcommand
abbrev pub IsSubcommandMistake : Subcommand → List Text → Mistake → Type 0
IsSubcommandMistake name.Run (deck ∷ size ∷ switches ∷ []) mistake = IsValueMistake size switches mistake
IsSubcommandMistake name.Serve (file ∷ port ∷ count ∷ []) mistake = IsServeMistake port count mistake
IsSubcommandMistake _ _ _ = ⊥

-- the arguments are those of a subcommand, with this wrong in its values
pub record AreSubcommandArguments (arguments : List Text) (mistake : Mistake) : Type 0 where
  pub subcommand : Subcommand
  pub values : List Text
  pub are : HasValues subcommand values arguments
  pub is : IsSubcommandMistake subcommand values mistake

-- this is wrong with the arguments: a value of a subcommand, or they ask for nothing; or there was
-- no memory to read them
abbrev pub IsMistake : List Text → Mistake → Type 0
IsMistake arguments Memory = ⊤
IsMistake arguments (Value said) = AreSubcommandArguments arguments (Value said)
IsMistake arguments mistake = IsMisread bureau arguments mistake
