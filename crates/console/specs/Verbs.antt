-- what a line begins with
use Rattle.std.specs.Prelude.{ℕ, ◌≡◌, ◌≢◌, List, codes, MatchOption, Option}
use Rattle.console.specs.declared.verbs.Verb.{Verb}
use Rattle.console.specs.declared.verbs.Verb.TheVariants.{Step, Go, Stop, Stops, Clear, Watch, Dump, Registers, Field, Cards, Lines, Start, Back, Help, End}

-- the word that each line begins with
abbrev pub name_of : Verb → List ℕ
name_of Step = codes "step"
name_of Go = codes "go"
name_of Stop = codes "stop"
name_of Stops = codes "stops"
name_of Clear = codes "clear"
name_of Watch = codes "watch"
name_of Dump = codes "dump"
name_of Registers = codes "registers"
name_of Field = codes "field"
name_of Cards = codes "cards"
name_of Lines = codes "lines"
name_of Start = codes "start"
name_of Back = codes "back"
name_of Help = codes "help"
name_of End = codes "end"

-- this is the verb that a word is, or none if it is none
abbrev pub IsVerbOf : List ℕ → Option Verb → Type 0
IsVerbOf word found =
    MatchOption found ((verb : Verb) → word ≢ name_of verb) (λ verb. word ≡ name_of verb)
