-- what the words behind the first may be: a count, an address, or switches
use Rattle.std.specs.Prelude.{ℕ, ◌≡◌, ◌≤◌, ◌<◌, nat_lt, List, length, decimal, MatchOption, Option, Some, None}
use Rattle.core_store.specs.Storage.{largest_size}
use Rattle.texts.specs.Switches.{AreSwitchesOf}
use Rattle.units.specs.declared.switches.Switches.{Switches}
use Rattle.run_traces.specs.Addresses.{NamesPosition}
use Rattle.run_traces.specs.Names.{Named}
use Rattle.console.specs.Words.{first_word, from_fourth, second_word, text_of, third_word}
use Rattle.console.specs.Verbs.{IsVerbOf}
use Rattle.console.specs.declared.readings.ParsedLine.{ParsedLine}
use Rattle.console.specs.declared.readings.Reading.{Reading}

-- the most instructions that a line asks for
abbrev pub most_asked : ℕ
most_asked = 1000000

-- a text is this count of instructions, in plain decimal
abbrev pub IsCountOf : List ℕ → ℕ → Type 0
IsCountOf text count = (0 < count) × (count ≤ most_asked) × (text ≡ decimal count)

-- a text is this position, in plain decimal
abbrev pub IsPositionOf : List ℕ → ℕ → Type 0
IsPositionOf text position = (position < largest_size) × (text ≡ decimal position)

-- a text names this address by the names of the source, where there are names
abbrev pub NamesAddress : Option Named → List ℕ → ℕ → Type 0
NamesAddress None text address = ⊥
NamesAddress (Some names) text address = NamesPosition names.slots text address

-- what a text may be, each where it is that: a count, a position, an address by its name, and
-- switches
pub record IsReadingOf (names : Option Named) (word : List ℕ) (reading : Reading) : Type 0 where
  pub given : reading.given ≡ nat_lt 0 (length word)
  pub count : MatchOption reading.count ((count : ℕ) → ¬ IsCountOf (text_of word) count)
      (IsCountOf (text_of word))
  pub position : MatchOption reading.position
      ((position : ℕ) → ¬ IsPositionOf (text_of word) position) (IsPositionOf (text_of word))
  pub named : MatchOption reading.named
      ((address : ℕ) → ¬ NamesAddress names (text_of word) address)
      (NamesAddress names (text_of word))
  pub switches : MatchOption reading.switches
      ((switches : Switches) → ¬ AreSwitchesOf (text_of word) switches)
      (AreSwitchesOf (text_of word))

-- what is parsed of a line: its verb, what its second and third word may be, and whether it has more
pub record IsParsedOf (names : Option Named) (line : List ℕ) (parsed : ParsedLine) : Type 0 where
  pub some : parsed.some ≡ nat_lt 0 (length (first_word line))
  pub verb : IsVerbOf (first_word line) parsed.verb
  pub first : IsReadingOf names (second_word line) parsed.first
  pub second : IsReadingOf names (third_word line) parsed.second
  pub long : parsed.long ≡ nat_lt 0 (length (from_fourth line))
