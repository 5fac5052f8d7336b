-- the text of a film
use Rattle.std.specs.Prelude.{ℕ, zero, suc, ◌≡◌, ◌+◌, ◌-◌, ◌≤◌, min, if◌then◌else◌, List, [], ◌∷◌, ◌++◌, length, codes, decimal, slice_get, Option, Some, None}
use Rattle.cards.specs.Files.{line_feed}
use Rattle.cards.specs.declared.decks.Card.{Card}
use Rattle.autocoder.specs.Listing.{fills}
use Rattle.autocoder_layout.specs.declared.slots.Slot.{Slot}
use Rattle.check_causes.specs.Causes.{cause}
use Rattle.check_causes.specs.declared.causes.Cause.{Cause}
use Rattle.machine.specs.Reports.{report_of}
use Rattle.machine.specs.Run.{State, after, attempts, is_checked, most_instructions}
use Rattle.machine.specs.Standings.{standing_of}
use Rattle.run_traces.specs.Names.{Named}
use Rattle.films.specs.Signs.{signs_on}
use Rattle.films.specs.Steps.{IsHindered, change_lines, most_bytes}
use Rattle.films.specs.declared.films.Film.{Film}
use Rattle.films.specs.declared.films.FilmError.{FilmError}
use Rattle.films.specs.declared.films.FilmOptions.{FilmOptions}
use Rattle.films.specs.declared.signs.Surface.TheVariants.{OnCard}

-- ---- the lines before the changes

-- the line of a storage's size, and that of how many instructions came before the first frame
abbrev pub size_lines : ℕ → ℕ → List ℕ
size_lines size made = codes "Z " ++ decimal size ++ codes "\nN " ++ decimal made ++ line_feed ∷ []

-- the position of a card's first character, if it fills positions
abbrev pub place_word : Slot → List ℕ
place_word slot = if fills slot.role then decimal slot.before else codes "-"

-- the line of a card of a source: its place, and its characters
unfoldable pub source_line : Slot → Card → List ℕ
source_line slot card =
    codes "S " ++ place_word slot ++ codes " " ++ signs_on OnCard card.0 ++ line_feed ∷ []

-- the lines of the cards of a source, with their slots
unfoldable pub source_lines : List Card → List Slot → List ℕ
source_lines [] slots = []
source_lines (card ∷ cards) [] = []
source_lines (card ∷ cards) (slot ∷ slots) = source_line slot card ++ source_lines cards slots

-- the lines of a source, where one is given
abbrev pub named_lines : Option Named → List ℕ
named_lines None = []
named_lines (Some names) = source_lines names.cards names.slots

-- the line of a card of a deck with this number, if the deck has it
abbrev pub deck_line : ℕ → Option Card → List ℕ
deck_line number None = []
deck_line number (Some card) =
    codes "R " ++ decimal number ++ codes " " ++ signs_on OnCard card.0 ++ line_feed ∷ []

-- the lines of so many cards of a deck, from the one with this number on, from 1
unfoldable pub deck_lines : List Card → ℕ → ℕ → List ℕ
deck_lines deck first zero = []
deck_lines deck first (suc count) = deck_lines deck first count
    ++ deck_line (first + count) (slice_get deck (first + count - 1))

-- the lines of the cards of a deck that a film shows: from the one with this number, which is read
-- last when it begins, to the one behind that which is read last when it ends
abbrev pub reader_lines : ℕ → State → List ℕ
reader_lines taken end = deck_lines end.works.units.hopper.deck taken
    (end.works.units.hopper.taken + 2 - taken)

-- the lines before the changes, of a machine at the end of a film that began after so many
-- instructions, when so many cards had been read, by the names of a source
abbrev pub text_before : Option Named → ℕ → ℕ → State → List ℕ
text_before names made taken end = size_lines (length end.works.storage) made
    ++ named_lines names ++ reader_lines taken end

-- the text of a film of so many steps of a machine, which had made so many before, by the names of
-- a source
unfoldable pub film_text : Option Named → ℕ → State → ℕ → List ℕ
film_text names made m steps =
    text_before names made m.works.units.hopper.taken (after m steps) ++ change_lines names m steps

-- ---- which steps a film has

-- how many instructions are passed over before a film
abbrev pub passed_over : FilmOptions → ℕ
passed_over options = min (options.from - 1) most_instructions

-- the machine with which a film begins, of a machine that has made no step
abbrev pub begun : FilmOptions → State → State
begun options m = after m (passed_over options)

-- how many steps a film has at most: no more than a whole run
abbrev pub most_steps : FilmOptions → ℕ
most_steps options = min options.count (most_instructions - passed_over options)

-- how many steps come behind those, to the end of a whole run
abbrev pub rest_of : FilmOptions → ℕ
rest_of options = most_instructions - passed_over options - most_steps options

-- how many steps a film has: as many as are asked for, but none behind the first halt or check
abbrev pub steps_of : FilmOptions → State → ℕ
steps_of options m = attempts (begun options m) (most_steps options)

-- the machine at the end of a film
abbrev pub ended : FilmOptions → State → State
ended options m = after (begun options m) (steps_of options m)

-- the cause of the check that a machine is at, if it is at one
abbrev pub end_cause : State → Option Cause
end_cause m = if is_checked m.standing then cause m.works else None

-- this is the film of a machine's run, by the names of a source
pub record IsFilm (names : Option Named) (options : FilmOptions) (m : State) (film : Film) : Type 0
  where
    pub text : film.text.items
        ≡ film_text names (attempts m (passed_over options)) (begun options m) (steps_of options m)
    pub short : length (change_lines names (begun options m) (steps_of options m)) ≤ most_bytes
    pub made : film.made ≡ attempts m (passed_over options)
    pub steps : film.steps ≡ steps_of options m
    pub standing : film.standing ≡ standing_of (ended options m)
    pub cause : film.cause ≡ end_cause (ended options m)
    pub instructions : film.instructions ≡ attempts m most_instructions
    pub report : film.report ≡ report_of (after m most_instructions)

-- why there is no film of a machine's run, by the names of a source
abbrev pub IsHinderedAt : Option Named → FilmOptions → State → FilmError → Type 0
IsHinderedAt names options m error =
    IsHindered names (begun options m) (steps_of options m) error
