-- the lines of a film's changes
use Rattle.std.specs.Prelude.{ℕ, zero, suc, ◌<◌, ◌≤◌, List, [], ◌++◌, length, Option}
use Rattle.machine.specs.Run.{State, after}
use Rattle.run_traces.specs.Names.{Named}
use Rattle.films.specs.Frames.{cards_before, lines_before}
use Rattle.films.specs.Texts.{first_line, step_line}
use Rattle.films.specs.declared.films.FilmError.{FilmError}
use Rattle.films.specs.declared.films.FilmError.TheVariants.{NoMemory, TooLong}

-- the lines of so many steps that a machine makes, by the names of a source
unfoldable pub step_lines : Option Named → ℕ → ℕ → State → ℕ → List ℕ
step_lines names lines cards m zero = []
step_lines names lines cards m (suc count) =
    step_lines names lines cards m count ++ step_line names lines cards (after m count)

-- the lines of the changes of a film, by the names of a source: the first frame of a machine, which
-- has the lines on the form of its carriage and the card punched last, and so many steps
unfoldable pub change_lines : Option Named → State → ℕ → List ℕ
change_lines names m steps = first_line (lines_before m) (cards_before m) m
    ++ step_lines names (lines_before m) (cards_before m) m steps

-- the most bytes that the changes of a film have
abbrev pub most_bytes : ℕ
most_bytes = 4000000

-- the changes of a film of so many steps are short enough
abbrev pub Fits : Option Named → State → ℕ → Type 0
Fits names m steps = length (change_lines names m steps) ≤ most_bytes

-- this is the greatest number of steps of which the changes are short enough, where those of as
-- many as are asked for are too long; it is 0 also where those of no step are short enough
pub record IsMost (names : Option Named) (m : State) (asked most : ℕ) : Type 0 where
  pub too_long : ¬ (Fits names m asked)
  pub fits : 0 < most → Fits names m most
  pub greatest : (other : ℕ) → Fits names m other → other ≤ most

-- why there is no film of a machine with as many steps as are asked for
abbrev pub IsHindered : Option Named → State → ℕ → FilmError → Type 0
IsHindered names m asked (TooLong steps) = IsMost names m asked steps
IsHindered names m asked NoMemory = Unit {0}
