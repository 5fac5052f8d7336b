-- the machines of which a film can be read, and what is read of it
use Rattle.std.specs.Prelude.{ℕ, ◌≡◌, ◌+◌, ◌<◌, ◌≤◌, List, length, take, All}
use Rattle.cards.specs.Decks.{largest_deck}
use Rattle.machine.specs.Ranges.{IsInRange}
use Rattle.machine.specs.Run.{State, after}
use Rattle.films.specs.Changes.{all_played}
use Rattle.films.specs.Frames.{cards_before, frame_of, lines_before, nothing}
use Rattle.films.specs.Reading.{changes_read}

-- a machine is in range, has at most 2,000 cards in its reader, and has one of the 64 characters at
-- each position of its storage
pub record IsReadable (m : State) : Type 0 where
  pub range : IsInRange m
  pub few : length m.works.units.hopper.deck ≤ largest_deck
  pub characters : All (λ cell. cell.0 < 64) m.works.storage

-- a text shows a machine and so many steps: of the changes that are read of it the first and n
-- more, played one after the other on nothing, give the frame of the machine after n steps
abbrev pub Shows : List ℕ → State → ℕ → Type 0
Shows text m steps = (n : ℕ) → n ≤ steps →
    all_played (nothing (length m.works.storage)) (take (n + 1) (changes_read text))
    ≡ frame_of (lines_before m) (cards_before m) (after m n)
