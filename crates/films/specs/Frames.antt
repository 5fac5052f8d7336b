-- the frames of a film: what a film knows of a machine
use Rattle.std.specs.Prelude.{ℕ, ◌≡◌, ◌-◌, ◌==◌, Bool, if◌then◌else◌, List, [], ◌∷◌, length, map, take, drop, replicate, position, unwrap_or}
use Rattle.core_store.specs.Storage.{Storage, blank_storage}
use Rattle.units.specs.declared.printer.Line.{Line}
use Rattle.units.specs.declared.punch.Punched.{Punched}
use Rattle.units.specs.Pockets.{pocket_number}
use Rattle.units.specs.Units.{made_in_all}
use Rattle.machine.specs.Numbers.{compare_number, standing_number, waiting_number}
use Rattle.machine.specs.Run.{State, lines_of}
use Rattle.films.specs.Signs.{signs_on}
use Rattle.films.specs.declared.items.Shown.{Shown}
use Rattle.films.specs.declared.signs.Surface.TheVariants.{OnCard, OnPaper}

-- a printed line as a film shows it: its form and line, and the signs of its characters
pub record LineShown : Type 0 where
  pub form : ℕ
  pub line : ℕ
  pub signs : List ℕ

-- a punched card as a film shows it: the number of its pocket, and the signs of its characters
pub record CardShown : Type 0 where
  pub pocket : ℕ
  pub signs : List ℕ

-- a frame: the numbers of a machine, its storage, and the lines and cards that it has made since
-- the film begins
pub record Frame : Type 0 where
  pub numbers : List ℕ
  pub storage : Storage
  pub paper : List LineShown
  pub punched : List CardShown

-- how many numbers a frame has
abbrev pub number_count : ℕ
number_count = 14

-- whether an indicator is on, as a number
abbrev pub indicator_number : Bool → ℕ
indicator_number on = if on then 1 else 0

-- the numbers of a machine: of its registers, indicators and carriage, how many cards it has read,
-- the pocket chosen, its standing, and how many lines it has printed and cards punched in all
unfoldable pub numbers_of : State → List ℕ
numbers_of m = m.works.registers.i ∷ m.works.registers.a ∷ m.works.registers.b
    ∷ compare_number m.works.registers.compare
    ∷ indicator_number m.works.registers.overflow
    ∷ indicator_number m.works.units.printer.carriage.channel_12
    ∷ waiting_number m.works.units.printer.carriage.waiting
    ∷ m.works.units.printer.carriage.form ∷ m.works.units.printer.carriage.line
    ∷ m.works.units.hopper.taken ∷ pocket_number m.works.units.punch.chosen
    ∷ standing_number m.standing ∷ (made_in_all m.works.units).lines
    ∷ (made_in_all m.works.units).cards ∷ []

-- a printed line as it is shown
abbrev pub line_shown : Line → LineShown
line_shown l = record { form = l.form; line = l.line; signs = signs_on OnPaper l.codes }

-- a punched card as it is shown
abbrev pub card_shown : Punched → CardShown
card_shown p = record { pocket = pocket_number p.pocket; signs = signs_on OnCard p.card.0 }

-- the cards that a machine has punched
abbrev pub cards_of : State → List Punched
cards_of m = m.works.units.punch.cards

-- the frame of a machine, without the lines and cards before these numbers, from 0
unfoldable pub frame_of : ℕ → ℕ → State → Frame
frame_of first_line first_card m = record {
  numbers = numbers_of m;
  storage = m.works.storage;
  paper = map line_shown (drop first_line (lines_of m));
  punched = map card_shown (drop first_card (cards_of m));
}

-- all numbers, lines and cards of a machine, as shown
abbrev pub shown_of : State → Shown
shown_of m = record {
  numbers = numbers_of m;
  lines = length (lines_of m);
  cards = length (cards_of m);
}

-- the frame before a film: blank storage of so many positions, each number 0, no lines and no cards
abbrev pub nothing : ℕ → Frame
nothing size = record {
  numbers = replicate number_count 0;
  storage = blank_storage size;
  paper = [];
  punched = [];
}

-- the form on which a machine's carriage is
abbrev pub form_of : State → ℕ
form_of m = m.works.units.printer.carriage.form

-- how many lines a machine has printed before the first one on the form of its carriage
unfoldable pub lines_before : State → ℕ
lines_before m =
    unwrap_or (position (λ l. l.form == form_of m) (lines_of m)) (length (lines_of m))

-- how many cards a machine has punched before the last one
unfoldable pub cards_before : State → ℕ
cards_before m = length (cards_of m) - 1

-- a frame may come behind another one: both have as many numbers and positions, and the lines and
-- cards of the other are the first of its own
pub record ComesBehind (old new : Frame) : Type 0 where
  pub old_numbers : length old.numbers ≡ number_count
  pub numbers : length new.numbers ≡ number_count
  pub storage : length old.storage ≡ length new.storage
  pub paper : take (length old.paper) new.paper ≡ old.paper
  pub punched : take (length old.punched) new.punched ≡ old.punched
