-- the machine while the loading cards are run
use Rattle.std.specs.Prelude.{ℕ, ◌≡◌, ◌+◌, ◌*◌, ◌<◌, ◌≤◌, ◌==◌, List, [], ◌∷◌, ◌++◌, length, None, slice_set, false}
use Rattle.std.specs.List.{list_any}
use Rattle.cards.specs.declared.decks.Card.{Card}
use Rattle.core_store.specs.Storage.{Storage, blank_storage, positions_of, is_marked, cell_at}
use Rattle.core_store.specs.declared.sizes.Size.{Size}
use Rattle.core_store.specs.declared.registers.Compared.TheVariants.{Equal}
use Rattle.machine.specs.Run.{State, after, loaded}
use Rattle.machine.specs.declared.standings.Standing.TheVariants.{Running}
use Rattle.units.specs.declared.pockets.Pocket.TheVariants.{Normal}
use Rattle.units.specs.declared.profiles.Profile.{Profile}
use Rattle.units.specs.declared.switches.Switches.{Switches}
use Rattle.units.specs.Switches.{seven}
use Rattle.units.specs.Units.{nothing_made}
use Rattle.autocoder_layout.specs.declared.cells.Cell.{Cell}
use Rattle.autocoder.specs.Assembly.{Assembly}
use Rattle.loader.specs.Stretches.{stretches_of}
use Rattle.loader.specs.Cards.{loading_cards}

-- the positions of the word marks in 000 to 080 between two loading cards
abbrev pub loading_marks : List ℕ
loading_marks = 1 ∷ 40 ∷ 47 ∷ 54 ∷ 61 ∷ 68 ∷ 72 ∷ []

-- a storage with these positions filled
unfoldable pub filled_with : Storage → List Cell → Storage
filled_with s [] = s
filled_with s (c ∷ cells) = filled_with (slice_set s c.position (c.code, c.marked)) cells

-- a machine at the start of a program: the image in a storage that is else blank and unmarked, the
-- loading cards read, the data cards not, nothing punched or printed, no pocket chosen
abbrev pub at_the_start : List Cell → ℕ → List Card → Size → Switches → Profile → State
at_the_start image start data_cards size switches profile = record {
  works = record {
    storage = filled_with (blank_storage (positions_of size)) image;
    registers = record { i = start; a = start; b = 47; compare = Equal; overflow = false };
    units = record {
      hopper = record {
        deck = loading_cards image start ++ data_cards;
        taken = length (loading_cards image start);
      };
      before = nothing_made;
      punch = record { cards = []; chosen = Normal; profile = profile };
      printer = record {
        lines = [];
        carriage = record { form = 1; line = 1; waiting = None; channel_12 = false };
      };
      switches = seven switches;
    };
  };
  standing = Running;
}

-- how many instructions load an image: 11 of the boot card, 5 of each stretch's card, 1 of the last
abbrev pub instructions_to_load : List Cell → ℕ
instructions_to_load image = 11 + 5 * length (stretches_of image) + 1

-- a machine between two loading cards: it has loaded these positions and no others, has read so
-- many cards, and is about to run the instructions on the last
pub record IsBetweenCards (placed : List Cell) (read : ℕ) (size : Size) (m : State) : Type 0 where
  pub running : m.standing ≡ Running
  pub at_the_move : m.works.registers.i ≡ 40
  pub marks : (p : ℕ) → p ≤ 80 → is_marked m.works.storage p ≡ list_any (λ q. q == p) loading_marks
  pub program : (p : ℕ) → 80 < p →
      cell_at m.works.storage p ≡ cell_at (filled_with (blank_storage (positions_of size)) placed) p
  pub cards_read : m.works.units.hopper.taken ≡ read
  pub no_card : m.works.units.punch.cards ≡ []
  pub no_line : m.works.units.printer.lines ≡ []

-- the deck loads the program into any machine of either profile that is large enough, whatever data
-- cards follow
abbrev pub Loads : Assembly → List Card → Type 0
Loads program deck =
    (size : Size) (data_cards : List Card) (switches : Switches) (profile : Profile) →
    positions_of program.size ≤ positions_of size →
    after (loaded (deck ++ data_cards) size switches profile) (instructions_to_load program.image)
    ≡ at_the_start program.image program.start data_cards size switches profile
