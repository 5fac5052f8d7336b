-- a run whose lines are written and set aside while it goes on
use Rattle.std.specs.Prelude.{◌≡◌, ◌<◌, ℕ, List, length, Option}
use Rattle.cards.specs.Decks.{IsDeck}
use Rattle.cards.specs.Files.{text_of}
use Rattle.cards.specs.declared.Card.{Card}
use Rattle.core_store.specs.declared.sizes.Size.{Size}
use Rattle.units.specs.Listing.{HasListed, Unwritten}
use Rattle.units.specs.declared.printer.Line.{Line}
use Rattle.units.specs.declared.profiles.Profile.TheVariants.{Selecting}
use Rattle.units.specs.declared.punch.Punched.{Punched}
use Rattle.units.specs.declared.switches.Switches.{Switches}
use Rattle.machine.specs.Earlier.{IsBehind, with_earlier}
use Rattle.machine.specs.Run.{State, after, loaded}

-- the text is that of a deck with a card, and this is the machine that has loaded the deck, one with
-- stacker selection
pub record HasLoaded (text : List ℕ) (size : Size) (switches : Switches) (m : State) : Type 0 where
  pub deck : List Card
  pub is_deck : IsDeck deck
  pub has_card : 0 < length deck
  pub is_text : text ≡ text_of deck
  pub loads : m ≡ loaded deck size switches Selecting

-- a machine has run so many steps from its start: with the cards and lines in front that were set
-- aside it is the one after these steps; and what was written since the first of these is, with what
-- is not written yet, the listing of those lines
pub record HasRun (start : State) (steps : ℕ) (first now : Option (List ℕ)) (w : Unwritten)
    (m : State) : Type 0 where
  pub cards : List Punched
  pub lines : List Line
  pub behind : IsBehind cards lines m
  pub machine : with_earlier cards lines m ≡ after start steps
  pub listed : HasListed first now w lines
