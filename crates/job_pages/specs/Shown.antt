-- what the page of a job shows
use Rattle.std.specs.Prelude.{ℕ, ◌∷◌, List, [], codes, map, Option, Some, None, option_map}
use Rattle.cards.specs.declared.Card.{Card}
use Rattle.cards.specs.Files.{text_of}
use Rattle.core_store.specs.declared.sizes.Size.{Size}
use Rattle.units.specs.declared.printer.Line.{Line}
use Rattle.units.specs.declared.punch.Punched.{Punched}
use Rattle.units.specs.declared.switches.Switches.{Switches}
use Rattle.machine.specs.Reports.{report_of, report_words}
use Rattle.machine.specs.Run.{State, lines_of}
use Rattle.autocoder_listings.specs.Listing.{listing_with_code_for}
use Rattle.loader.specs.Decks.{runnable_deck}
use Rattle.job_pages.specs.declared.pages.JobShown.{JobShown}

-- a job that was run, as its page shows it
pub record Shown : Type 0 where
  pub name : List ℕ
  -- what was handed in with its data, if it is a source
  pub source : Option (List Card)
  -- the deck that was run
  pub deck : List Card
  pub size : Size
  -- those of each start
  pub switches : List Switches
  -- how it stands: what the row is called that says so, and what it says
  pub row : List ℕ
  pub words : List ℕ
  pub lines : List Line
  pub cards : List Punched
  -- that of the program that makes the page
  pub version : List ℕ

-- what a page is asked to show
abbrev pub shown_as : JobShown → Shown
shown_as it = record {
  name = it.name.now;
  source = option_map (λ source. source.now) it.source;
  deck = it.deck.now;
  size = it.size;
  switches = it.switches.now;
  row = it.row.now;
  words = it.words.now;
  lines = it.lines.now;
  cards = it.cards.now;
  version = it.version.now;
}

-- what the page of a source shows that this machine has run
abbrev pub shown_after : List ℕ → List Card → State → Size → Switches → List ℕ → Shown
shown_after name source m size switches version = record {
  name = name;
  source = Some source;
  deck = runnable_deck source;
  size = size;
  switches = switches ∷ [];
  row = codes "end";
  words = report_words (report_of m);
  lines = lines_of m;
  cards = m.works.units.punch.cards;
  version = version;
}

-- punched cards, whatever their pockets
abbrev pub cards_of : List Punched → List Card
cards_of = map (λ (p : Punched). p.card)

-- the text of what was handed in: the listing of a source with its code, or else the deck's own
abbrev pub text_handed_in : Option (List Card) → List Card → List ℕ
text_handed_in (Some source) deck = listing_with_code_for source
text_handed_in None deck = text_of deck
