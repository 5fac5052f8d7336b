-- the deck that runs the program of a deck's source
use Rattle.std.specs.Prelude.{List, ◌++◌, length, drop}
use Rattle.cards.specs.declared.decks.Card.{Card}
use Rattle.autocoder_layout.specs.Source.{source_of}
use Rattle.autocoder.specs.Programs.{image_for, start_for}
use Rattle.loader.specs.Cards.{loading_cards}

-- the cards that load the program of a source
abbrev pub loading_cards_of : List Card → List Card
loading_cards_of source = loading_cards (image_for source) (start_for source)

-- the data of a deck: its cards after the source
abbrev pub data_of : List Card → List Card
data_of deck = drop (length (source_of deck)) deck

-- the deck that loads the program of a deck's source, and has the deck's data after the loading
-- cards
unfoldable pub runnable_deck : List Card → List Card
runnable_deck deck = loading_cards_of (source_of deck) ++ data_of deck
