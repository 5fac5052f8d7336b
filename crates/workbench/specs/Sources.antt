-- what is printed of a source
use Rattle.std.specs.Prelude.{ℕ, ◌+◌, Bool, true, false, List, [], ◌++◌, length, drop}
use Rattle.cards.specs.declared.Card.{Card}
use Rattle.autocoder_layout.specs.Source.{source_of}
use Rattle.autocoder_layout.specs.declared.card_faults.CardFault.{CardFault}
use Rattle.autocoder_listings.specs.declared.widths.Width.{Width}
use Rattle.card_forms.specs.Images.{images_of}
use Rattle.card_tools.specs.Listing.{listing_from}
use Rattle.card_tools.specs.declared.listing.ListOptions.{ListOptions}
use Rattle.source_reports.specs.Reports.{faults_for, text_for}

-- cards are listed without a ruler and without their punches
abbrev pub plain : ListOptions
plain = record { ruler = false; punches = false }

-- the listing of the cards behind the source of a deck, with their numbers in the deck
abbrev pub cards_behind : List Card → List ℕ
cards_behind deck = listing_from plain (length (source_of deck) + 1)
    (images_of (drop (length (source_of deck)) deck))

-- the same if it is asked for and the source has no faults
abbrev pub data_by : Bool → List CardFault → List Card → List ℕ
data_by true [] deck = cards_behind deck
data_by other faults deck = []

-- what is printed of the source of a deck: its report, and then the cards behind it
abbrev pub shown_of : Width → Bool → List Card → List ℕ
shown_of width with_data deck =
    text_for width (source_of deck) ++ data_by with_data (faults_for (source_of deck)) deck
