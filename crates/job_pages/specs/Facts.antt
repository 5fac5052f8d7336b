-- the table of a page: what was run, how it stands, and the digests
use Rattle.std.specs.Prelude.{ℕ, List, [], ◌∷◌, ◌++◌, length, codes, decimal, flat_map, Option, Some, None}
use Rattle.cards.specs.declared.Card.{Card}
use Rattle.cards.specs.Files.{punch_file_of, text_of}
use Rattle.core_store.specs.declared.sizes.Size.{Size}
use Rattle.core_store.specs.Storage.{positions_of}
use Rattle.units.specs.declared.switches.Switches.{Switches}
use Rattle.texts.specs.Digests.{digest_of}
use Rattle.texts.specs.Switches as switches
use Rattle.pictures.specs.Escapes.{escaped}
use Rattle.job_pages.specs.Shown.{Shown}

-- the beginning of a row, with its name
abbrev pub row_named : List ℕ → List ℕ
row_named name = codes "<tr><th>" ++ name ++ codes "</th><td>"

-- how many there are of something, what it is, and the digest of its bytes, at the end of a row
abbrev pub counted : ℕ → List ℕ → List ℕ → List ℕ
counted count what bytes = decimal count ++ what ++ codes ", SHA-256 <code>" ++ digest_of bytes
    ++ codes "</code></td></tr>\n"

-- the row of a deck, with the digest of its deck text
abbrev pub deck_fact : List ℕ → List Card → List ℕ
deck_fact name deck = row_named name ++ counted (length deck) (codes " cards") (text_of deck)

-- the row of what was handed in, if it is a source
abbrev pub source_fact : Option (List Card) → List ℕ
source_fact (Some source) = deck_fact (codes "source and data") source
source_fact None = []

-- the switches of the starts behind the first
abbrev pub further_words : List Switches → List ℕ
further_words = flat_map (λ on. codes ", then " ++ switches.text_of on)

-- the switches of all starts, in their order
abbrev pub starts_words : List Switches → List ℕ
starts_words [] = []
starts_words (on ∷ further) = switches.text_of on ++ further_words further

-- the row of the machine
abbrev pub machine_fact : Size → List Switches → List ℕ
machine_fact size starts = row_named (codes "machine") ++ decimal (positions_of size)
    ++ codes " positions, switches " ++ starts_words starts ++ codes "</td></tr>\n"

-- the row of how the job stands
abbrev pub standing_fact : List ℕ → List ℕ → List ℕ
standing_fact row words = row_named row ++ words ++ codes "</td></tr>\n"

-- the row of the listing of so many printed lines, with its digest
abbrev pub listing_fact : ℕ → List ℕ → List ℕ
listing_fact count listing = row_named (codes "listing") ++ counted count (codes " lines") listing

-- the row of the punched cards, with the digest of their punch file
abbrev pub punched_fact : List Card → List ℕ
punched_fact cards = row_named (codes "punch file")
    ++ counted (length cards) (codes " cards") (punch_file_of cards)

-- the row of what made the page
abbrev pub maker_fact : List ℕ → List ℕ
maker_fact version = row_named (codes "made by") ++ escaped version ++ codes "</td></tr>\n"

-- the table of a job with this listing and these punched cards
unfoldable pub facts : Shown → List ℕ → List Card → List ℕ
facts it listing cards = codes "<table>\n" ++ source_fact it.source
    ++ deck_fact (codes "deck that was run") it.deck ++ machine_fact it.size it.switches ++ standing_fact it.row it.words
    ++ listing_fact (length it.lines) listing ++ punched_fact cards ++ maker_fact it.version
    ++ codes "</table>\n"
