-- the report of a source: its listing with code, or its faults
use Rattle.std.specs.Prelude.{ℕ, ◌≡◌, ⊤, List, [], ◌∷◌, ◌++◌, length}
use Rattle.std.specs.List.{flat_map}
use Rattle.cards.specs.declared.decks.Card.{Card}
use Rattle.autocoder_layout.specs.Source.{has_end}
use Rattle.autocoder_layout.specs.CardFaults.{faults_of}
use Rattle.autocoder_layout.specs.declared.card_faults.CardFault.{CardFault}
use Rattle.autocoder.specs.Programs.{laid_for, layout_for}
use Rattle.autocoder.specs.declared.faults.Faults.{Faults}
use Rattle.autocoder.specs.declared.faults.Faults.TheVariants.{Source, NoMemory}
use Rattle.autocoder_listings.specs.Listing.{listing_in}
use Rattle.autocoder_listings.specs.declared.widths.Width.{Width}
use Rattle.source_reports.specs.Blocks.{block, sum_line}
use Rattle.source_reports.specs.SourceColumns.{notice_of}

-- the faults of a source, in the order of its cards: those for which it has no program
abbrev pub faults_for : List Card → List CardFault
faults_for source = faults_of (has_end source) (layout_for source)

-- the blocks of these faults of a source
abbrev pub blocks_of : List Card → List CardFault → List ℕ
blocks_of source faults = flat_map (block (laid_for source) source) faults

-- the text of these faults of a source: what is told of the source as a whole, a block for each
-- fault, and the line of their sum
unfoldable pub text_of_faults : List Card → List CardFault → List ℕ
text_of_faults source faults =
    notice_of source ++ blocks_of source faults ++ sum_line faults (length source)

-- the text for a source with these faults: of a source without a fault its listing with code in a
-- width
abbrev pub text_by : Width → List Card → List CardFault → List ℕ
text_by width source [] = listing_in width source
text_by width source (fault ∷ faults) = text_of_faults source (fault ∷ faults)

-- the text of the report of a source in a width
unfoldable pub text_for : Width → List Card → List ℕ
text_for width source = text_by width source (faults_for source)

-- the report of a source tells these faults, which the assembler returns for it, in both widths
abbrev pub Tells : List Card → Faults → Type 0
Tells source (Source faulty) =
    (width : Width) → text_for width source ≡ text_of_faults source faulty.faults.items
Tells source NoMemory = ⊤
