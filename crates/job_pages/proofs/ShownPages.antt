-- the page of a source that was run, part by part
use Rattle.std.proofs.Common.{◌≡◌, ◌∙◌, ℕ, List, [], ◌∷◌, Some, ap, codes}
use Rattle.cards.specs.declared.Card.{Card}
use Rattle.core_store.specs.declared.sizes.Size.{Size}
use Rattle.units.specs.Listing.{rendered}
use Rattle.units.specs.declared.printer.Line.{Line}
use Rattle.units.specs.declared.punch.Punched.{Punched}
use Rattle.units.specs.declared.switches.Switches.{Switches}
use Rattle.machine.specs.Reports.{report_of, report_words}
use Rattle.machine.specs.Run.{State, lines_of}
use Rattle.autocoder_listings.specs.Listing.{listing_with_code_for}
use Rattle.loader.specs.Decks.{runnable_deck}
use Rattle.job_pages.specs.Pages.{page_by, page_showing}
use Rattle.job_pages.specs.Shown.{Shown, cards_of, shown_after}

abbrev shown_with : List ℕ → List Card → Size → Switches → List ℕ → List Card → List ℕ → List Line → List Punched → Shown
shown_with name source size on version deck words lines cards = record {
  name = name;
  source = Some source;
  deck = deck;
  size = size;
  switches = on ∷ [];
  row = codes "end";
  words = words;
  lines = lines;
  cards = cards;
  version = version;
}

-- the page of what was run, whose parts are those of the source and of its machine
pub same_page : (name : List ℕ) (source : List Card) (m : State) (size : Size) (on : Switches) (version : List ℕ) (deck : List Card) (words code : List ℕ) (lines : List Line) (cards : List Punched)
    → deck ≡ runnable_deck source → words ≡ report_words (report_of m) → code ≡ listing_with_code_for source → lines ≡ lines_of m → cards ≡ m.works.units.punch.cards
    → page_by (shown_with name source size on version deck words lines cards) code (rendered lines) (cards_of cards) ≡ page_showing (shown_after name source m size on version)
same_page name source m size on version deck words code lines cards same_deck same_words same_code same_lines same_cards =
    ap (λ deck. page_by (shown_with name source size on version deck words lines cards) code (rendered lines) (cards_of cards)) same_deck
    ∙ ap (λ words. page_by (shown_with name source size on version (runnable_deck source) words lines cards) code (rendered lines) (cards_of cards)) same_words
    ∙ ap (λ code. page_by (shown_with name source size on version (runnable_deck source) (report_words (report_of m)) lines cards) code (rendered lines) (cards_of cards)) same_code
    ∙ ap (λ lines. page_by (shown_with name source size on version (runnable_deck source) (report_words (report_of m)) lines cards) (listing_with_code_for source) (rendered lines) (cards_of cards)) same_lines
    ∙ ap (λ cards. page_by (shown_with name source size on version (runnable_deck source) (report_words (report_of m)) (lines_of m) cards) (listing_with_code_for source) (rendered (lines_of m)) (cards_of cards)) same_cards
