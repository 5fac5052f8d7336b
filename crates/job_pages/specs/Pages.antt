-- the page of a job
use Rattle.std.specs.Prelude.{ℕ, ◌==◌, if◌then◌else◌, List, ◌++◌, length, codes, Option, Some, None}
use Rattle.cards.specs.declared.Card.{Card}
use Rattle.card_forms.specs.Images.{images_of}
use Rattle.core_store.specs.declared.sizes.Size.{Size}
use Rattle.units.specs.declared.switches.Switches.{Switches}
use Rattle.units.specs.Listing.{rendered}
use Rattle.pictures.specs.Decks.{figures_from, stock_definition}
use Rattle.pictures.specs.Escapes.{escaped}
use Rattle.pictures.specs.Heads.{page_head, page_heading}
use Rattle.pictures.specs.Forms.{forms_of, sections}
use Rattle.pictures.specs.declared.styles.TheConstants.{CARD_STYLE, FIGURE_STYLE, FORM_STYLE}
use Rattle.job_pages.specs.declared.styles.TheConstants.{JOB_STYLE}
use Rattle.job_pages.specs.Facts.{facts}
use Rattle.job_pages.specs.Jobs.{ran}
use Rattle.job_pages.specs.Shown.{Shown, cards_of, shown_after, text_handed_in}

-- the style of a page
abbrev pub style : List ℕ
style = codes "<style>" ++ JOB_STYLE.now ++ FIGURE_STYLE.now ++ CARD_STYLE.now ++ FORM_STYLE.now
    ++ codes "</style>\n"

-- the head of a page, with the name of the job
abbrev pub job_head : List ℕ → List ℕ
job_head name = page_head name ++ style ++ page_heading name

-- what the part of a page is called that has what was handed in
abbrev pub part_name : Option (List Card) → List ℕ
part_name (Some source) = codes "Source"
part_name None = codes "Deck"

-- a text as a part of this name shows it
abbrev pub text_shown : List ℕ → List ℕ → List ℕ
text_shown name text = codes "<h2>" ++ name ++ codes "</h2><pre class=\"code\">\n" ++ escaped text
    ++ codes "</pre>\n"

-- forms in a box of their own, which a narrow screen moves sideways
abbrev pub boxed : List ℕ → List ℕ
boxed forms = codes "<div class=\"paper\">\n" ++ forms ++ codes "</div>\n"

-- the listing on its forms
abbrev pub listing_shown : List ℕ → List ℕ
listing_shown listing = codes "<h2>Listing</h2>\n"
    ++ (if length listing == 0 then codes "<p>Nothing was printed.</p>\n"
    else boxed (sections (forms_of listing)))

-- the stock of cards, and the figure of each
abbrev pub figures : List Card → List ℕ
figures cards = stock_definition ++ figures_from 1 (images_of cards)

-- the punched cards
abbrev pub cards_shown : List Card → List ℕ
cards_shown cards = codes "<h2>Punched cards</h2>\n" ++ (if length cards == 0
    then codes "<p>No card was punched.</p>\n"
    else figures cards)

-- the page of a job, with this text of what was handed in, this listing, and these punched cards
abbrev pub page_by : Shown → List ℕ → List ℕ → List Card → List ℕ
page_by it text listing cards = job_head it.name ++ facts it listing cards
    ++ text_shown (part_name it.source) text ++ listing_shown listing ++ cards_shown cards

-- the page that shows a job
abbrev pub page_showing : Shown → List ℕ
page_showing it =
    page_by it (text_handed_in it.source it.deck) (rendered it.lines) (cards_of it.cards)

-- the page of a job with a name: of its source, which is assembled and run on a machine of this
-- size with these switches
abbrev pub page_of : List ℕ → List Card → Size → Switches → List ℕ → List ℕ
page_of name source size switches version =
    page_showing (shown_after name source (ran source size switches) size switches version)
