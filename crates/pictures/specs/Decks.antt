-- the page of a deck
use Rattle.std.specs.Prelude.{ℕ, ◌+◌, List, [], ◌∷◌, ◌++◌, codes, decimal}
use Rattle.card_forms.specs.declared.images.CardImage.{CardImage}
use Rattle.pictures.specs.Cards.{marks, stock}
use Rattle.pictures.specs.Escapes.{card_glyphs}
use Rattle.pictures.specs.Heads.{page_head, page_heading}
use Rattle.pictures.specs.declared.styles.TheConstants.{CARD_STYLE, DECK_STYLE, FIGURE_STYLE}

-- the stock of the cards, which shows nothing and which each figure uses
abbrev pub stock_definition : List ℕ
stock_definition =
    codes "<svg width=\"0\" height=\"0\" style=\"position:absolute\"><defs><g id=\"stock\">"
    ++ stock ++ codes "</g></defs></svg>\n"

-- the title of the figure of a card: its number and its glyphs
abbrev pub titled_by_number : ℕ → CardImage → List ℕ
titled_by_number number card = codes "<title>card " ++ decimal number ++ codes ": "
    ++ card_glyphs card ++ codes "</title>"

-- the number under a figure
abbrev pub captioned : ℕ → List ℕ
captioned number = codes "<figcaption>" ++ decimal number ++ codes "</figcaption>"

-- the figure of a card with this number
unfoldable pub figure : ℕ → CardImage → List ℕ
figure number card =
    codes "<figure><svg xmlns=\"http://www.w3.org/2000/svg\" viewBox=\"0 0 7375 3250\">"
    ++ titled_by_number number card ++ codes "<use href=\"#stock\"/>" ++ marks card
    ++ codes "</svg>" ++ captioned number ++ codes "</figure>\n"

-- the figures of cards that are numbered from this number on
unfoldable pub figures_from : ℕ → List CardImage → List ℕ
figures_from number [] = []
figures_from number (card ∷ cards) = figure number card ++ figures_from (number + 1) cards

-- the head of the page of a deck with a title
abbrev pub deck_head : List ℕ → List ℕ
deck_head title = page_head title ++ codes "<style>"
    ++ DECK_STYLE.now ++ FIGURE_STYLE.now ++ CARD_STYLE.now ++ codes "</style>"
    ++ page_heading title

-- the page of a deck with a title
abbrev pub deck_page_of : List ℕ → List CardImage → List ℕ
deck_page_of title deck = deck_head title ++ stock_definition ++ figures_from 1 deck
