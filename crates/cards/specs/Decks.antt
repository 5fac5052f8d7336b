-- cards and decks
use Rattle.std.specs.Prelude.{ℕ, ◌≡◌, ◌<◌, ◌≤◌, List, length, flat_map, All}
use Rattle.cards.specs.declared.decks.Card.{Card}

-- the number of columns of a card
abbrev pub card_columns : ℕ
card_columns = 80

-- the most cards of a deck
abbrev pub largest_deck : ℕ
largest_deck = 2000

-- each of these is the number of one of the 64 characters
abbrev pub AreCharacters : List ℕ → Type 0
AreCharacters columns = All (λ code. code < 64) columns

-- a card: 80 columns, each with one of the 64 characters
abbrev pub IsCard : Card → Type 0
IsCard card = (length card.0 ≡ card_columns) × AreCharacters card.0

-- a deck: at most 2,000 cards
abbrev pub IsDeck : List Card → Type 0
IsDeck deck = (length deck ≤ largest_deck) × All IsCard deck

-- the bytes of a deck: 80 for each card, each the number of a column's character
abbrev pub deck_bytes : List Card → List ℕ
deck_bytes = flat_map (λ card. card.0)
