-- the numbers of faults of decks and cards
use Rattle.std.specs.Prelude.{ℕ}
use Rattle.cards.specs.declared.faults.DeckFault.{DeckFault}
use Rattle.cards.specs.declared.faults.DeckFault.TheVariants as deck
use Rattle.cards.specs.declared.faults.CardError.{CardError}
use Rattle.cards.specs.declared.faults.CardError.TheVariants as card

-- the number of the fault of a deck that takes no further card
abbrev pub deck_fault_number : DeckFault → ℕ
deck_fault_number deck.NoMemory = 1
deck_fault_number deck.TooManyCards = 33

-- the number of the error of a card in a file
abbrev pub card_error_number : CardError → ℕ
card_error_number card.NoMemory = 1
card_error_number card.Length = 30
card_error_number card.Glyph = 31
card_error_number card.Punches = 32
card_error_number card.TooManyCards = 33
