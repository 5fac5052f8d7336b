-- texts of decks, and the rules that leave them as they are
use Rattle.std.specs.Prelude.{ℕ, ◌≡◌, List, None}
use Rattle.cards.specs.declared.decks.Card.{Card}
use Rattle.cards.specs.Decks.{IsDeck}
use Rattle.cards.specs.Files.{text_of}
use Rattle.card_texts.specs.declared.rules.Rules.{Rules}
use Rattle.card_texts.specs.declared.rules.Signs.TheVariants.{Bureau}
use Rattle.card_texts.specs.declared.rules.EmptyLine.TheVariants as empty

-- the bytes are the text of a deck
pub record IsDeckText (text : List ℕ) : Type 0 where
  pub deck : List Card
  pub is_deck : IsDeck deck
  pub same : text ≡ text_of deck

-- the rules take whole cards in a deck's own glyphs: all columns are looked at, and an empty line is
-- a blank card. What they make of small letters and tabs is left open
pub record TakesWholeCards (rules : Rules) : Type 0 where
  pub signs : rules.signs ≡ Bureau
  pub columns : rules.keeps ≡ None
  pub empty : rules.empty ≡ empty.Card

-- the same rules, for a text in a deck's own glyphs
abbrev pub in_glyphs : Rules → Rules
in_glyphs rules = record rules { signs = Bureau }
