-- a source is a beginning of its deck
use Rattle.std.proofs.Common.{◌+◌, ◌≤◌, ℕ, List, Some, None, length, arith}
use Rattle.std.specs.Prelude.{Option}
use Rattle.std.proofs.lemmas.List.{length-take}
use Rattle.cards.specs.declared.Card.{Card}
use Rattle.autocoder_layout.specs.Source.{end_of, source_of, up_to}

up_to_within : (deck : List Card) (end : Option ℕ) → length (up_to deck end) ≤ length deck
up_to_within deck None = omega arith
up_to_within deck (Some end) = omega (arith, length-take (end + 1) deck)

pub source_within : (deck : List Card) → length (source_of deck) ≤ length deck
unfolding source_of
source_within deck = up_to_within deck (end_of deck)
