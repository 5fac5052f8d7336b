-- the cards of a job that a query asks for, by their pockets
use Rattle.std.specs.Prelude.{◌==◌, Bool, true, false, List, map, filter}
use Rattle.cards.specs.declared.decks.Card.{Card}
use Rattle.units.specs.Pockets.{pocket_number}
use Rattle.units.specs.declared.pockets.Pocket.{Pocket}
use Rattle.units.specs.declared.punch.Punched.{Punched}
use Rattle.office.specs.declared.stackers.Stacker.{Stacker}
use Rattle.office.specs.declared.stackers.Stacker.TheVariants.{All, Of, Unknown}

-- whether the cards of this pocket are asked for
abbrev pub is_asked : Stacker → Pocket → Bool
is_asked All pocket = true
is_asked (Of asked) pocket = pocket_number pocket == pocket_number asked
is_asked Unknown pocket = false

-- the cards that are asked for, in the order in which they were punched
unfoldable pub cards_from : Stacker → List Punched → List Card
cards_from from cards = map (λ c. c.card) (filter (λ c. is_asked from c.pocket) cards)
