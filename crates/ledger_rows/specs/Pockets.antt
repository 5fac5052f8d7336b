-- the rows of the pockets of punched cards
use Rattle.std.specs.Prelude.{◌≡◌, ◌+◌, ◌-◌, ◌≤◌, ◌⊎◌, ◌==◌, ℕ, zero, suc, All, List, [], ◌∷◌, map, fold, length, if◌then◌else◌, Option, Some, None}
use Rattle.cards.specs.Decks.{IsCard}
use Rattle.units.specs.declared.pockets.Pocket.{Pocket}
use Rattle.units.specs.declared.pockets.Pocket.TheVariants.{Normal, Four, Eight}
use Rattle.units.specs.declared.punch.Punched.{Punched}
use Rattle.ledger_tables.specs.Cells.{Pockets}
use Rattle.ledger_tables.specs.declared.rows.PocketRow.{PocketRow}

-- the number of the pocket that a card's row tells; a card in the normal one has no row
abbrev pub pocket_cell : Pocket → Option ℕ
pocket_cell Normal = None
pocket_cell Four = Some 4
pocket_cell Eight = Some 8

-- the rows of the pockets of these cards, whose places rise by one from the first
abbrev pub pocket_rows_from : ℕ → List Punched → Pockets
pocket_rows_from first [] place = None
pocket_rows_from first (c ∷ cards) place =
    if first == place then pocket_cell c.pocket else pocket_rows_from (first + 1) cards place

-- the rows of the pockets of a job's cards, whose places begin with 1
abbrev pub pocket_rows_of : List Punched → Pockets
pocket_rows_of = pocket_rows_from 1

-- the bytes of a punched card
abbrev pub punched_bytes : Punched → List ℕ
punched_bytes c = c.card.0

-- a punched card that the tables can hold
abbrev pub IsPunched : Punched → Type 0
IsPunched c = IsCard c.card

-- ---- cards from rows

-- the pocket that a row names by its number
abbrev pub named_pocket : ℕ → Pocket
named_pocket number = if number == 4 then Four else if number == 8 then Eight else Normal

-- the cards, with the one behind so many others put into a pocket
abbrev pub put_behind : ℕ → Pocket → List Punched → List Punched
put_behind count pocket [] = []
put_behind zero pocket (c ∷ cards) = (record c { pocket = pocket }) ∷ cards
put_behind (suc count) pocket (c ∷ cards) = c ∷ put_behind count pocket cards

-- the cards, with the one at a row's place put into the row's pocket
abbrev pub with_pocket : List Punched → PocketRow → List Punched
with_pocket cards row = put_behind (row.place - 1) (named_pocket row.pocket) cards

-- the cards, with those at the places of these rows put into their pockets
abbrev pub with_pockets : List Punched → List PocketRow → List Punched
with_pockets = fold with_pocket

-- the row is that of one of so many cards, and names pocket 4 or 8
pub record IsPocketOf (count : ℕ) (row : PocketRow) : Type 0 where
  pub first : 1 ≤ row.place
  pub last : row.place ≤ count
  pub pocket : (row.pocket ≡ 4) ⊎ (row.pocket ≡ 8)

-- a card as it lies in the normal pocket
abbrev pub in_normal : Punched → Punched
in_normal c = record c { pocket = Normal }

-- these are the cards of these rows, each in the pocket that its row names, or in the normal one
pub record ArePunched (cards : List (List ℕ)) (rows : List PocketRow) (punched : List Punched)
    : Type 0 where
  pub bytes : map punched_bytes punched ≡ cards
  pub held : All IsPunched punched
  pub are_pockets : All (IsPocketOf (length punched)) rows
  pub pockets : punched ≡ with_pockets (map in_normal punched) rows
