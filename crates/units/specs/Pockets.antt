-- the pockets of the punch, and the choice of one
use Rattle.std.specs.Prelude.{ℕ, List, [], ◌∷◌, Option, Result, Ok, codes}
use Rattle.core_store.specs.Checked.{require}
use Rattle.core_store.specs.declared.checks.Check.{Check}
use Rattle.core_store.specs.declared.checks.Check.TheVariants.{Instruction}
use Rattle.units.specs.declared.pockets.Pocket.{Pocket}
use Rattle.units.specs.declared.pockets.Pocket.TheVariants.{Normal, Four, Eight}
use Rattle.units.specs.Carriages.{meant_among}
use Rattle.units.specs.Stacked.{Stacked, is_selecting}

-- the selections of a pocket: the character of each, and the pocket that it names; the normal one
-- leaves the choice as it is
abbrev pub pockets : List (List ℕ × Pocket)
pockets =
    (codes "1", Normal)
    ∷ (codes "2", Normal)
    ∷ (codes "4", Four)
    ∷ (codes "8", Eight)
    ∷ []

-- the number of a pocket: 0 the normal one, 4 and 8
abbrev pub pocket_number : Pocket → ℕ
pocket_number Normal = 0
pocket_number Four = 4
pocket_number Eight = 8

-- the pocket that a character names, if it names one
unfoldable pub pocket_of : ℕ → Option Pocket
pocket_of code = meant_among pockets code

-- the pocket chosen after a selection of one: that one in place of any before, unless it is the
-- normal one
abbrev pub chosen_after : Pocket → Pocket → Pocket
chosen_after Normal old = old
chosen_after Four old = Four
chosen_after Eight old = Eight

-- the punch after a selection of a pocket, or a check if its profile has none
unfoldable pub pocket_chosen : Pocket → Stacked → Result Stacked Check
pocket_chosen pocket p =
    require (is_selecting p.profile) Instruction
    (Ok (record p { chosen = chosen_after pocket p.chosen }))
