-- the punch
use Rattle.std.specs.Prelude.{List, ◌≡◌, Bool, true, false, All}
use Rattle.units.specs.declared.pockets.Pocket.{Pocket}
use Rattle.units.specs.declared.pockets.Pocket.TheVariants.{Normal}
use Rattle.units.specs.declared.profiles.Profile.{Profile}
use Rattle.units.specs.declared.profiles.Profile.TheVariants.{Plain, Selecting}
use Rattle.units.specs.declared.punch.Punched.{Punched}

-- a punch: the cards that it has punched, after those that are kept elsewhere, each with its
-- pocket; the pocket chosen for the next card; and the machine's profile
pub record Stacked : Type 0 where
  pub cards : List Punched
  pub chosen : Pocket
  pub profile : Profile

-- whether a machine of this profile has stacker selection
abbrev pub is_selecting : Profile → Bool
is_selecting Plain = false
is_selecting Selecting = true

-- a card is in the normal pocket
abbrev pub IsNormal : Punched → Type 0
IsNormal punched = punched.pocket ≡ Normal

-- a punch that never had stacker selection: no pocket is chosen, and all its cards are in the normal
-- one
pub record IsPlain (p : Stacked) : Type 0 where
  pub profile : p.profile ≡ Plain
  pub chosen : p.chosen ≡ Normal
  pub cards : All IsNormal p.cards
