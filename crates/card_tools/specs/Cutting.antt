-- parts of a deck, and the cards on which a number stands
use Rattle.std.specs.Prelude.{ℕ, ◌≤◌, ◌+◌, ◌-◌, Bool, List, Option, Some, None, bytes_eq, drop, position, take}
use Rattle.card_forms.specs.declared.images.CardImage.{CardImage}
use Rattle.card_tools.specs.Lines.{columns_shown}
use Rattle.card_tools.specs.declared.cutting.NumberPlace.{NumberPlace}
use Rattle.card_tools.specs.declared.cutting.NumberPlace.TheVariants.{Nowhere, Once, Twice}

-- the cards of a deck from this place to that one, the first place being 1
abbrev pub part_of : ℕ → ℕ → List CardImage → List CardImage
part_of first last images = take (last - (first - 1)) (drop (first - 1) images)

-- so many cards have a part from this place to that one
abbrev pub HasPart : ℕ → ℕ → ℕ → Type 0
HasPart first last count = (1 ≤ first) × (first ≤ last) × (last ≤ count)

-- the columns 73 to 80 of a card as they are shown
abbrev pub number_shown : CardImage → List ℕ
number_shown image = columns_shown (drop 72 image.0)

-- whether this stands in the columns 73 to 80 of a card
abbrev pub has_number : List ℕ → CardImage → Bool
has_number number image = bytes_eq (number_shown image) number

-- the place of the first card on which it stands, from 0
abbrev pub first_with : List ℕ → List CardImage → Option ℕ
first_with number images = position (λ image. has_number number image) images

-- it stands at this place, and next behind it on a card with this place among those behind, or not
abbrev pub next_behind : ℕ → Option ℕ → NumberPlace
next_behind place None = Once place
next_behind place (Some next) = Twice place (place + next + 1)

-- it stands first on the card with this place, from 0, or on none
abbrev pub places_from : List ℕ → List CardImage → Option ℕ → NumberPlace
places_from number images None = Nowhere
places_from number images (Some k) = next_behind (k + 1) (first_with number (drop (k + 1) images))

-- where it stands: on no card, on one alone, or first on one and next on another, by their places,
-- the first place being 1
abbrev pub number_place : List ℕ → List CardImage → NumberPlace
number_place number images = places_from number images (first_with number images)
