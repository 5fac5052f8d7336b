-- the limits of places and of the addresses of names
use Rattle.std.specs.Prelude.{ℕ, ◌≡◌, ◌<◌, ◌≤◌, List, length, IfSome, slice_index_or}
use Rattle.cards.specs.Decks.{largest_deck}
use Rattle.autocoder_layout.specs.Layout.{Layout, laid_out}
use Rattle.autocoder_layout.specs.Slots.{origin, place_after}
use Rattle.autocoder_layout.specs.declared.slots.Slot.{Slot}

-- the places of a slot and the address of its label are at most this limit
pub record IsSlotWithin (limit : ℕ) (slot : Slot) : Type 0 where
  pub before : slot.before ≤ limit
  pub after : slot.after ≤ limit
  pub address : IfSome slot.defines (λ definition. definition.address ≤ limit)

-- the places and addresses of all slots are at most this limit
abbrev pub IsWithin : ℕ → List Slot → Type 0
IsWithin limit slots = (k : ℕ) → k < length slots →
    IsSlotWithin limit (slice_index_or slots k origin)

-- no place of a source is above this one: each of 2,000 cards takes fewer than 100,000 positions
abbrev pub farthest : ℕ
farthest = 300000000

-- no place before a card is above this one
abbrev pub last_place : ℕ
last_place = 299000000

-- the greatest number of literals of a source: two on each of 2,000 cards
abbrev pub most_literals : ℕ
most_literals = 4000

-- slots and literals are those of the source's one layout, with a slot for each card, and its
-- places and literals are within their limits
pub record IsLaidOut (layout : Layout) : Type 0 where
  pub same : layout ≡ laid_out layout.source
  pub one_each : length layout.slots ≡ length layout.source.lines
  pub few : length layout.slots ≤ largest_deck
  pub within : IsWithin farthest layout.slots
  pub end : place_after layout.slots ≤ farthest
  pub literals : length layout.literals ≤ most_literals
