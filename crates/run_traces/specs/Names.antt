-- the names of a source, and the name of an address
use Rattle.std.specs.Prelude.{ℕ, ◌-◌, ◌<◌, ◌≤◌, ◌≡◌, ◌==◌, ◌&&◌, nat_le, nat_lt, if◌then◌else◌, List, [], ◌++◌, codes, decimal, fold, Contains, MatchOption, Option, Some, None}
use Rattle.cards.specs.declared.decks.Card.{Card}
use Rattle.autocoder_layout.specs.Layout.{slots_of}
use Rattle.autocoder_layout.specs.declared.slots.Definition.{Definition}
use Rattle.autocoder_layout.specs.declared.slots.Slot.{Slot}
use Rattle.autocoder.specs.Programs.{layout_for}
use Rattle.source_reports.specs.Names.{name_text}
use Rattle.run_traces.specs.Shown.{left}

-- the cards of a source, and what each defines and where it stands
pub record Named : Type 0 where
  pub cards : List Card
  pub slots : List Slot

-- a source with its one layout
abbrev pub named_by : List Card → Named
named_by source = record { cards = source; slots = slots_of (layout_for source) }

-- the definition of two that is nearer to an address, of those that are not above it: the first of
-- two that are at one address
abbrev pub nearer : ℕ → Option Definition → Option Definition → Option Definition
nearer address best None = best
nearer address None (Some found) = if nat_le found.address address then Some found else None
nearer address (Some best) (Some found) =
    if nat_le found.address address && nat_lt best.address found.address then Some found
    else Some best

-- the definition at the greatest address that is not above this one
unfoldable pub nearest : ℕ → List Slot → Option Definition
nearest address slots = fold (λ best slot. nearer address best slot.defines) None slots

-- a card defines this
abbrev pub IsDefined : List Slot → Definition → Type 0
IsDefined slots definition =
    (slot : Slot) × Contains slots slot × (slot.defines ≡ Some definition)

-- a definition of a card that is at the greatest address of those that are not above this one
pub record IsNearest (address : ℕ) (slots : List Slot) (found : Definition) : Type 0 where
  pub among : IsDefined slots found
  pub not_above : found.address ≤ address
  pub greatest : (other : Definition) → IsDefined slots other → other.address ≤ address →
      other.address ≤ found.address

-- this is the nearest definition that is not above an address, or none if all are above it
abbrev pub Nearest : ℕ → List Slot → Option Definition → Type 0
Nearest address slots found = MatchOption found
    ((other : Definition) → IsDefined slots other → address < other.address)
    (IsNearest address slots)

-- how far behind a name an address is, if it is not the name's
abbrev pub distance_words : ℕ → List ℕ
distance_words distance = if distance == 0 then [] else codes "&" ++ decimal distance

-- an address by a name
abbrev pub name_words : ℕ → Option Definition → List ℕ
name_words address None = []
name_words address (Some definition) =
    name_text definition.name ++ distance_words (address - definition.address)

-- the name of an address at the left of ten places, where there are names
abbrev pub name_field : Option Named → ℕ → List ℕ
name_field None address = []
name_field (Some names) address = left 10 (name_words address (nearest address names.slots))
