-- a position that is filled already: the earlier card that fills it first
use Rattle.std.specs.Prelude.{ℕ, ◌+◌, nat_lt, Bool, ◌&&◌, if◌then◌else◌, List, [], ◌++◌, length, drop, max, min, Option, Some, None, find, slice_index_or, codes, decimal}
use Rattle.std.specs.List.{range_with_len}
use Rattle.autocoder_layout.specs.Layout.{Layout}
use Rattle.autocoder_layout.specs.Slots.{origin, is_closed, is_instruction}
use Rattle.autocoder_layout.specs.declared.slots.Slot.{Slot}
use Rattle.autocoder.specs.Listing.{fills, position_field}

-- the card of this number, from 0
abbrev pub slot_at : List Slot → ℕ → Slot
slot_at slots index = slice_index_or slots index origin

-- whether a card is an instruction behind which a marked blank is placed
abbrev pub has_blank : List Slot → ℕ → Bool
has_blank slots index =
    is_instruction (slot_at slots index).role && is_closed (drop (index + 1) slots)

-- the position behind the last one that an instruction or a constant fills
abbrev pub end_of_fill : List Slot → ℕ → ℕ
end_of_fill slots index = if has_blank slots index then (slot_at slots index).after + 1
    else (slot_at slots index).after

-- the first position that two cards fill, if they fill the same one
abbrev pub meeting_place : List Slot → ℕ → ℕ → ℕ
meeting_place slots one other = max (slot_at slots one).before (slot_at slots other).before

-- whether two cards, each an instruction or a constant, fill the same position
unfoldable pub meet : List Slot → ℕ → ℕ → Bool
meet slots one other = (fills (slot_at slots one).role && fills (slot_at slots other).role)
    && nat_lt (meeting_place slots one other)
    (min (end_of_fill slots one) (end_of_fill slots other))

-- the first of the cards before a card that fills a position of it
unfoldable pub first_filler : List Slot → ℕ → Option ℕ
first_filler slots index = find (λ earlier. meet slots earlier index) (range_with_len 0 index)

-- ---- how it is told

-- the card of this number, from 0, which fills a position first
abbrev pub filler_text : ℕ → ℕ → List ℕ
filler_text earlier place = codes "; card " ++ decimal (earlier + 1) ++ codes " fills "
    ++ position_field place ++ codes " first"

-- the card that fills a position of a card first, if there is one
abbrev pub filler_of : List Slot → ℕ → Option ℕ → List ℕ
filler_of slots index None = []
filler_of slots index (Some earlier) = filler_text earlier (meeting_place slots earlier index)

-- of a card whose position is filled already: the earlier card that fills one of its positions, and
-- the first such position
unfoldable pub filled_hint : Layout → ℕ → List ℕ
filled_hint layout index = if nat_lt index (length layout.slots)
    then filler_of layout.slots index (first_filler layout.slots index) else []
