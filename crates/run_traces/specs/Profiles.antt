-- the profile of a run
use Rattle.std.specs.Prelude.{ℕ, zero, suc, ◌+◌, ◌-◌, ◌*◌, ◌/◌, ◌%◌, ◌<◌, ◌≤◌, ◌≡◌, ◌≢◌, ◌==◌, ◌&&◌, nat_lt, if◌then◌else◌, List, [], ◌∷◌, ◌++◌, length, replicate, codes, decimal, slice_index_or, Option, Some, None}
use Rattle.core_store.specs.Storage.{largest_size}
use Rattle.autocoder.specs.Listing.{blank, line_text, position_field, right}
use Rattle.machine.specs.Run.{State, after, most_instructions}
use Rattle.run_traces.specs.CountedCards.{cards_counted}
use Rattle.run_traces.specs.Names.{Named}
use Rattle.run_traces.specs.Ends.{end_of}
use Rattle.run_traces.specs.Reports.{report_line}
use Rattle.run_traces.specs.Shown.{characters_next, left}
use Rattle.run_traces.specs.declared.counting.Begun.{Begun}

-- how many of the first attempts of a machine, so many, began at an address
unfoldable pub began_at : State → ℕ → ℕ → ℕ
began_at m zero address = 0
began_at m (suc count) address = began_at m count address
    + (if (after m count).works.registers.i == address then 1 else 0)

-- the characters of the first instruction that began at an address, among so many attempts
unfoldable pub first_at : State → ℕ → ℕ → List ℕ
first_at m zero address = []
first_at m (suc count) address =
    if began_at m count address == 0 && (after m count).works.registers.i == address
    then characters_next (after m count) else first_at m count address

-- at each address these are how many of so many attempts began there, and the characters of the
-- first of them; none began at a greater number
pub record IsCounted (m : State) (attempts : ℕ) (places : List Begun) : Type 0 where
  pub size : length places ≡ largest_size
  pub counts : (address : ℕ) (other : Begun) → address < largest_size →
      (slice_index_or places address other).count ≡ began_at m attempts address
  pub firsts : (address : ℕ) (other : Begun) → address < largest_size →
      (slice_index_or places address other).characters.items ≡ first_at m attempts address
  pub beyond : (address : ℕ) → largest_size ≤ address → began_at m attempts address ≡ 0

-- the attempt that a machine makes next was counted where it begins, and nothing elsewhere
pub record CountsNext (m : State) (old new : List Begun) : Type 0 where
  pub size : length new ≡ length old
  pub count : (other : Begun) → (slice_index_or new m.works.registers.i other).count
      ≡ (slice_index_or old m.works.registers.i other).count + 1
  pub characters : (other : Begun) →
      (slice_index_or new m.works.registers.i other).characters.items
      ≡ (if (slice_index_or old m.works.registers.i other).count == 0 then characters_next m
      else (slice_index_or old m.works.registers.i other).characters.items)
  pub others : (address : ℕ) (other : Begun) → address ≢ m.works.registers.i →
      slice_index_or new address other ≡ slice_index_or old address other

-- the sum of a number for each address below one
unfoldable pub sum_below : (ℕ → ℕ) → ℕ → ℕ
sum_below number zero = 0
sum_below number (suc address) = sum_below number address + number address

-- a number of tenths with its last digit behind a point
abbrev pub tenths_words : ℕ → List ℕ
tenths_words tenths = decimal (tenths / 10) ++ codes "." ++ decimal (tenths % 10)

-- a part of all in tenths of a percent, rounded down
abbrev pub tenths_of_percent : ℕ → ℕ → ℕ
tenths_of_percent part all = part * 1000 / all

-- a text at the right of a field of this width
abbrev pub right_text : ℕ → List ℕ → List ℕ
right_text width text = replicate (width - length text) blank ++ text

-- the line of an address at which so many of all attempts began, the first with these characters
abbrev pub place_columns : ℕ → List ℕ → ℕ → ℕ → List ℕ
place_columns address characters count attempts = position_field address ++ blank ∷ []
    ++ left 9 characters ++ right blank 8 count ++ blank ∷ []
    ++ right_text 5 (tenths_words (tenths_of_percent count attempts))

-- what is shown of an address: nothing if no attempt began there
unfoldable pub place_shown : State → ℕ → ℕ → List ℕ
place_shown m attempts address = if nat_lt 0 (began_at m attempts address)
    then line_text
    (place_columns address (first_at m attempts address) (began_at m attempts address) attempts)
    else []

-- what is shown of the addresses below one
unfoldable pub places_shown : State → ℕ → ℕ → List ℕ
places_shown m attempts zero = []
places_shown m attempts (suc address) =
    places_shown m attempts address ++ place_shown m attempts address

-- the line of the number of attempts
abbrev pub attempts_line : ℕ → List ℕ
attempts_line attempts = codes "attempts " ++ decimal attempts ++ 10 ∷ []

-- how often each place was attempted: the lines of the addresses at which attempts began, or where
-- there is a source those of its cards
unfoldable pub counts_shown : Option Named → State → ℕ → List ℕ
counts_shown None m attempts = places_shown m attempts largest_size
counts_shown (Some names) m attempts =
    cards_counted (began_at m attempts) 1 names.cards names.slots

-- the profile of a machine's run: how often each place was attempted, the number of attempts, and
-- the report of the machine after it
unfoldable pub profiled : Option Named → State → List ℕ
profiled names m = counts_shown names m (end_of m most_instructions None)
    ++ attempts_line (end_of m most_instructions None) ++ report_line (after m most_instructions)
