-- the machine, its steps and its runs
use Rattle.std.specs.Prelude.{ℕ, zero, suc, ◌≡◌, ◌<◌, ◌+◌, ◌-◌, ◌&&◌, ◌^◌, min, Bool, true, false, if◌then◌else◌, Result, Ok, Err, List, [], ◌∷◌, None, take}
use Rattle.cards.specs.declared.decks.Card.{Card}
use Rattle.core_store.specs.Storage.{Storage, blank_storage, put_codes, with_mark, positions_of}
use Rattle.core_store.specs.declared.sizes.Size.{Size}
use Rattle.core_store.specs.declared.checks.Check.{Check}
use Rattle.core_store.specs.declared.registers.Compared.TheVariants.{Equal}
use Rattle.machine.specs.declared.operations.Course.{Course}
use Rattle.machine.specs.declared.operations.Course.TheVariants.{GoesOn, Halts}
use Rattle.machine.specs.declared.standings.Standing.{Standing}
use Rattle.machine.specs.declared.standings.Standing.TheVariants.{Running, Halted, Checked}
use Rattle.machine.specs.declared.standings.Event.{Event}
use Rattle.machine.specs.declared.standings.Event.TheVariants.{Next, Halt}
use Rattle.units.specs.declared.pockets.Pocket.TheVariants.{Normal}
use Rattle.units.specs.declared.printer.Line.{Line}
use Rattle.units.specs.declared.profiles.Profile.{Profile}
use Rattle.machine.specs.declared.runs.Checkpoint.{Checkpoint}
use Rattle.units.specs.declared.switches.Switches.{Switches}
use Rattle.units.specs.declared.units.Units.{Units}
use Rattle.units.specs.Switches.{seven}
use Rattle.units.specs.Units.{Makes, nothing_made}
use Rattle.machine.specs.Effect.{Works, attempt}

-- a machine: its storage, registers and units, and its standing
pub record State : Type 0 where
  pub works : Works
  pub standing : Standing

-- whether a machine runs
abbrev pub is_running : Standing → Bool
is_running Running = true
is_running Halted = false
is_running (Checked check) = false

-- whether a machine is at a halt
abbrev pub is_halted : Standing → Bool
is_halted Running = false
is_halted Halted = true
is_halted (Checked check) = false

-- whether a machine is at a check
abbrev pub is_checked : Standing → Bool
is_checked Running = false
is_checked Halted = false
is_checked (Checked check) = true

-- the standing after an instruction: at a halt after Halt, else running
abbrev pub standing_after : Course → Standing
standing_after GoesOn = Running
standing_after Halts = Halted

-- the event of a step, by the standing after it
abbrev pub event_of : Standing → Event
event_of Running = Next
event_of Halted = Halt
event_of (Checked check) = Event.Check check

-- the 80 characters of a deck's first card, none if there is no card
abbrev pub first_card : List Card → List ℕ
first_card [] = []
first_card (card ∷ cards) = card.0

-- the units after the load button: the first card was read, and nothing punched or printed, no
-- pocket chosen
abbrev pub first_units : List Card → Switches → Profile → Units
first_units deck switches profile = record {
  hopper = record { deck = deck; taken = 1 };
  before = nothing_made;
  punch = record { cards = []; chosen = Normal; profile = profile };
  printer = record {
    lines = [];
    carriage = record { form = 1; line = 1; waiting = None; channel_12 = false };
  };
  switches = seven switches;
}

-- a machine after the load button: the first card is in the read area with a word mark at 001,
-- where the machine begins
abbrev pub loaded : List Card → Size → Switches → Profile → State
loaded deck size switches profile = record {
  works = record {
    storage = with_mark (put_codes (blank_storage (positions_of size)) 1 (first_card deck)) 1 true;
    registers = record { i = 1; a = 0; b = 0; compare = Equal; overflow = false };
    units = first_units deck switches profile;
  };
  standing = Running;
}

-- a machine at a halt, started again with these switches
abbrev pub started : State → Switches → State
started m switches = record m {
  works = record m.works { units = record m.works.units { switches = seven switches } };
  standing = Running;
}

-- a machine set back to a checkpoint, without the cards and lines that it has made since
abbrev pub restored : State → Storage → Checkpoint → State
restored m storage c = record {
  works = record {
    storage = storage;
    registers = c.registers;
    units = record m.works.units {
      hopper = record m.works.units.hopper { taken = c.taken };
      punch = record m.works.units.punch {
        cards = take c.cards m.works.units.punch.cards;
        chosen = c.chosen;
      };
      printer = record { lines = take c.lines m.works.units.printer.lines; carriage = c.carriage };
    };
  };
  standing = c.standing;
}

-- a running machine that works on these
abbrev pub running : Works → State
running works = record { works = works; standing = Running }

-- a machine after an attempt; a check changes nothing but its standing
abbrev pub attempted : State → Result (Works × Course) Check → State
attempted m (Ok (works, course)) = record { works = works; standing = standing_after course }
attempted m (Err check) = record m { standing = Checked check }

-- a machine after one step: an instruction attempted if it is running, else nothing
unfoldable pub step : State → State
step m = if is_running m.standing then attempted m (attempt m.works) else m

-- a machine after so many steps
unfoldable pub after : State → ℕ → State
after m zero = m
after m (suc count) = after (step m) count

-- the most instructions for which a deck runs by itself, outside a bureau
abbrev pub most_instructions : ℕ
most_instructions = 1000000

-- how many of so many steps are attempts of an instruction
unfoldable pub attempts : State → ℕ → ℕ
attempts m zero = 0
attempts m (suc count) = (if is_running m.standing then 1 else 0) + attempts (step m) count

-- how many instructions are executed in so many steps: the attempts without one that ended in a
-- check
unfoldable pub executed : State → ℕ → ℕ
executed m count = attempts m count
    - (if is_running m.standing && is_checked (after m count).standing then 1 else 0)

-- the lines that a machine has printed
abbrev pub lines_of : State → List Line
lines_of m = m.works.units.printer.lines

-- a count risen by so many, which stays at the greatest that 64 bits hold
abbrev pub risen : ℕ → ℕ → ℕ
risen ticks more = ticks + min more (2 ^ 64 - 1 - ticks)

-- a machine that has come so far and gives up, for want of memory for the card or the line that the
-- next instruction makes
pub record IsWanting (m now : State) (limit done : ℕ) : Type 0 where
  pub below : done < limit
  pub reached : after m done ≡ now
  pub attempted : attempts m done ≡ done
  pub wanting : Makes now.works.units (step now).works.units

-- a run given up for want of memory, at an instruction that makes a card or a line; the meter has
-- risen by the instructions before it
pub record IsGivenUp (m : State) (limit old_ticks ticks : ℕ) : Type 0 where
  pub done : ℕ
  pub below : done < limit
  pub attempted : attempts m done ≡ done
  pub wanting : Makes (after m done).works.units (after m (done + 1)).works.units
  pub meter : ticks ≡ risen old_ticks done
