-- the place of each card, and the name that it defines
use Rattle.std.specs.Prelude.{ℕ, ◌+◌, ◌-◌, Bool, true, false, not, if◌then◌else◌, List, [], ◌∷◌, ◌++◌, length, reverse, find, Option, Some, None, Ok, Err, is_some, slice_index_or}
use Rattle.autocoder_statements.specs.Constants.{constant_length}
use Rattle.autocoder_statements.specs.Mnemonics.{instruction_length}
use Rattle.autocoder_statements.specs.declared.names.Name.{Name}
use Rattle.autocoder_statements.specs.declared.expressions.Expression.{Expression}
use Rattle.autocoder_statements.specs.declared.faults.StatementFault.{StatementFault}
use Rattle.autocoder_statements.specs.declared.faults.StatementFault.TheVariants as statement_fault
use Rattle.autocoder_statements.specs.declared.reading.Statement.TheVariants as statement
use Rattle.autocoder_layout.specs.Source.{Line}
use Rattle.autocoder_layout.specs.Names.{address_of, value_in}
use Rattle.autocoder_layout.specs.declared.names.Value.{Value}
use Rattle.autocoder_layout.specs.declared.names.Value.TheVariants.{Unknown, Outside, At}
use Rattle.autocoder_layout.specs.declared.faults.SourceFault.{SourceFault}
use Rattle.autocoder_layout.specs.declared.faults.SourceFault.TheVariants as fault
use Rattle.autocoder_layout.specs.declared.slots.Role.{Role}
use Rattle.autocoder_layout.specs.declared.slots.Role.TheVariants.{Nothing, Instruction, Constant, Passing}
use Rattle.autocoder_layout.specs.declared.slots.Slot.{Slot}

-- the place of the first card of a source without ORG: the position after the print area
abbrev pub first_place : ℕ
first_place = 333

-- ---- the cards before

-- the slot before that of the first card
abbrev pub origin : Slot
origin = record {
  before = first_place;
  after = first_place;
  defines = None;
  fault = None;
  role = Nothing;
  closes = false;
}

-- the place after the last of these cards
abbrev pub place_after : List Slot → ℕ
place_after slots = (slice_index_or slots (length slots - 1) origin).after

-- whether a slot is of a card without a place
abbrev pub is_nothing : Role → Bool
is_nothing Nothing = true
is_nothing other = false

-- whether a slot is of an instruction
abbrev pub is_instruction : Role → Bool
is_instruction Instruction = true
is_instruction other = false

-- whether a card has a place
abbrev pub has_place : Slot → Bool
has_place slot = not (is_nothing slot.role)

-- whether there is a slot and it is of an instruction
abbrev pub is_an_instruction : Option Slot → Bool
is_an_instruction None = false
is_an_instruction (Some slot) = is_instruction slot.role

-- whether the last card with a place is an instruction
unfoldable pub is_open : List Slot → Bool
is_open earlier = is_an_instruction (find has_place (reverse earlier))

-- whether there is a slot and it requires a marked blank after an instruction before it
abbrev pub does_close : Option Slot → Bool
does_close None = false
does_close (Some slot) = slot.closes

-- whether the next card with a place requires a marked blank after an instruction before it
unfoldable pub is_closed : List Slot → Bool
is_closed later = does_close (find has_place later)

-- the place of a card that requires a marked blank after an instruction: after that blank, if the
-- last card is an instruction
unfoldable pub place_after_blank : List Slot → ℕ
place_after_blank earlier = if is_open earlier then place_after earlier + 1 else place_after earlier

-- ---- a card

-- the slot of a card that takes no positions and defines no name, with its fault if it has one
abbrev pub stays : List Slot → Option SourceFault → Slot
stays earlier fault = record {
  before = place_after earlier;
  after = place_after earlier;
  defines = None;
  fault = fault;
  role = Nothing;
  closes = false;
}

-- the slot of a card that takes the positions from one place up to another
abbrev pub takes : Role → Bool → ℕ → ℕ → Slot
takes role closes before after = record {
  before = before;
  after = after;
  defines = None;
  fault = None;
  role = role;
  closes = closes;
}

-- the slot with a name that it defines
abbrev pub with_label : Slot → Name → ℕ → Slot
with_label slot name address = record {
  before = slot.before;
  after = slot.after;
  defines = Some (record { name = name; address = address });
  fault = slot.fault;
  role = slot.role;
  closes = slot.closes;
}

-- the slot of a card that may have a label, or with a fault if an earlier card defines the name
unfoldable pub with_any_label : List Slot → Option Name → ℕ → Slot → Slot
with_any_label earlier None address slot = slot
with_any_label earlier (Some name) address slot =
    if is_some (address_of name earlier) then stays earlier (Some fault.TakenLabel)
    else with_label slot name address

-- the slot of an ORG card, after which the next card's place is this value
abbrev pub moved_to : List Slot → Value → Slot
moved_to earlier Unknown = stays earlier (Some fault.UnknownName)
moved_to earlier Outside = stays earlier (Some fault.Outside)
moved_to earlier (At position) =
    takes Passing (is_open earlier) (place_after_blank earlier) position

-- the slot of an EQU card, which defines a name as this value
abbrev pub equal_to : List Slot → Name → Value → Slot
equal_to earlier name Unknown = stays earlier (Some fault.UnknownName)
equal_to earlier name Outside = stays earlier (Some fault.Outside)
equal_to earlier name (At position) = with_label (stays earlier None) name position

-- whether a program has a start: an address on the END card, or else an instruction
abbrev pub has_start : List Slot → Option Expression → Bool
has_start earlier (Some start) = true
has_start earlier None = is_some (find (λ slot. is_instruction slot.role) earlier)

-- the lowest fault of an END card: its program has no start, or it has a label
abbrev pub end_fault : List Slot → Option Expression → Bool → Option StatementFault
end_fault earlier start labelled =
    if not (has_start earlier start) then Some statement_fault.Operand
    else (if labelled then Some statement_fault.Label else None)

-- the slot of an END card, which has no place if it has a fault
abbrev pub ends : List Slot → Option StatementFault → Slot
ends earlier (Some reason) = stays earlier (Some (fault.Statement reason))
ends earlier None =
    takes Passing (is_open earlier) (place_after_blank earlier) (place_after_blank earlier)

-- the slot of an END card with this operand, with or without a label
abbrev pub end_slot : List Slot → Option Expression → Bool → Slot
end_slot earlier start labelled = ends earlier (end_fault earlier start labelled)

-- the slot of a card that takes so many positions from a place on, with its label for the last of
-- them
abbrev pub run : List Slot → Option Name → Role → Bool → ℕ → ℕ → Slot
run earlier label role closes place count =
    with_any_label earlier label (place + count - 1) (takes role closes place (place + count))

-- the slot of a constant; one without a word mark requires a marked blank after an instruction
abbrev pub constant : List Slot → Option Name → Bool → ℕ → Slot
constant earlier label true count = run earlier label Constant false (place_after earlier) count
constant earlier label false count =
    run earlier label Constant (is_open earlier) (place_after_blank earlier) count

-- the slot of a DS card, which passes so many positions
abbrev pub area : List Slot → Option Name → ℕ → Slot
area earlier label count =
    run earlier label Passing (is_open earlier) (place_after_blank earlier) count

-- the slot of an instruction, with its label for its first position
abbrev pub instruction : List Slot → Option Name → ℕ → Slot
instruction earlier label count = with_any_label earlier label (place_after earlier)
    (takes Instruction false (place_after earlier) (place_after earlier + count))

-- the slot of an EQU card with this expression, or with a fault if an earlier card defines the name
abbrev pub equate_slot : ℕ → List Slot → Name → Expression → Slot
equate_slot size earlier label expression =
    if is_some (address_of label earlier) then stays earlier (Some fault.TakenLabel)
    else equal_to earlier label (value_in size earlier expression)

-- the slot of a card by those of the earlier cards; names that later cards define do not count here
unfoldable pub slot_of : ℕ → List Slot → Line → Slot
slot_of size earlier (Err reason) = stays earlier (Some (fault.Statement reason))
slot_of size earlier (Ok statement.Comment) = stays earlier None
slot_of size earlier (Ok statement.Job) = stays earlier None
slot_of size earlier (Ok (statement.Control given)) = stays earlier None
slot_of size earlier (Ok (statement.Origin expression)) =
    moved_to earlier (value_in size earlier expression)
slot_of size earlier (Ok (statement.Equate label expression)) =
    equate_slot size earlier label expression
slot_of size earlier (Ok (statement.Constant label marked text)) =
    constant earlier label marked (constant_length text)
slot_of size earlier (Ok (statement.Area label positions)) = area earlier label positions
slot_of size earlier (Ok (statement.End start labelled)) = end_slot earlier start labelled
slot_of size earlier (Ok (statement.Instruction label spelled)) =
    instruction earlier label (instruction_length spelled)

-- the slots of all cards, given those of the first of them
unfoldable pub slots_from : ℕ → List Slot → List Line → List Slot
slots_from size earlier [] = earlier
slots_from size earlier (line ∷ lines) =
    slots_from size (earlier ++ slot_of size earlier line ∷ []) lines
