-- the addresses of an instruction, as its card means them
use Rattle.std.specs.Prelude.{ℕ, ◌%◌, List, None}
use Rattle.core_store.specs.Storage.{largest_size}
use Rattle.addresses.specs.Addresses.{Tagged}
use Rattle.autocoder_statements.specs.declared.operands.Operand.{Operand}
use Rattle.autocoder_statements.specs.declared.operands.Operand.TheVariants.{Address, Literal}
use Rattle.autocoder_layout.specs.Cells.{position_in}
use Rattle.autocoder_layout.specs.Literals.{Characters, literal_end}
use Rattle.autocoder_layout.specs.Names.{value_in}
use Rattle.autocoder_layout.specs.Slots.{place_after}
use Rattle.autocoder_layout.specs.declared.slots.Slot.{Slot}

-- what an operand means: the position and the index location that it names, or the last position of
-- its literal
abbrev pub meant_by : ℕ → List Slot → List Characters → Operand → Tagged
meant_by size slots literals (Address address) =
    record { base = position_in (value_in size slots address.expression); index = address.index }
meant_by size slots literals (Literal wanted) =
    record {
      base = literal_end (place_after slots) literals wanted % largest_size;
      index = None;
    }
