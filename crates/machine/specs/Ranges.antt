-- what is in range for a machine's picture; any standing is
use Rattle.std.specs.Prelude.{◌<◌, ◌≡◌, length}
use Rattle.core_store.specs.Storage.{Storage, positions_of, largest_size}
use Rattle.core_store.specs.declared.sizes.Size.{Size}
use Rattle.core_store.specs.declared.registers.Registers.{Registers}
use Rattle.units.specs.Ranges.{AreUnits}
use Rattle.machine.specs.Run.{State}

-- the registers I, A and B are addresses, below 16000
pub record AreAddresses (r : Registers) : Type 0 where
  pub i : r.i < largest_size
  pub a : r.a < largest_size
  pub b : r.b < largest_size

-- a storage has as many positions as one of the sizes
abbrev pub HasSize : Storage → Type 0
HasSize s = (size : Size) × (length s ≡ positions_of size)

-- a machine's storage, registers and units are in range
pub record IsInRange (m : State) : Type 0 where
  pub size : HasSize m.works.storage
  pub registers : AreAddresses m.works.registers
  pub units : AreUnits m.works.units
