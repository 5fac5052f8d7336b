-- a comparison, an order to the carriage and a standing as numbers, as files and films write them
use Rattle.std.specs.Prelude.{ℕ, Option, Some, None}
use Rattle.core_store.specs.declared.checks.Check.{Check}
use Rattle.core_store.specs.declared.checks.Check.TheVariants.{Address, Instruction, Data, Overlap, ReaderEmpty, PunchFull, PrinterFull}
use Rattle.core_store.specs.declared.registers.Compared.{Compared}
use Rattle.core_store.specs.declared.registers.Compared.TheVariants.{Equal, Low, High}
use Rattle.units.specs.declared.carriage.Motion.{Motion}
use Rattle.units.specs.declared.carriage.Motion.TheVariants.{Space, DoubleSpace, TripleSpace, SkipToChannel1}
use Rattle.machine.specs.declared.standings.Standing.{Standing}
use Rattle.machine.specs.declared.standings.Standing.TheVariants.{Running, Halted, Checked}

-- the number of the result of a comparison: 0 equal, 1 low, 2 high
abbrev pub compare_number : Compared → ℕ
compare_number Equal = 0
compare_number Low = 1
compare_number High = 2

-- the number of the carriage motion that waits for the next line: 0 if none does
abbrev pub waiting_number : Option Motion → ℕ
waiting_number None = 0
waiting_number (Some Space) = 1
waiting_number (Some DoubleSpace) = 2
waiting_number (Some TripleSpace) = 3
waiting_number (Some SkipToChannel1) = 4

-- the number of a check, 2 to 8
abbrev pub check_number : Check → ℕ
check_number Address = 2
check_number Instruction = 3
check_number Data = 4
check_number Overlap = 5
check_number ReaderEmpty = 6
check_number PunchFull = 7
check_number PrinterFull = 8

-- the number of a machine's standing: 0 running, 1 at a halt, 2 to 8 at a check
abbrev pub standing_number : Standing → ℕ
standing_number Running = 0
standing_number Halted = 1
standing_number (Checked check) = check_number check
