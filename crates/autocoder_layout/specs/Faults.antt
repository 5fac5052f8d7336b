-- the numbers of a source's faults
use Rattle.std.specs.Prelude.{ℕ}
use Rattle.autocoder_statements.specs.Statements as statement
use Rattle.autocoder_layout.specs.declared.faults.SourceFault.{SourceFault}
use Rattle.autocoder_layout.specs.declared.faults.SourceFault.TheVariants.{NoMemory, Statement, TakenLabel, UnknownName, Outside, Reserved, Filled, NoEnd}

-- the number of a fault of a source
abbrev pub fault_number : SourceFault → ℕ
fault_number NoMemory = 1
fault_number (Statement fault) = statement.fault_number fault
fault_number TakenLabel = 44
fault_number UnknownName = 45
fault_number Outside = 46
fault_number Reserved = 47
fault_number Filled = 48
fault_number NoEnd = 49
