-- the names of the checks
use Rattle.std.specs.Prelude.{ℕ, List, codes}
use Rattle.core_store.specs.declared.checks.Check.{Check}
use Rattle.core_store.specs.declared.checks.Check.TheVariants as check

-- the name of a check, as reports and replies print it
abbrev pub check_name : Check → List ℕ
check_name check.Address = codes "ADDRESS"
check_name check.Instruction = codes "INSTRUCTION"
check_name check.Data = codes "DATA"
check_name check.Overlap = codes "OVERLAP"
check_name check.ReaderEmpty = codes "READER EMPTY"
check_name check.PunchFull = codes "PUNCH FULL"
check_name check.PrinterFull = codes "PRINTER FULL"
