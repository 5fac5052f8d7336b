-- for `near_operation` of `operation_names`: the table of the code is that of the definitions
use Rattle.std.proofs.Common.{◌≡◌, refl}
use Rattle.autocoder_statements.specs.Laws.{names}
use Rattle.autocoder_statements.specs.Mnemonics.{orders, mnemonics}
use Rattle.source_reports.specs.declared.operation_names.TheConstants.{NAMES}

pub names_are : NAMES ≡ names
unfolding names orders mnemonics
names_are = refl
