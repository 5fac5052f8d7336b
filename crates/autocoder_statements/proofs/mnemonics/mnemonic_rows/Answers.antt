use Rattle.std.proofs.Common.{◌≡◌, refl}
use Rattle.autocoder_statements.specs.Mnemonics.{mnemonics}
use Rattle.autocoder_statements.specs.declared.mnemonics.TheConstants.{MNEMONICS}
use Rattle.autocoder_statements.proofs.mnemonics.mnemonic_rows.Goals as goal

table_is : MNEMONICS ≡ mnemonics
unfolding mnemonics
table_is = refl

pub returns : goal.returns
returns c = table_is
