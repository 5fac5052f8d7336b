-- the words for each fault of a source
use Rattle.std.specs.Prelude.{ℕ, List, codes}
use Rattle.autocoder_statements.specs.declared.faults.StatementFault.TheVariants.{BrokenField, UnknownOperation, Operand, Label}
use Rattle.autocoder_layout.specs.declared.faults.SourceFault.{SourceFault}
use Rattle.autocoder_layout.specs.declared.faults.SourceFault.TheVariants.{NoMemory, Statement, TakenLabel, UnknownName, Outside, Reserved, Filled, NoEnd}

-- what a fault means, as the help of the program that assembles says it
unfoldable pub words_of : SourceFault → List ℕ
words_of NoMemory = codes "there is not enough memory"
words_of (Statement BrokenField) = codes "text after a blank in columns 6 to 15 or 16 to 20"
words_of (Statement UnknownOperation) = codes "no such operation"
words_of (Statement Operand) = codes "the operand is wrong"
words_of (Statement Label) = codes "the label is wrong"
words_of TakenLabel = codes "the label is used twice"
words_of UnknownName = codes "no card has this label"
words_of Outside = codes "an address past the storage"
words_of Reserved = codes "a position below 081"
words_of Filled = codes "a position is filled twice"
words_of NoEnd = codes "the END card is missing"
