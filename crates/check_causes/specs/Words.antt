-- the causes of checks in words, and the check that each is a cause of
use Rattle.std.specs.Prelude.{ℕ, ◌-◌, ◌^◌, false, List, [], ◌++◌, codes, decimal, encode_utf8}
use Rattle.std.specs.Fmt.{format_spec, padded_integral}
use Rattle.core_store.specs.declared.checks.Check.{Check}
use Rattle.core_store.specs.declared.checks.Check.TheVariants as check
use Rattle.check_causes.specs.declared.causes.Cause.{Cause}
use Rattle.check_causes.specs.declared.causes.Cause.TheVariants.{RegisterPast, NoMark, NoEnd, NoInstruction, NoSelection, NoAddress, AddressPast, NoIndex, FieldPast, NoFieldMark, TooFew, MarkWrittenOver, NoDigit, NoNumber, Overlap, NoCard, PunchFull, PrinterFull}

-- a position in five digits, as it is printed
abbrev pub five_digits : ℕ → List ℕ
five_digits n = padded_integral (format_spec 32 0 4 5 (2 ^ 64 - 1)) false [] (decimal n)

-- a cause in words
abbrev pub cause_words : Cause → List ℕ
cause_words RegisterPast = codes "register I is past the storage"
cause_words NoMark = codes "no mark at its first character"
cause_words NoEnd = codes "no mark ends the instruction"
cause_words (NoInstruction glyph) = codes "no such operation or form: " ++ encode_utf8 glyph
cause_words NoSelection = codes "this machine has no stacker selection"
cause_words (NoAddress first second third) =
    codes "no address: " ++ encode_utf8 first ++ encode_utf8 second ++ encode_utf8 third
cause_words (AddressPast position) = codes "past the storage: " ++ five_digits position
cause_words (NoIndex position) =
    codes "no number in the index location at " ++ five_digits position
cause_words (FieldPast position) = codes "a field past the storage: " ++ five_digits position
cause_words (NoFieldMark position) =
    codes "the field at " ++ five_digits position ++ codes " has no mark at or to the left of it"
cause_words (TooFew position) =
    codes "too few positions at or to the left of " ++ five_digits position
cause_words (MarkWrittenOver position) =
    codes "the mark at " ++ five_digits position ++ codes " would be written over before it is read"
cause_words (NoDigit glyph position) =
    codes "no digit: " ++ encode_utf8 glyph ++ codes " at " ++ five_digits position
cause_words (NoNumber position) = codes "no address in the field at " ++ five_digits position
cause_words Overlap = codes "the fields overlap"
cause_words (NoCard count) =
    codes "the reader has no card left: " ++ decimal count ++ codes " were read"
cause_words PunchFull = codes "no more cards can be punched"
cause_words PrinterFull = codes "no more lines or forms can be printed"

-- the check that a cause is a cause of
abbrev pub check_of : Cause → Check
check_of RegisterPast = check.Address
check_of NoMark = check.Instruction
check_of NoEnd = check.Instruction
check_of (NoInstruction glyph) = check.Instruction
check_of NoSelection = check.Instruction
check_of (NoAddress first second third) = check.Address
check_of (AddressPast position) = check.Address
check_of (NoIndex position) = check.Address
check_of (FieldPast position) = check.Address
check_of (NoFieldMark position) = check.Address
check_of (TooFew position) = check.Address
check_of (MarkWrittenOver position) = check.Address
check_of (NoDigit glyph position) = check.Data
check_of (NoNumber position) = check.Data
check_of Overlap = check.Overlap
check_of (NoCard count) = check.ReaderEmpty
check_of PunchFull = check.PunchFull
check_of PrinterFull = check.PrinterFull
