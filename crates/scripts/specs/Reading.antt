-- the bytes that are read of a script, and why they are not read
use Rattle.std.specs.Prelude.{ℕ, List, Option}
use Rattle.std.specs.declared.io.ErrorKind.{ErrorKind}
use Rattle.std.specs.declared.io.ErrorKind.TheVariants.{OutOfMemory}
use Rattle.texts.specs.Reading.{IsReadUpTo}
use Rattle.scripts.specs.declared.reading.ReadFault.{ReadFault}
use Rattle.scripts.specs.declared.reading.ReadFault.TheVariants.{NoMemory, ReadFailed}

-- these are the bytes of a reader, or the first 4,000,001 of them
abbrev pub IsReadOf : Option (List ℕ) → List ℕ → Type 0
IsReadOf remaining bytes = IsReadUpTo 4000001 remaining bytes

-- the fault of a reader that fails with an error of this kind: want of memory, or the reader's own
abbrev pub read_fault : ErrorKind → ReadFault
read_fault OutOfMemory = NoMemory
read_fault _ = ReadFailed
