-- what is written in answer to a request
use Rattle.std.specs.Prelude.{ℕ, List}
use Rattle.exchanges.specs.declared.messages.Bytes.{Bytes}
use Rattle.exchanges.specs.declared.messages.Bytes.TheVariants.{Fixed, Made}

-- the bytes of a message, whether they are fixed or were made
abbrev pub bytes_in : Bytes → List ℕ
bytes_in (Fixed bytes) = bytes.now
bytes_in (Made bytes) = bytes.items
