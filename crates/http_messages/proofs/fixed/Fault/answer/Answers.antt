use Rattle.std.proofs.Common.{ap, sym}
use Rattle.std.specs.Fmt.{digits}
use Rattle.http_messages.specs.Fixed.{fault_bytes}
use Rattle.http_messages.proofs.fixed.Fault.answer.Goals as goal

pub returns-in-NoMemory : goal.returns-in-NoMemory
unfolding digits
returns-in-NoMemory c = ap fault_bytes (sym c.in-NoMemory.is)

pub returns-in-Store : goal.returns-in-Store
unfolding digits
returns-in-Store c = ap fault_bytes (sym c.in-Store.is)

pub returns-in-NoMemoryForReply : goal.returns-in-NoMemoryForReply
unfolding digits
returns-in-NoMemoryForReply c = ap fault_bytes (sym c.in-NoMemoryForReply.is)
