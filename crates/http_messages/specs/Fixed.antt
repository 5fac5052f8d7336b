-- answers that are fixed
use Rattle.std.specs.Prelude.{ℕ, ◌==◌, List, ◌++◌, if◌then◌else◌, codes, decimal}
use Rattle.http_messages.specs.Replies.{answer_bytes}
use Rattle.http_messages.specs.declared.fixed.Fault.{Fault}
use Rattle.http_messages.specs.declared.fixed.Fault.TheVariants as fault

-- the status with which a request is refused: one of 404, 405, 411, 413 and 431, else 400
abbrev pub refusing_status : ℕ → ℕ
refusing_status status =
    if status == 404 then 404 else
    if status == 405 then 405 else
    if status == 411 then 411 else
    if status == 413 then 413 else
    if status == 431 then 431 else
    400

-- the number of a fault: 1 for memory, 2 for the store, 3 for memory for the reply
abbrev pub fault_number : Fault → ℕ
fault_number fault.NoMemory = 1
fault_number fault.Store = 2
fault_number fault.NoMemoryForReply = 3

-- the status of the answer for a fault
abbrev pub fault_status : Fault → ℕ
fault_status fault.NoMemory = 503
fault_status fault.Store = 503
fault_status fault.NoMemoryForReply = 500

-- the whole answer for a fault, with the fault's number as its body
abbrev pub fault_bytes : Fault → List ℕ
fault_bytes f =
    answer_bytes (fault_status f) (codes "application/json")
    (codes "{\"fault\":" ++ decimal (fault_number f) ++ codes "}")
