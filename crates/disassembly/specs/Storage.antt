-- the statement in a storage
use Rattle.std.specs.Prelude.{ℕ, Option, option_and_then}
use Rattle.core_store.specs.Storage.{Storage}
use Rattle.machine.specs.Word.{word}
use Rattle.disassembly.specs.Statements.{statement_of}
use Rattle.disassembly.specs.declared.statements.Statement.{Statement}

-- the statement that has the characters of the instruction at a position, if one begins and ends
-- there and it has one
unfoldable pub statement_at : Storage → ℕ → Option Statement
statement_at s i = option_and_then statement_of (word s i)
