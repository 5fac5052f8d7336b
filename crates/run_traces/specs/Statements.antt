-- the statement of an instruction, as it is shown
use Rattle.std.specs.Prelude.{List, [], Option, Some, None, ℕ}
use Rattle.autocoder_layout.specs.declared.slots.Slot.{Slot}
use Rattle.disassembly.specs.Storage.{statement_at}
use Rattle.disassembly.specs.Texts.{statement_text}
use Rattle.disassembly.specs.declared.statements.Statement.{Statement}
use Rattle.machine.specs.Run.{State}
use Rattle.run_traces.specs.Names.{Named}

-- what the cards of a source define; nothing without a source
abbrev pub slots_named : Option Named → List Slot
slots_named None = []
slots_named (Some names) = names.slots

-- a statement with the names that these cards define, if there is a statement
abbrev pub statement_shown : List Slot → Option Statement → List ℕ
statement_shown slots None = []
statement_shown slots (Some statement) = statement_text slots statement

-- the statement that has the characters of the instruction that a machine attempts next, with the
-- names of a source where they are given; nothing if no statement has them
unfoldable pub statement_next : Option Named → State → List ℕ
statement_next names m = statement_shown (slots_named names)
    (statement_at m.works.storage m.works.registers.i)
