-- the literals of a source, in the order of their first use, and their places
use Rattle.std.specs.Prelude.{ℕ, ◌+◌, ◌-◌, Bool, if◌then◌else◌, List, [], ◌∷◌, ◌++◌, length, Option, Some, Ok, is_some, bytes_eq}
use Rattle.std.specs.List.{list_any}
use Rattle.autocoder_statements.specs.declared.operands.Operand.{Operand}
use Rattle.autocoder_statements.specs.declared.operands.Operand.TheVariants as operand
use Rattle.autocoder_statements.specs.declared.reading.Statement.TheVariants as statement
use Rattle.autocoder_layout.specs.Source.{Line}
use Rattle.autocoder_layout.specs.declared.slots.Slot.{Slot}

-- a string of characters
abbrev pub Characters : Type 0
Characters = List ℕ

-- the literal of an operand, if it is one
abbrev pub literal_in : Option Operand → List Characters
literal_in (Some (operand.Literal text)) = text ∷ []
literal_in other = []

-- the literals that a card uses, none if its slot has a fault
unfoldable pub uses_in : Line → Slot → List Characters
uses_in (Ok (statement.Instruction label spelled)) slot = if is_some slot.fault then []
    else literal_in spelled.first ++ literal_in spelled.second
uses_in line slot = []

-- the literals that all cards use, in the order of cards and of operands
unfoldable pub uses_of : List Line → List Slot → List Characters
uses_of [] slots = []
uses_of (line ∷ lines) [] = []
uses_of (line ∷ lines) (slot ∷ slots) = uses_in line slot ++ uses_of lines slots

-- whether a literal is among these uses
abbrev pub is_used : List Characters → Characters → Bool
is_used uses literal = list_any (λ used. bytes_eq used literal) uses

-- the uses without those of a literal that was used before
unfoldable pub firsts : List Characters → List Characters → List Characters
firsts earlier [] = []
firsts earlier (literal ∷ uses) =
    if is_used earlier literal then firsts (earlier ++ literal ∷ []) uses
    else literal ∷ firsts (earlier ++ literal ∷ []) uses

-- the literals of a source in the order of their first use
unfoldable pub literals_of : List Line → List Slot → List Characters
literals_of lines slots = firsts [] (uses_of lines slots)

-- the last position of a literal, when the literals are placed one after the other from a place on
unfoldable pub literal_end : ℕ → List Characters → Characters → ℕ
literal_end place [] wanted = place
literal_end place (literal ∷ literals) wanted =
    if bytes_eq literal wanted then place + length literal - 1
    else literal_end (place + length literal) literals wanted
