-- the usual instructions, which are executed at once, and what is kept of an instruction
use Rattle.std.specs.Prelude.{ℕ, ◌≡◌, ◌==◌, ◌%◌, slice_index_or, ◌&&◌, not, ◌<◌, ◌≤◌, length, List, Bool, true, false, Result, Ok, codes}
use Rattle.core_store.specs.Checked.{and_then}
use Rattle.core_store.specs.Storage.{Storage}
use Rattle.core_store.specs.declared.checks.Check.{Check}
use Rattle.core_store.specs.declared.registers.Registers.{Registers}
use Rattle.machine.specs.declared.cache.Entry.{Entry}
use Rattle.machine.specs.declared.kinds.Kind.{Kind}
use Rattle.machine.specs.declared.kinds.Kind.TheVariants.{Add, Subtract, Compare, ZeroAdd, ZeroSubtract, ModifyAddress, Move, Load, Suppress, Edit, Branch, BranchOnCondition, BranchOnCharacter, BranchOnTest, IndexedMove, IndexedBranch, Other}
use Rattle.machine.specs.declared.shapes.Shape.{Shape}
use Rattle.machine.specs.declared.operations.Course.{Course}
use Rattle.machine.specs.Effect.{Works, effect}
use Rattle.machine.specs.Glyphs.{is_glyph}
use Rattle.machine.specs.Instructions.{decoded_by, operation_by}
use Rattle.machine.specs.Shapes.{instruction_at, operands_at, shape_at, IsShapeOf}

-- whether an instruction of this shape is of this kind, by its first character and its length
abbrev pub is_of_kind : Kind → Shape → Bool
is_of_kind Add shape = is_glyph shape.first (codes "A")
is_of_kind Subtract shape = is_glyph shape.first (codes "S")
is_of_kind Compare shape = is_glyph shape.first (codes "C")
is_of_kind ZeroAdd shape = is_glyph shape.first (codes "?")
is_of_kind ZeroSubtract shape = is_glyph shape.first (codes "!")
is_of_kind ModifyAddress shape = is_glyph shape.first (codes "#")
is_of_kind Move shape = is_glyph shape.first (codes "M")
is_of_kind Load shape = is_glyph shape.first (codes "L")
is_of_kind Suppress shape = is_glyph shape.first (codes "Z")
is_of_kind Edit shape = is_glyph shape.first (codes "E")
is_of_kind Branch shape =
    is_glyph shape.first (codes "B") && (not (shape.length == 5) && not (shape.length == 8))
is_of_kind BranchOnCondition shape = is_glyph shape.first (codes "B") && shape.length == 5
is_of_kind BranchOnCharacter shape = is_glyph shape.first (codes "B") && shape.length == 8
is_of_kind BranchOnTest shape = is_glyph shape.first (codes "V")
is_of_kind IndexedMove shape = is_glyph shape.first (codes "M")
is_of_kind IndexedBranch shape = is_glyph shape.first (codes "B") && shape.length == 8
is_of_kind Other shape = true

-- whether instructions of this kind are executed at once at positions that are kept
abbrev pub is_usual : Kind → Bool
is_usual Add = true
is_usual Subtract = true
is_usual Compare = true
is_usual ZeroAdd = true
is_usual ZeroSubtract = true
is_usual ModifyAddress = true
is_usual Move = true
is_usual Load = true
is_usual Suppress = true
is_usual Edit = true
is_usual Branch = true
is_usual BranchOnCondition = true
is_usual BranchOnCharacter = true
is_usual BranchOnTest = true
is_usual IndexedMove = false
is_usual IndexedBranch = false
is_usual Other = false

-- whether they work on fields at such positions
abbrev pub is_on_fields : Kind → Bool
is_on_fields Add = true
is_on_fields Subtract = true
is_on_fields Compare = true
is_on_fields ZeroAdd = true
is_on_fields ZeroSubtract = true
is_on_fields ModifyAddress = true
is_on_fields Move = true
is_on_fields Load = true
is_on_fields Suppress = true
is_on_fields Edit = true
is_on_fields Branch = false
is_on_fields BranchOnCondition = false
is_on_fields BranchOnCharacter = false
is_on_fields BranchOnTest = false
is_on_fields IndexedMove = false
is_on_fields IndexedBranch = false
is_on_fields Other = false

-- what an instruction of this shape leaves, at the positions at which it works just then, or the
-- check that stops it, where `next` is the position after it
unfoldable pub shape_effect : Shape → ℕ → Works → Result (Works × Course) Check
shape_effect shape next w =
    and_then (operands_at w.storage w.registers shape.addresses) (λ operands.
    effect (operation_by shape.first) (decoded_by (instruction_at shape operands.0 operands.1)) next
    w)

-- an instruction of this shape works at these positions in each storage of this size, whatever
-- stands there and in the registers
pub record WorksAt (size : ℕ) (shape : Shape) (a b : ℕ) : Type 0 where
  pub a_in : a < size
  pub b_in : b < size
  pub operands : (s : Storage) (r : Registers) → length s ≡ size →
      operands_at s r shape.addresses ≡ Ok (a, b)

-- an entry has the shape of its own characters and word marks, is of its kind, and, if that is a
-- usual one, has the positions at which its instruction works in a storage of this size; if it
-- works on fields, position 0 is clear of the sixteen characters that end there
pub record IsRight (size : ℕ) (entry : Entry) : Type 0 where
  pub shape : IsShapeOf entry.characters entry.marks entry.shape
  pub kind : is_of_kind entry.kind entry.shape ≡ true
  pub placed : is_usual entry.kind ≡ true → WorksAt size entry.shape entry.a entry.b
  pub clear : is_on_fields entry.kind ≡ true → (16 ≤ entry.a) × (16 ≤ entry.b)

-- the entry at the place of position i, of 512 places, has the shape of the instruction there
abbrev pub Holds : List Entry → Storage → ℕ → Type 0
Holds entries s i =
    (other : Entry) → shape_at s i ≡ Ok (slice_index_or entries (i % 512) other).shape
