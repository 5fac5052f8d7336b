-- what the kinds of instructions say, and the positions that they name
use Rattle.std.proofs.Common.{◌≡◌, ◌≢◌, ℕ, ◌<◌, ◌==◌, ◌&&◌, not, Bool, true, false, Option, Some, None, Ok, ◌⊎◌, inl, inr, refl, sym, ap, ◌∙◌, arith, length, is_some}
use Rattle.std.proofs.lemmas.Bool.{lt-ltb}
use Rattle.std.proofs.lemmas.Bool.Decides.{eqb_tells}
use Rattle.core_store.specs.Checked.{and_then}
use Rattle.core_store.specs.Storage.{Storage}
use Rattle.core_store.specs.declared.registers.Registers.{Registers}
use Rattle.addresses.specs.Addresses.{Tagged}
use Rattle.addresses.specs.Effective.{position_of, with_index}
use Rattle.addresses.specs.declared.tagged.IndexLocation.{IndexLocation}
use Rattle.machine.specs.declared.shapes.Addresses.TheVariants.{One, Two}
use Rattle.std.specs.Prelude.{codes}
use Rattle.machine.specs.declared.operations.Course.TheVariants.{GoesOn}
use Rattle.machine.specs.declared.shapes.Shape.{Shape}
use Rattle.machine.specs.Effect.{Works, after_branch, effect, works_of}
use Rattle.machine.specs.Glyphs.{is_glyph}
use Rattle.machine.specs.Instructions.{decoded_by, operation_by}
use Rattle.machine.specs.Kinds.{shape_effect}
use Rattle.machine.specs.Shapes.{instruction_at, operands_at}
use Rattle.machine.specs.Word.{LooksInside}
use Rattle.machine.specs.declared.named.Modifier.{Modifier}
use Rattle.machine.specs.declared.named.Modifier.TheVariants.{Plain, OnCondition, OnCharacter, OnTest, ByOrder, ToPocket}
use Rattle.machine.proofs.OperationNames.{names_branch, names_branch_on_test}

-- an address without an index location that is in the storage
pub position_fixed : (size base : ℕ) (index : Option IndexLocation) → is_some index ≡ false → base < size → (s : Storage) → length s ≡ size → position_of s (record { base = base; index = index }) ≡ Ok base
unfolding with_index
position_fixed size base None plain inside s same = rw (lt-ltb base (length s) (omega arith)) refl
position_fixed size base (Some location) plain inside s same = absurd (cc)

pub both_true : (a b : Bool) → (a && b) ≡ true → (a ≡ true) × (b ≡ true)
both_true true b h = (refl, h)
both_true false b h = absurd (cc)

pub unlike : (n k : ℕ) → not (n == k) ≡ true → n ≢ k
unlike n k h = by_case (eqb_tells n k)
  where
    by_case : ((n == k) ≡ true) × (n ≡ k) ⊎ ((n == k) ≡ false) × (n ≢ k) → n ≢ k
    by_case (inl same) = let no : not true ≡ true = rw same.0 at h in absurd (cc)
    by_case (inr other) = other.1

module _ (s : Storage) (r : Registers) where
  pub one_placed : (address : Tagged) (a : ℕ) → position_of s address ≡ Ok a → operands_at s r (One address) ≡ Ok (a, a)
  unfolding operands_at
  one_placed address a found = rw found refl

  pub two_placed : (address other : Tagged) (a b : ℕ) → position_of s address ≡ Ok a → position_of s other ≡ Ok b → operands_at s r (Two address other) ≡ Ok (a, b)
  unfolding operands_at
  two_placed address other a b found then = rw (found, then) refl

-- what is done at the positions of the moment
pub placed_effect : (shape : Shape) (positions : ℕ × ℕ) (next : ℕ) (w : Works) → operands_at w.storage w.registers shape.addresses ≡ Ok positions →
    shape_effect shape next w ≡ effect (operation_by shape.first) (decoded_by (instruction_at shape positions.0 positions.1)) next w
unfolding shape_effect
placed_effect shape positions next w found =
    ap (λ o. and_then o (λ operands. effect (operation_by shape.first) (decoded_by (instruction_at shape operands.0 operands.1)) next w)) found

-- register I put where it is
pub same_i : (r : Registers) (next : ℕ) → r.i ≡ next → record r { i = next } ≡ r
same_i r next same = rw (← same) refl

-- a branch leaves all but the registers
pub branch_done : (shape : Shape) (a b next : ℕ) (w : Works) (after : Registers) → is_glyph shape.first (codes "B") ≡ true → after ≡ after_branch (decoded_by (instruction_at shape a b)) next w →
    effect (operation_by shape.first) (decoded_by (instruction_at shape a b)) next w ≡ Ok (works_of w.storage after w.units, GoesOn)
unfolding effect
branch_done shape a b next w after named is =
    ap (λ o. effect o (decoded_by (instruction_at shape a b)) next w) (names_branch shape.first named) ∙ ap (λ r. Ok (works_of w.storage r w.units, GoesOn)) (sym is)

pub test_done : (shape : Shape) (a b next : ℕ) (w : Works) (after : Registers) → is_glyph shape.first (codes "V") ≡ true → after ≡ after_branch (decoded_by (instruction_at shape a b)) next w →
    effect (operation_by shape.first) (decoded_by (instruction_at shape a b)) next w ≡ Ok (works_of w.storage after w.units, GoesOn)
unfolding effect
test_done shape a b next w after named is =
    ap (λ o. effect o (decoded_by (instruction_at shape a b)) next w) (names_branch_on_test shape.first named) ∙ ap (λ r. Ok (works_of w.storage r w.units, GoesOn)) (sym is)

-- whatever an instruction tests at a position is inside where the position is
pub inside_any : (modifier : Modifier) (b size : ℕ) → b < size → LooksInside modifier b size
inside_any Plain b size inside = tt
inside_any (OnCondition condition) b size inside = tt
inside_any (OnCharacter code) b size inside = inside
inside_any (OnTest test) b size inside = inside
inside_any (ByOrder order) b size inside = tt
inside_any (ToPocket pocket) b size inside = tt
