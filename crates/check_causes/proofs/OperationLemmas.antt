-- the operations by the glyphs of their characters
use Rattle.std.proofs.Common.{◌≡◌, ◌≢◌, ℕ, ◌<◌, ◌≤◌, ◌==◌, ◌||◌, Bool, true, false, refl, sym, ap, ◌∙◌, ltb}
use Rattle.std.proofs.lemmas.Bool.{ne_eqb, le-ltb}
use Rattle.bcd.specs.Table.{glyph_of}
use Rattle.bcd.proofs.Tables.{at_each}
use Rattle.machine.specs.declared.named.Operation.{Operation}
use Rattle.machine.specs.declared.named.Operation.TheVariants.{OnFields, ClearStorage, Branch, BranchOnMarkOrZone, Operate, MoveCarriage, ChoosePocket, StoreA, StoreB, Halt, NoOperation}
use Rattle.machine.specs.declared.operations.FieldOperation.TheVariants.{Add, Subtract, ZeroAdd, ZeroSubtract, Compare, ModifyAddress, Move, Load, MoveDigit, MoveZone, Suppress, Edit, SetMark, ClearMark}
use Rattle.machine.specs.declared.named.Modifier.{Modifier}
use Rattle.core_store.specs.Storage.{Storage}
use Rattle.units.specs.declared.units.Units.{Units}
use Rattle.machine.specs.Instructions.{operation_by}
use Rattle.machine.specs.Operations.{operations, row_of, devices}
use Rattle.machine.proofs.OperationNames.{names_units}
use Rattle.check_causes.specs.Tested.{Tested, passed}
use Rattle.check_causes.specs.Devices.{devices_told}
use Rattle.check_causes.specs.Causes.{operation_told}

-- an operation is stopped as the one that a glyph names
pub stopped_as : (first : ℕ) (o : Operation) (modifier : Modifier) (s : Storage) (u : Units) (a b : ℕ) (result : Tested) → operation_by first ≡ o
    → result ≡ operation_told o modifier s u a b → result ≡ operation_told (operation_by first) modifier s u a b
stopped_as first o modifier s u a b result e h = h ∙ ap (λ x. operation_told x modifier s u a b) (sym e)

pub glyph_65 : (first : ℕ) → glyph_of first ≡ 65 → operation_by first ≡ OnFields Add
unfolding operation_by row_of operations
glyph_65 first e = rw e refl

pub glyph_83 : (first : ℕ) → glyph_of first ≡ 83 → operation_by first ≡ OnFields Subtract
unfolding operation_by row_of operations
glyph_83 first e = rw e refl

pub glyph_63 : (first : ℕ) → glyph_of first ≡ 63 → operation_by first ≡ OnFields ZeroAdd
unfolding operation_by row_of operations
glyph_63 first e = rw e refl

pub glyph_33 : (first : ℕ) → glyph_of first ≡ 33 → operation_by first ≡ OnFields ZeroSubtract
unfolding operation_by row_of operations
glyph_33 first e = rw e refl

pub glyph_67 : (first : ℕ) → glyph_of first ≡ 67 → operation_by first ≡ OnFields Compare
unfolding operation_by row_of operations
glyph_67 first e = rw e refl

pub glyph_35 : (first : ℕ) → glyph_of first ≡ 35 → operation_by first ≡ OnFields ModifyAddress
unfolding operation_by row_of operations
glyph_35 first e = rw e refl

pub glyph_77 : (first : ℕ) → glyph_of first ≡ 77 → operation_by first ≡ OnFields Move
unfolding operation_by row_of operations
glyph_77 first e = rw e refl

pub glyph_76 : (first : ℕ) → glyph_of first ≡ 76 → operation_by first ≡ OnFields Load
unfolding operation_by row_of operations
glyph_76 first e = rw e refl

pub glyph_68 : (first : ℕ) → glyph_of first ≡ 68 → operation_by first ≡ OnFields MoveDigit
unfolding operation_by row_of operations
glyph_68 first e = rw e refl

pub glyph_89 : (first : ℕ) → glyph_of first ≡ 89 → operation_by first ≡ OnFields MoveZone
unfolding operation_by row_of operations
glyph_89 first e = rw e refl

pub glyph_90 : (first : ℕ) → glyph_of first ≡ 90 → operation_by first ≡ OnFields Suppress
unfolding operation_by row_of operations
glyph_90 first e = rw e refl

pub glyph_69 : (first : ℕ) → glyph_of first ≡ 69 → operation_by first ≡ OnFields Edit
unfolding operation_by row_of operations
glyph_69 first e = rw e refl

pub glyph_44 : (first : ℕ) → glyph_of first ≡ 44 → operation_by first ≡ OnFields SetMark
unfolding operation_by row_of operations
glyph_44 first e = rw e refl

pub glyph_41 : (first : ℕ) → glyph_of first ≡ 41 → operation_by first ≡ OnFields ClearMark
unfolding operation_by row_of operations
glyph_41 first e = rw e refl

pub glyph_47 : (first : ℕ) → glyph_of first ≡ 47 → operation_by first ≡ ClearStorage
unfolding operation_by row_of operations
glyph_47 first e = rw e refl

pub glyph_70 : (first : ℕ) → glyph_of first ≡ 70 → operation_by first ≡ MoveCarriage
unfolding operation_by row_of operations
glyph_70 first e = rw e refl

pub glyph_75 : (first : ℕ) → glyph_of first ≡ 75 → operation_by first ≡ ChoosePocket
unfolding operation_by row_of operations
glyph_75 first e = rw e refl

pub glyph_72 : (first : ℕ) → glyph_of first ≡ 72 → operation_by first ≡ StoreB
unfolding operation_by row_of operations
glyph_72 first e = rw e refl

pub glyph_81 : (first : ℕ) → glyph_of first ≡ 81 → operation_by first ≡ StoreA
unfolding operation_by row_of operations
glyph_81 first e = rw e refl

-- an operation of the units
pub by_devices : (first : ℕ) (modifier : Modifier) (s : Storage) (u : Units) (a b : ℕ) → 1 ≤ first → first ≤ 7 → devices_told (devices first) u ≡ operation_told (operation_by first) modifier s u a b
unfolding operation_told
by_devices first modifier s u a b low high = ap (λ x. operation_told x modifier s u a b) (sym (names_units first low high))

-- whether an operation has no test of its own
abbrev is_free : Operation → Bool
is_free (OnFields operation) = false
is_free ClearStorage = false
is_free Branch = true
is_free BranchOnMarkOrZone = true
is_free (Operate devices) = false
is_free MoveCarriage = false
is_free ChoosePocket = false
is_free StoreA = false
is_free StoreB = false
is_free Halt = true
is_free NoOperation = true

free_passes : (o : Operation) (modifier : Modifier) (s : Storage) (u : Units) (a b : ℕ) → is_free o ≡ true → passed ≡ operation_told o modifier s u a b
unfolding operation_told
free_passes (OnFields operation) modifier s u a b h = absurd (cc)
free_passes ClearStorage modifier s u a b h = absurd (cc)
free_passes Branch modifier s u a b h = refl
free_passes BranchOnMarkOrZone modifier s u a b h = refl
free_passes (Operate devices) modifier s u a b h = absurd (cc)
free_passes MoveCarriage modifier s u a b h = absurd (cc)
free_passes ChoosePocket modifier s u a b h = absurd (cc)
free_passes StoreA modifier s u a b h = absurd (cc)
free_passes StoreB modifier s u a b h = absurd (cc)
free_passes Halt modifier s u a b h = refl
free_passes NoOperation modifier s u a b h = refl

-- whether a glyph names an operation that has a test of its own, or a character is one of the lowest
abbrev is_tested : ℕ → Bool → Bool
is_tested glyph low = glyph == 65 || (glyph == 83 || (glyph == 63 || (glyph == 33 || (glyph == 67 || (glyph == 35 || (glyph == 77 || (glyph == 76 || (glyph == 68 || (glyph == 89 || (glyph == 90 || (glyph == 69 || (glyph == 44 || (glyph == 41 || (glyph == 47 || (glyph == 70 || (glyph == 75 || (glyph == 72 || (glyph == 81 || (low)))))))))))))))))))

or_last : (a b : Bool) → a ≡ false → (a || b) ≡ true → b ≡ true
or_last true b e h = absurd (cc)
or_last false b e h = h

none_tested : (glyph : ℕ) (low : Bool) → glyph ≢ 65 → glyph ≢ 83 → glyph ≢ 63 → glyph ≢ 33 → glyph ≢ 67 → glyph ≢ 35 → glyph ≢ 77 → glyph ≢ 76 → glyph ≢ 68 → glyph ≢ 89 → glyph ≢ 90 → glyph ≢ 69 → glyph ≢ 44 → glyph ≢ 41 → glyph ≢ 47 → glyph ≢ 70 → glyph ≢ 75 → glyph ≢ 72 → glyph ≢ 81 → low ≡ false → is_tested glyph low ≡ false
none_tested glyph low h65 h83 h63 h33 h67 h35 h77 h76 h68 h89 h90 h69 h44 h41 h47 h70 h75 h72 h81 e = rw (ne_eqb glyph 65 h65, ne_eqb glyph 83 h83, ne_eqb glyph 63 h63, ne_eqb glyph 33 h33, ne_eqb glyph 67 h67, ne_eqb glyph 35 h35, ne_eqb glyph 77 h77, ne_eqb glyph 76 h76, ne_eqb glyph 68 h68, ne_eqb glyph 89 h89, ne_eqb glyph 90 h90, ne_eqb glyph 69 h69, ne_eqb glyph 44 h44, ne_eqb glyph 41 h41, ne_eqb glyph 47 h47, ne_eqb glyph 70 h70, ne_eqb glyph 75 h75, ne_eqb glyph 72 h72, ne_eqb glyph 81 h81, e) refl

pub by_none : (first : ℕ) (modifier : Modifier) (s : Storage) (u : Units) (a b : ℕ) → first < 64 → 8 ≤ first → glyph_of first ≢ 65 → glyph_of first ≢ 83 → glyph_of first ≢ 63 → glyph_of first ≢ 33 → glyph_of first ≢ 67 → glyph_of first ≢ 35 → glyph_of first ≢ 77 → glyph_of first ≢ 76 → glyph_of first ≢ 68 → glyph_of first ≢ 89 → glyph_of first ≢ 90 → glyph_of first ≢ 69 → glyph_of first ≢ 44 → glyph_of first ≢ 41 → glyph_of first ≢ 47 → glyph_of first ≢ 70 → glyph_of first ≢ 75 → glyph_of first ≢ 72 → glyph_of first ≢ 81 → passed ≡ operation_told (operation_by first) modifier s u a b
unfolding operation_by row_of operations glyph_of
by_none first modifier s u a b low high h65 h83 h63 h33 h67 h35 h77 h76 h68 h89 h90 h69 h44 h41 h47 h70 h75 h72 h81 =
    free_passes (operation_by first) modifier s u a b (or_last _ _ (none_tested (glyph_of first) (ltb first 8) h65 h83 h63 h33 h67 h35 h77 h76 h68 h89 h90 h69 h44 h41 h47 h70 h75 h72 h81 (le-ltb first 8 high)) (each first low))
  where
    each : (first : ℕ) → first < 64 → (is_tested (glyph_of first) (ltb first 8) || is_free (operation_by first)) ≡ true
    each first low = at_each (λ k. is_tested (glyph_of k) (ltb k 8) || is_free (operation_by k)) 64 refl first low

pub blank_passes : (first : ℕ) (modifier : Modifier) (s : Storage) (u : Units) (a b : ℕ) → first ≡ 0 → passed ≡ operation_told (operation_by first) modifier s u a b
unfolding operation_by row_of operations glyph_of
blank_passes first modifier s u a b e = free_passes (operation_by first) modifier s u a b (ap (λ k. is_free (operation_by k)) e)
