use Rattle.std.proofs.Common.{◌∙◌, ap, arith, length, refl}
use Rattle.std.proofs.lemmas.Bool.{eqb-true}
use Rattle.core_store.specs.Storage.{largest_size}
use Rattle.machine.specs.Effect.{works_of}
use Rattle.machine.specs.Instructions.{modifier_by}
use Rattle.machine.specs.Kinds.{is_usual}
use Rattle.machine.proofs.KindLemmas.{both_true, inside_any, placed_effect, test_done}
use Rattle.machine.proofs.at_once.branch_rarely.Goals as goal

pub branch_on_test-requires-clause-inside : goal.branch_on_test-requires-clause-inside
branch_on_test-requires-clause-inside g c =
    let entry = c.args.entry.now in
    let placed = c.requires.right.placed (ap is_usual c.in-BranchOnTest.is) in
    rw c.working_at-instruction.ensures (inside_any (modifier_by entry.shape.first entry.shape.length entry.shape.last) entry.b (length (g.C.Core.cells c.args.core.now)) placed.b_in)

pub branch_on_test-requires-clause-below : goal.branch_on_test-requires-clause-below
branch_on_test-requires-clause-below g c =
    let entry = c.args.entry.now in
    let placed = c.requires.right.placed (ap is_usual c.in-BranchOnTest.is) in
    rw c.working_at-instruction.ensures (inside_any (modifier_by entry.shape.first entry.shape.length entry.shape.last) entry.b largest_size (omega (arith, placed.b_in, c.requires.size)))

pub returns-in-BranchOnTest-clause-done : goal.returns-in-BranchOnTest-clause-done
returns-in-BranchOnTest-clause-done g c = λ _.
    let entry = c.args.entry.now in
    let w = works_of (g.C.Core.cells c.args.core.now) c.args.registers.now c.args.units.now in
    placed_effect entry.shape (entry.a, entry.b) c.args.next w ((c.requires.right.placed (ap is_usual c.in-BranchOnTest.is)).operands w.storage w.registers refl)
    ∙ test_done entry.shape entry.a entry.b c.args.next w c.branch_on_test.new.registers (rw c.in-BranchOnTest.is at c.requires.right.kind)
    (rw c.working_at-instruction.ensures at c.branch_on_test.ensures)

pub branch_indexed-requires-clause-named : goal.branch_indexed-requires-clause-named
branch_indexed-requires-clause-named g c = (both_true _ _ (rw c.in-IndexedBranch.is at c.requires.right.kind)).0

pub branch_indexed-requires-clause-eight : goal.branch_indexed-requires-clause-eight
branch_indexed-requires-clause-eight g c = eqb-true c.args.entry.now.shape.length 8 (both_true _ _ (rw c.in-IndexedBranch.is at c.requires.right.kind)).1
