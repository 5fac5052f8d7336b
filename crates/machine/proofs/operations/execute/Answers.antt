use Rattle.std.proofs.Common.{◌≡◌, ◌∙◌, ◌≤◌, Ok, arith, sym, ap}
use Rattle.bcd.specs.Table.{glyph_of}
use Rattle.machine.specs.Glyphs.{is_glyph}
use Rattle.std.specs.Prelude.{codes}
use Rattle.machine.specs.Effect.{effect, works_of}
use Rattle.machine.specs.declared.named.Operation.TheVariants.{NoOperation}
use Rattle.machine.specs.declared.operations.Course.TheVariants.{GoesOn, Halts}
use Rattle.machine.specs.Instructions.{decoded_by, operation_by}
use Rattle.machine.specs.Operations.{operations, row_of}
use Rattle.machine.proofs.OperationEffects.{ends_as, ends_by}
use Rattle.machine.proofs.OperationNames.{names_blank, names_none, names_units}
use Rattle.machine.proofs.operations.execute.Goals as goal
use Rattle.machine.proofs.operations.execute.Goals.{in_default-via-then-this-lt1, in_default-via-else-this-lt1+else-this-lt8}

pub returns-in-49 : goal.returns-in-49
unfolding operation_by row_of operations glyph_of
returns-in-49 g c =
    ends_as c.args.instruction c.args.next 49 (sym c.number.ensures.same ∙ c.in-49.is) _ _ _ (c.work_on_fields.ensures c.args.units.now)

pub returns-in-18 : goal.returns-in-18
unfolding operation_by row_of operations glyph_of
returns-in-18 g c =
    ends_as c.args.instruction c.args.next 18 (sym c.number.ensures.same ∙ c.in-18.is) _ _ _ (c.work_on_fields-in-18.ensures c.args.units.now)

pub returns-in-51 : goal.returns-in-51
unfolding operation_by row_of operations glyph_of
returns-in-51 g c =
    ends_as c.args.instruction c.args.next 51 (sym c.number.ensures.same ∙ c.in-51.is) _ _ _ (c.work_on_fields-in-51.ensures c.args.units.now)

pub returns-in-36 : goal.returns-in-36
unfolding operation_by row_of operations glyph_of
returns-in-36 g c =
    ends_as c.args.instruction c.args.next 36 (sym c.number.ensures.same ∙ c.in-36.is) _ _ _ (c.work_on_fields-in-36.ensures c.args.units.now)

pub returns-in-35 : goal.returns-in-35
unfolding operation_by row_of operations glyph_of
returns-in-35 g c =
    ends_as c.args.instruction c.args.next 35 (sym c.number.ensures.same ∙ c.in-35.is) _ _ _ (c.work_on_fields-in-35.ensures c.args.units.now)

pub returns-in-58 : goal.returns-in-58
unfolding operation_by row_of operations glyph_of
returns-in-58 g c =
    ends_as c.args.instruction c.args.next 58 (sym c.number.ensures.same ∙ c.in-58.is) _ _ _ (c.work_rarely.ensures c.args.units.now)

pub returns-in-42 : goal.returns-in-42
unfolding operation_by row_of operations glyph_of
returns-in-42 g c =
    ends_as c.args.instruction c.args.next 42 (sym c.number.ensures.same ∙ c.in-42.is) _ _ _ (c.work_rarely-in-42.ensures c.args.units.now)

pub returns-in-11 : goal.returns-in-11
unfolding operation_by row_of operations glyph_of
returns-in-11 g c =
    ends_as c.args.instruction c.args.next 11 (sym c.number.ensures.same ∙ c.in-11.is) _ _ _ (c.work_rarely-in-11.ensures c.args.units.now)

pub returns-in-52 : goal.returns-in-52
unfolding operation_by row_of operations glyph_of
returns-in-52 g c =
    ends_as c.args.instruction c.args.next 52 (sym c.number.ensures.same ∙ c.in-52.is) _ _ _ (c.work_rarely-in-52.ensures c.args.units.now)

pub returns-in-24 : goal.returns-in-24
unfolding operation_by row_of operations glyph_of
returns-in-24 g c =
    ends_as c.args.instruction c.args.next 24 (sym c.number.ensures.same ∙ c.in-24.is) _ _ _ (c.work_rarely-in-24.ensures c.args.units.now)

pub returns-in-25 : goal.returns-in-25
unfolding operation_by row_of operations glyph_of
returns-in-25 g c =
    ends_as c.args.instruction c.args.next 25 (sym c.number.ensures.same ∙ c.in-25.is) _ _ _ (c.work_rarely-in-25.ensures c.args.units.now)

pub returns-in-53 : goal.returns-in-53
unfolding operation_by row_of operations glyph_of
returns-in-53 g c =
    ends_as c.args.instruction c.args.next 53 (sym c.number.ensures.same ∙ c.in-53.is) _ _ _ (c.work_rarely-in-53.ensures c.args.units.now)

pub returns-in-27 : goal.returns-in-27
unfolding operation_by row_of operations glyph_of
returns-in-27 g c =
    ends_as c.args.instruction c.args.next 27 (sym c.number.ensures.same ∙ c.in-27.is) _ _ _ (c.work_rarely-in-27.ensures c.args.units.now)

pub returns-in-60 : goal.returns-in-60
unfolding operation_by row_of operations glyph_of
returns-in-60 g c =
    ends_as c.args.instruction c.args.next 60 (sym c.number.ensures.same ∙ c.in-60.is) _ _ _ (c.work_rarely-in-60.ensures c.args.units.now)

pub returns-in-17 : goal.returns-in-17
unfolding operation_by row_of operations glyph_of
returns-in-17 g c =
    ends_as c.args.instruction c.args.next 17 (sym c.number.ensures.same ∙ c.in-17.is) _ _ _ (c.clear.ensures c.args.units.now)

pub returns-in-40 : goal.returns-in-40
unfolding operation_by row_of operations glyph_of
returns-in-40 g c =
    ends_as c.args.instruction c.args.next 40 (sym c.number.ensures.same ∙ c.in-40.is) _ _ _ (c.store_a.ensures c.args.units.now)

pub returns-in-56 : goal.returns-in-56
unfolding operation_by row_of operations glyph_of
returns-in-56 g c =
    ends_as c.args.instruction c.args.next 56 (sym c.number.ensures.same ∙ c.in-56.is) _ _ _ (c.store_b.ensures c.args.units.now)

pub branch-core-requires-clause-branch : goal.branch-core-requires-clause-branch
unfolding glyph_of
branch-core-requires-clause-branch g c =
    ap (λ n. is_glyph n (codes "B")) (sym c.number.ensures.same ∙ c.in-50.is)

pub returns-in-50 : goal.returns-in-50
unfolding effect operation_by row_of operations glyph_of
returns-in-50 g c =
    ends_as c.args.instruction c.args.next 50 (sym c.number.ensures.same ∙ c.in-50.is) (Ok GoesOn) _ _
    (ap (λ r. Ok (works_of (g.C.Core.cells c.args.core.now) r c.args.units.now, GoesOn)) (sym c.branch-core.ensures))

pub branch_on_test-requires-clause-branch : goal.branch_on_test-requires-clause-branch
unfolding glyph_of
branch_on_test-requires-clause-branch g c =
    ap (λ n. is_glyph n (codes "V")) (sym c.number.ensures.same ∙ c.in-21.is)

pub returns-in-21 : goal.returns-in-21
unfolding effect operation_by row_of operations glyph_of
returns-in-21 g c =
    ends_as c.args.instruction c.args.next 21 (sym c.number.ensures.same ∙ c.in-21.is) (Ok GoesOn) _ _
    (ap (λ r. Ok (works_of (g.C.Core.cells c.args.core.now) r c.args.units.now, GoesOn)) (sym c.branch_on_test.ensures))

pub give_order-requires : goal.give_order-requires
unfolding glyph_of
give_order-requires g c =
    ap (λ n. is_glyph n (codes "F")) (sym c.number.ensures.same ∙ c.in-54.is)

pub returns-in-54 : goal.returns-in-54
unfolding operation_by row_of operations glyph_of
returns-in-54 g c =
    ends_as c.args.instruction c.args.next 54 (sym c.number.ensures.same ∙ c.in-54.is) _ _ _ (c.give_order.ensures (g.C.Core.cells c.args.core.now))

pub select_pocket-requires : goal.select_pocket-requires
unfolding glyph_of
select_pocket-requires g c =
    ap (λ n. is_glyph n (codes "K")) (sym c.number.ensures.same ∙ c.in-34.is)

pub returns-in-34 : goal.returns-in-34
unfolding operation_by row_of operations glyph_of
returns-in-34 g c =
    ends_as c.args.instruction c.args.next 34 (sym c.number.ensures.same ∙ c.in-34.is) _ _ _ (c.select_pocket.ensures (g.C.Core.cells c.args.core.now))

pub returns-in-59 : goal.returns-in-59
unfolding effect operation_by row_of operations glyph_of
returns-in-59 g c =
    ends_as c.args.instruction c.args.next 59 (sym c.number.ensures.same ∙ c.in-59.is) (Ok Halts) _ _
    (ap (λ r. Ok (works_of (g.C.Core.cells c.args.core.now) r c.args.units.now, Halts)) (sym c.halt.ensures))

pub returns-in-1-to-7 : goal.returns-in-1-to-7
returns-in-1-to-7 g c =
    let low : 1 ≤ c.args.instruction.first = omega arith in
    let high : c.args.instruction.first ≤ 7 = omega arith in
    let w = works_of (g.C.Core.cells c.args.core.now) c.args.registers.now c.args.units.now in
    ends_by _ w _ _ _ (ap (λ o. effect o (decoded_by c.args.instruction) c.args.next w) (names_units c.args.instruction.first low high)) c.operate_units.ensures

pub returns-in_default : goal.returns-in_default
unfolding effect
returns-in_default g c =
    let none : operation_by c.args.instruction.first ≡ NoOperation = elim c.in_default.branch [
      | in_default-via-then-this-lt1 w ↦ names_blank c.args.instruction.first (omega arith)
      | in_default-via-else-this-lt1+else-this-lt8 w ↦ names_none c.args.instruction.first (omega arith) (omega arith) (omega arith) (omega arith) (omega arith) (omega arith) (omega arith) (omega arith) (omega arith) (omega arith) (omega arith) (omega arith) (omega arith) (omega arith) (omega arith) (omega arith) (omega arith) (omega arith) (omega arith) (omega arith) (omega arith) (omega arith) (omega arith) (omega arith)
    ] in
    let w = works_of (g.C.Core.cells c.args.core.now) c.args.registers.now c.args.units.now in
    ap (λ o. effect o (decoded_by c.args.instruction) c.args.next w) none
