use Rattle.std.proofs.Common.{◌∙◌, sym, arith}
use Rattle.check_causes.specs.Causes.{operation_told}
use Rattle.check_causes.specs.Fields.{work_told}
use Rattle.check_causes.proofs.OperationLemmas.{stopped_as, by_none, glyph_33, glyph_35, glyph_41, glyph_44, glyph_47, glyph_63, glyph_65, glyph_67, glyph_68, glyph_69, glyph_70, glyph_72, glyph_75, glyph_76, glyph_77, glyph_81, glyph_83, glyph_89, glyph_90}
use Rattle.check_causes.proofs.operations.test_other.Goals as goal

pub returns-in-65 : goal.returns-in-65
unfolding operation_told work_told
returns-in-65 g c =
    stopped_as c.args.instruction.first _ _ _ c.args.units.now c.args.instruction.a c.args.instruction.b _ (glyph_65 c.args.instruction.first (sym c.glyph.ensures ∙ c.in-65.is)) c.test_sum.ensures

pub returns-in-83 : goal.returns-in-83
unfolding operation_told work_told
returns-in-83 g c =
    stopped_as c.args.instruction.first _ _ _ c.args.units.now c.args.instruction.a c.args.instruction.b _ (glyph_83 c.args.instruction.first (sym c.glyph.ensures ∙ c.in-83.is)) c.test_sum-in-83.ensures

pub returns-in-63 : goal.returns-in-63
unfolding operation_told work_told
returns-in-63 g c =
    stopped_as c.args.instruction.first _ _ _ c.args.units.now c.args.instruction.a c.args.instruction.b _ (glyph_63 c.args.instruction.first (sym c.glyph.ensures ∙ c.in-63.is)) c.test_copy.ensures

pub returns-in-33 : goal.returns-in-33
unfolding operation_told work_told
returns-in-33 g c =
    stopped_as c.args.instruction.first _ _ _ c.args.units.now c.args.instruction.a c.args.instruction.b _ (glyph_33 c.args.instruction.first (sym c.glyph.ensures ∙ c.in-33.is)) c.test_copy-in-33.ensures

pub returns-in-67 : goal.returns-in-67
unfolding operation_told work_told
returns-in-67 g c =
    stopped_as c.args.instruction.first _ _ _ c.args.units.now c.args.instruction.a c.args.instruction.b _ (glyph_67 c.args.instruction.first (sym c.glyph.ensures ∙ c.in-67.is)) c.test_comparison.ensures

pub returns-in-35 : goal.returns-in-35
unfolding operation_told work_told
returns-in-35 g c =
    stopped_as c.args.instruction.first _ _ _ c.args.units.now c.args.instruction.a c.args.instruction.b _ (glyph_35 c.args.instruction.first (sym c.glyph.ensures ∙ c.in-35.is)) c.test_modification.ensures

pub returns-in-77 : goal.returns-in-77
unfolding operation_told work_told
returns-in-77 g c =
    stopped_as c.args.instruction.first _ _ _ c.args.units.now c.args.instruction.a c.args.instruction.b _ (glyph_77 c.args.instruction.first (sym c.glyph.ensures ∙ c.in-77.is)) c.test_move.ensures

pub returns-in-76 : goal.returns-in-76
unfolding operation_told work_told
returns-in-76 g c =
    stopped_as c.args.instruction.first _ _ _ c.args.units.now c.args.instruction.a c.args.instruction.b _ (glyph_76 c.args.instruction.first (sym c.glyph.ensures ∙ c.in-76.is)) c.test_load.ensures

pub returns-in-68 : goal.returns-in-68
unfolding operation_told work_told
returns-in-68 g c =
    stopped_as c.args.instruction.first _ _ _ c.args.units.now c.args.instruction.a c.args.instruction.b _ (glyph_68 c.args.instruction.first (sym c.glyph.ensures ∙ c.in-68.is)) c.test_places.ensures.places

pub returns-in-89 : goal.returns-in-89
unfolding operation_told work_told
returns-in-89 g c =
    stopped_as c.args.instruction.first _ _ _ c.args.units.now c.args.instruction.a c.args.instruction.b _ (glyph_89 c.args.instruction.first (sym c.glyph.ensures ∙ c.in-89.is)) c.test_places-in-89.ensures.places

pub returns-in-44 : goal.returns-in-44
unfolding operation_told work_told
returns-in-44 g c =
    stopped_as c.args.instruction.first _ _ _ c.args.units.now c.args.instruction.a c.args.instruction.b _ (glyph_44 c.args.instruction.first (sym c.glyph.ensures ∙ c.in-44.is)) c.test_places-in-44.ensures.places

pub returns-in-41 : goal.returns-in-41
unfolding operation_told work_told
returns-in-41 g c =
    stopped_as c.args.instruction.first _ _ _ c.args.units.now c.args.instruction.a c.args.instruction.b _ (glyph_41 c.args.instruction.first (sym c.glyph.ensures ∙ c.in-41.is)) c.test_places-in-41.ensures.places

pub returns-in-90 : goal.returns-in-90
unfolding operation_told work_told
returns-in-90 g c =
    stopped_as c.args.instruction.first _ _ _ c.args.units.now c.args.instruction.a c.args.instruction.b _ (glyph_90 c.args.instruction.first (sym c.glyph.ensures ∙ c.in-90.is)) c.test_suppression.ensures

pub returns-in-69 : goal.returns-in-69
unfolding operation_told work_told
returns-in-69 g c =
    stopped_as c.args.instruction.first _ _ _ c.args.units.now c.args.instruction.a c.args.instruction.b _ (glyph_69 c.args.instruction.first (sym c.glyph.ensures ∙ c.in-69.is)) c.test_edit.ensures

pub returns-in-47 : goal.returns-in-47
unfolding operation_told work_told
returns-in-47 g c =
    stopped_as c.args.instruction.first _ _ _ c.args.units.now c.args.instruction.a c.args.instruction.b _ (glyph_47 c.args.instruction.first (sym c.glyph.ensures ∙ c.in-47.is)) c.test_place.ensures.place

pub returns-in-70 : goal.returns-in-70
unfolding operation_told work_told
returns-in-70 g c =
    stopped_as c.args.instruction.first _ _ _ c.args.units.now c.args.instruction.a c.args.instruction.b _ (glyph_70 c.args.instruction.first (sym c.glyph.ensures ∙ c.in-70.is)) c.test_carriage.ensures

pub returns-in-75 : goal.returns-in-75
unfolding operation_told work_told
returns-in-75 g c =
    stopped_as c.args.instruction.first _ _ _ c.args.units.now c.args.instruction.a c.args.instruction.b _ (glyph_75 c.args.instruction.first (sym c.glyph.ensures ∙ c.in-75.is)) c.test_pocket.ensures

pub returns-in-81 : goal.returns-in-81
unfolding operation_told work_told
returns-in-81 g c =
    stopped_as c.args.instruction.first _ _ _ c.args.units.now c.args.instruction.a c.args.instruction.b _ (glyph_81 c.args.instruction.first (sym c.glyph.ensures ∙ c.in-81.is)) c.test_three.ensures.three

pub returns-in-72 : goal.returns-in-72
unfolding operation_told work_told
returns-in-72 g c =
    stopped_as c.args.instruction.first _ _ _ c.args.units.now c.args.instruction.a c.args.instruction.b _ (glyph_72 c.args.instruction.first (sym c.glyph.ensures ∙ c.in-72.is)) c.test_three-in-72.ensures.three

pub returns-in_default : goal.returns-in_default
returns-in_default g c = by_none c.args.instruction.first _ _ c.args.units.now c.args.instruction.a c.args.instruction.b c.requires.below c.requires.high (omega (arith, sym c.glyph.ensures)) (omega (arith, sym c.glyph.ensures)) (omega (arith, sym c.glyph.ensures)) (omega (arith, sym c.glyph.ensures)) (omega (arith, sym c.glyph.ensures)) (omega (arith, sym c.glyph.ensures)) (omega (arith, sym c.glyph.ensures)) (omega (arith, sym c.glyph.ensures)) (omega (arith, sym c.glyph.ensures)) (omega (arith, sym c.glyph.ensures)) (omega (arith, sym c.glyph.ensures)) (omega (arith, sym c.glyph.ensures)) (omega (arith, sym c.glyph.ensures)) (omega (arith, sym c.glyph.ensures)) (omega (arith, sym c.glyph.ensures)) (omega (arith, sym c.glyph.ensures)) (omega (arith, sym c.glyph.ensures)) (omega (arith, sym c.glyph.ensures)) (omega (arith, sym c.glyph.ensures))
