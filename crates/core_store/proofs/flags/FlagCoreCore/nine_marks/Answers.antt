use Rattle.std.proofs.Common.{ℕ, false, length, get_or, ◌≡◌, ◌+◌, ◌-◌, ◌∙◌, ap, arith}
use Rattle.std.specs.Int.{from_bool}
use Rattle.std.proofs.lemmas.List.{get_or_default}
use Rattle.core_store.specs.Storage.{Cell, Storage, is_marked}
use Rattle.core_store.proofs.MarkRows.{byte_most, nine_at_most, nine_read, no_marks, one_mark_before}
use Rattle.core_store.proofs.flags.FlagCoreCore.nine_marks.Goals as goal

pub loop-place-init : goal.loop-place-init
loop-place-init c = record { read = no_marks c.args.self.now (c.args.position + 9); most = omega arith }

pub loop-place-preserved : goal.loop-place-preserved
loop-place-preserved c =
    let place : ℕ = c.args.position + (c.loop-place.place - 1) in
    let marked : c.index.result.now.1 ≡ is_marked c.args.self.now place =
    ap (λ (cell : Cell). cell.1)
    (c.index.ensures ∙ get_or_default c.self.inside.cells.items place c.index.result.now (0, false) (omega (arith, ap length c.self.view_is))
    ∙ ap (λ (cells : Storage). get_or cells place (0, false)) c.self.view_is) in
    record {
      read = one_mark_before c.args.self.now c.args.position c.loop-place.place c.loop-place.marks _ (omega arith) (omega arith) c.loop-place.invariant.most c.loop-place.invariant.read (c.from.ensures ∙ ap from_bool marked);
      most = omega arith;
    }

pub returns : goal.returns
returns c = nine_read c.args.self.now c.args.position c.loop-place.place c.loop-place.marks (omega arith) c.loop-place.invariant.read

pub overflow_mul-marks : goal.overflow_mul-marks
overflow_mul-marks c =
    omega (arith, c.loop-place.invariant.read, nine_at_most c.args.self.now (c.args.position + c.loop-place.place) (9 - c.loop-place.place) (omega (arith, c.loop-place.invariant.most)) (omega arith))

pub overflow_add-marks : goal.overflow_add-marks
overflow_add-marks c =
    omega (arith, c.from.ensures, byte_most c.index.result.now.1, c.loop-place.invariant.read, nine_at_most c.args.self.now (c.args.position + c.loop-place.place) (9 - c.loop-place.place) (omega (arith, c.loop-place.invariant.most)) (omega arith))
