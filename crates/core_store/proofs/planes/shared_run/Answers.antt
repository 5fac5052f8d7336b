use Rattle.std.proofs.Common.{◌≡◌, ◌<◌, ◌-◌, ◌∙◌, ℕ, ap, arith, get_or}
use Rattle.core_store.proofs.PlaneLanes.{both_passed, either_stops}
use Rattle.core_store.proofs.planes.shared_run.Goals as goal

pub returns-then-run-lt16-clause-before : goal.returns-then-run-lt16-clause-before
returns-then-run-lt16-clause-before c =
    let one = c.unmarked_before in
    let two = c.unmarked_before-in-loop-count-2 in
    both_passed c.args.marks.now c.args.a c.args.b c.loop-count-2.count one.result two.result c.min-run.result (omega (arith, c.min-run.ensures)) (omega (arith, c.min-run.ensures)) c.loop-count-2.invariant.bare one.ensures.after two.ensures.after

pub returns-then-run-lt16-clause-stops : goal.returns-then-run-lt16-clause-stops
returns-then-run-lt16-clause-stops c within =
    let one = c.unmarked_before in
    let two = c.unmarked_before-in-loop-count-2 in
    either_stops c.args.marks.now c.args.a c.args.b c.loop-count-2.count one.result two.result c.min-run.result c.min-run.ensures c.if-run-lt16.true one.ensures.stops two.ensures.stops

pub loop-count-2-preserved : goal.loop-count-2-preserved
loop-count-2-preserved c =
    let one = c.unmarked_before in
    let two = c.unmarked_before-in-loop-count-2 in
    record {
      within = omega arith;
      bare = both_passed c.args.marks.now c.args.a c.args.b c.loop-count-2.count one.result two.result 16 (omega (arith, c.min-run.ensures, one.ensures.most)) (omega (arith, c.min-run.ensures, two.ensures.most)) c.loop-count-2.invariant.bare one.ensures.after two.ensures.after;
    }

pub loop-count-3-preserved : goal.loop-count-3-preserved
loop-count-3-preserved c =
    let here : (p : ℕ) → get_or c.args.marks.now p 0 ≡ 0 → (k : ℕ) → k < 1 → get_or c.args.marks.now (p - k) 0 ≡ 0 =
    λ p is k lt. let same : p - k ≡ p = omega arith in ap (λ n. get_or c.args.marks.now n 0) same ∙ is in
    record {
      within = omega arith;
      bare = both_passed c.args.marks.now c.args.a c.args.b c.loop-count-3.count 1 1 1 (omega arith) (omega arith) c.loop-count-3.invariant.bare
          (here (c.args.a - c.loop-count-3.count) c.if-marks-a-ne0.false) (here (c.args.b - c.loop-count-3.count) c.if-marks-b-ne0.false);
    }
