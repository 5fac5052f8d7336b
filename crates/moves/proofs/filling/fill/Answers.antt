use Rattle.std.proofs.Common.{◌+◌, ◌-◌, ◌<◌, if◌then◌else◌, refl, sym, ◌∙◌, ap, arith}
use Rattle.core_store.specs.Storage.{codes_ending}
use Rattle.core_store.proofs.Fields.{length-codes_ending}
use Rattle.moves.proofs.Copying.{size_on}
use Rattle.moves.proofs.FillingLemmas.{filled_on, right_on, through_on, seen_all, through_within, place_is_digit, other_is_kept, other_is_no_zero}
use Rattle.moves.specs.Characters.{bare_units, from_right}
use Rattle.moves.proofs.filling.fill.Goals.{then-is_place, else-is_place}
use Rattle.moves.proofs.filling.fill.Goals as goal

pub loop-i-preserved : goal.loop-i-preserved
loop-i-preserved g c =
    let s = g.C.Core.cells c.args.core.now in
    let now = g.C.Core.cells c.loop-i.core in
    let i = c.loop-i.i in
    let i_in : i < c.args.b_count = omega arith in
    let minus = c.is_minus-minus.result in
    let right = c.loop-i.right in
    let code = c.get-code.result in
    let next = g.C.Core.cells c.if-is_place.core in
    elim c.if-is_place.branch [
      | then-is_place w ↦
          let place = sym c.is_place.ensures ∙ w.if-is_place.true in
          let digit = w.data_at-digit.result in
          let put_is = ap g.C.Core.cells w.core-is ∙ w.put.ensures in
          record {
            codes = filled_on s c.args.a c.args.a_count c.args.b c.args.b_count i c.requires.stretches.a_in c.requires.stretches.a_from c.requires.stretches.b_in c.requires.stretches.b_from i_in c.requires.apart c.is_minus-minus.result now c.loop-i.invariant.codes
                c.loop-i.right c.loop-i.invariant.right c.get-code.result c.get-code.ensures digit w.data_at-digit.ensures digit
                (place_is_digit minus c.args.a_count right digit code place) next put_is;
            right = right_on s c.args.a c.args.a_count c.args.b c.args.b_count i c.requires.stretches.a_in c.requires.stretches.a_from c.requires.stretches.b_in c.requires.stretches.b_from i_in c.requires.apart c.is_minus-minus.result now c.loop-i.invariant.codes
                c.loop-i.right c.loop-i.invariant.right c.get-code.result c.get-code.ensures c.if-is_place.right
                (w.right-is ∙ sym (ap (λ b. if b then right + 1 else right) place));
            through = through_on s c.args.a c.args.a_count c.args.b c.args.b_count i c.requires.stretches.a_in c.requires.stretches.a_from c.requires.stretches.b_in c.requires.stretches.b_from i_in c.requires.apart c.is_minus-minus.result now c.loop-i.invariant.codes
                c.loop-i.right c.loop-i.invariant.right c.get-code.result c.get-code.ensures (c.args.b_count - i) refl c.loop-i.through c.loop-i.invariant.through
                c.if-is_place.through (w.through-is ∙ w.through_more-through.ensures.through);
            bound = omega (arith, w.right-is);
            size = size_on now next (c.args.b - i) digit _ put_is c.loop-i.invariant.size;
          }
      | else-is_place w ↦
          let other = sym c.is_place.ensures ∙ w.if-is_place.false in
          let kept = w.filled_code-kept.result in
          let digit = from_right (bare_units (codes_ending now c.args.a c.args.a_count)) right in
          let put_is = ap g.C.Core.cells w.core-is ∙ w.put-else-is_place.ensures in
          record {
            codes = filled_on s c.args.a c.args.a_count c.args.b c.args.b_count i c.requires.stretches.a_in c.requires.stretches.a_from c.requires.stretches.b_in c.requires.stretches.b_from i_in c.requires.apart c.is_minus-minus.result now c.loop-i.invariant.codes
                c.loop-i.right c.loop-i.invariant.right c.get-code.result c.get-code.ensures digit refl kept
                (w.filled_code-kept.ensures ∙ other_is_kept minus c.args.a_count right w.blank.result digit code other) next put_is;
            right = right_on s c.args.a c.args.a_count c.args.b c.args.b_count i c.requires.stretches.a_in c.requires.stretches.a_from c.requires.stretches.b_in c.requires.stretches.b_from i_in c.requires.apart c.is_minus-minus.result now c.loop-i.invariant.codes
                c.loop-i.right c.loop-i.invariant.right c.get-code.result c.get-code.ensures c.if-is_place.right
                (w.right-is ∙ sym (ap (λ b. if b then right + 1 else right) other));
            through = through_on s c.args.a c.args.a_count c.args.b c.args.b_count i c.requires.stretches.a_in c.requires.stretches.a_from c.requires.stretches.b_in c.requires.stretches.b_from i_in c.requires.apart c.is_minus-minus.result now c.loop-i.invariant.codes
                c.loop-i.right c.loop-i.invariant.right c.get-code.result c.get-code.ensures (c.args.b_count - i) refl c.loop-i.through c.loop-i.invariant.through
                c.if-is_place.through (other_is_no_zero c.loop-i.through (c.args.b_count - i) code c.if-is_place.through other w.through-is);
            bound = omega (arith, w.right-is);
            size = size_on now next (c.args.b - i) kept _ put_is c.loop-i.invariant.size;
          }
    ]

pub returns-clause-through : goal.returns-clause-through
returns-clause-through g c =
    let s = g.C.Core.cells c.args.core.now in
    let long = length-codes_ending s c.args.b c.args.b_count c.requires.stretches.b_in c.requires.stretches.b_from in
    seen_all (codes_ending s c.args.b c.args.b_count) c.loop-i.i c.loop-i.through (omega (arith, long)) c.loop-i.invariant.through

pub returns-clause-limit : goal.returns-clause-limit
returns-clause-limit g c =
    let s = g.C.Core.cells c.args.core.now in
    let control = codes_ending s c.args.b c.args.b_count in
    let long = length-codes_ending s c.args.b c.args.b_count c.requires.stretches.b_in c.requires.stretches.b_from in
    let through = seen_all control c.loop-i.i c.loop-i.through (omega (arith, long)) c.loop-i.invariant.through in
    omega (arith, long, through, through_within control)
