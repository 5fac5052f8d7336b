use Rattle.std.proofs.Common.{◌+◌, ◌-◌, ◌∙◌, sym, ap, arith, ltb, map}
use Rattle.std.specs.Int.{abs_diff}
use Rattle.std.specs.List.{list_any}
use Rattle.core_store.specs.Storage.{codes_ending, put_codes}
use Rattle.arith.specs.Decimal.{value}
use Rattle.arith.specs.Columns.{number, digit_of_part}
use Rattle.arith.proofs.SumLanes.{both_small, both_numbers, both_values, sum_bound, not_differing, differing, combined_is}
use Rattle.arith.proofs.SumDifferences.{differed_is}
use Rattle.arith.proofs.sums.combine_clear.Goals as goal

pub difference-is_greater-requires-clause-a_digits : goal.difference-is_greater-requires-clause-a_digits
difference-is_greater-requires-clause-a_digits g c =
    (both_small (g.C.Core.cells c.args.core.now) c.args.a c.args.b c.in-Some.counts c.in-Some.ensures.known c.in-Some.ensures.room
    c.near_codes.result c.near_codes-old.result c.parts-parts_a.result c.parts-parts_b.result c.greater.result
    c.near_codes.ensures.codes c.near_codes-old.ensures.codes c.parts-parts_a.ensures c.parts-parts_b.ensures c.greater.ensures (sym c.is_over.ensures ∙ c.if-is_over.false)).0

pub difference-is_greater-requires-clause-b_digits : goal.difference-is_greater-requires-clause-b_digits
difference-is_greater-requires-clause-b_digits g c =
    (both_small (g.C.Core.cells c.args.core.now) c.args.a c.args.b c.in-Some.counts c.in-Some.ensures.known c.in-Some.ensures.room
    c.near_codes.result c.near_codes-old.result c.parts-parts_a.result c.parts-parts_b.result c.greater.result
    c.near_codes.ensures.codes c.near_codes-old.ensures.codes c.parts-parts_a.ensures c.parts-parts_b.ensures c.greater.ensures (sym c.is_over.ensures ∙ c.if-is_over.false)).1

pub sum-digits-requires-clause-a_digits : goal.sum-digits-requires-clause-a_digits
sum-digits-requires-clause-a_digits g c =
    (both_small (g.C.Core.cells c.args.core.now) c.args.a c.args.b c.in-Some.counts c.in-Some.ensures.known c.in-Some.ensures.room
    c.near_codes.result c.near_codes-old.result c.parts-parts_a.result c.parts-parts_b.result c.greater.result
    c.near_codes.ensures.codes c.near_codes-old.ensures.codes c.parts-parts_a.ensures c.parts-parts_b.ensures c.greater.ensures (sym c.is_over.ensures ∙ c.if-is_over.false)).0

pub sum-digits-requires-clause-b_digits : goal.sum-digits-requires-clause-b_digits
sum-digits-requires-clause-b_digits g c =
    (both_small (g.C.Core.cells c.args.core.now) c.args.a c.args.b c.in-Some.counts c.in-Some.ensures.known c.in-Some.ensures.room
    c.near_codes.result c.near_codes-old.result c.parts-parts_a.result c.parts-parts_b.result c.greater.result
    c.near_codes.ensures.codes c.near_codes-old.ensures.codes c.parts-parts_a.ensures c.parts-parts_b.ensures c.greater.ensures (sym c.is_over.ensures ∙ c.if-is_over.false)).1

pub sum-digits-requires-clause-room : goal.sum-digits-requires-clause-room
sum-digits-requires-clause-room g c =
    let s = g.C.Core.cells c.args.core.now in
    let r = record c.args.registers.now { a = c.args.a; b = c.args.b } in
    let values = both_values s r.a r.b c.in-Some.counts c.in-Some.ensures.known c.in-Some.ensures.room
    c.near_codes.result c.near_codes-old.result c.parts-parts_a.result c.parts-parts_b.result c.greater.result
    c.near_codes.ensures.codes c.near_codes-old.ensures.codes c.parts-parts_a.ensures c.parts-parts_b.ensures c.greater.ensures (sym c.is_over.ensures ∙ c.if-is_over.false) in
    omega (arith, values.0, values.1, sum_bound s r.a c.in-Some.counts.a r.b c.in-Some.counts.b c.in-Some.ensures.known (omega arith))

pub returns-then-minus_a-minus_b : goal.returns-then-minus_a-minus_b
returns-then-minus_a-minus_b g c = (
  λ _.
      let s = g.C.Core.cells c.args.core.now in
      let r = record c.args.registers.now { a = c.args.a; b = c.args.b } in
      let counts = c.in-Some.counts in
      let room = c.in-Some.ensures.room in
      let known = c.in-Some.ensures.known in
      let numbers = both_numbers s r.a r.b counts known room c.near_codes.result c.near_codes-old.result c.parts-parts_a.result c.parts-parts_b.result c.greater.result
      c.near_codes.ensures.codes c.near_codes-old.ensures.codes c.parts-parts_a.ensures c.parts-parts_b.ensures c.greater.ensures (sym c.is_over.ensures ∙ c.if-is_over.false) in
      let values = both_values s r.a r.b counts known room c.near_codes.result c.near_codes-old.result c.parts-parts_a.result c.parts-parts_b.result c.greater.result
      c.near_codes.ensures.codes c.near_codes-old.ensures.codes c.parts-parts_a.ensures c.parts-parts_b.ensures c.greater.ensures (sym c.is_over.ensures ∙ c.if-is_over.false) in
      differed_is c.args.reversed s r counts c.in-Some.ensures.counts known room.1 room.2 c.in-Some.ensures.apart numbers.0
      c.is_minus.result c.is_minus.ensures c.near_codes-old.result c.signed-signed.result c.difference-is_greater.result.0 c.near_codes-old.ensures.codes c.difference-is_greater.ensures.sixteen c.difference-is_greater.ensures.digits
      (g.C.Core.cells c.put_near_codes.new.self) c.pass.new.self c.pass.ensures
      (c.put_near_codes.ensures ∙ ap (put_codes s (r.b - 15)) c.write_digits.ensures.codes)
      c.is_minus-minus_b.result c.difference-is_greater.result.1 c.is_minus-minus_b.ensures (differing _ _ c.if-minus_a-minus_b.true) numbers.1
      c.signed-signed.ensures.codes
      (c.difference-is_greater.ensures.greater ∙ ap (λ n. ltb n (number (map digit_of_part c.parts-parts_a.result))) values.1 ∙ ap (ltb (value (codes_ending s r.b counts.b))) values.0)
      (c.difference-is_greater.ensures.number ∙ ap (λ n. abs_diff n (number (map digit_of_part c.parts-parts_b.result))) values.0 ∙ ap (abs_diff (value (codes_ending s r.a counts.a))) values.1),
  λ no. absurd (cc),
)

pub returns : goal.returns
returns g c = (
  λ _.
      let s = g.C.Core.cells c.args.core.now in
      let r = record c.args.registers.now { a = c.args.a; b = c.args.b } in
      let counts = c.in-Some.counts in
      let room = c.in-Some.ensures.room in
      let known = c.in-Some.ensures.known in
      let numbers = both_numbers s r.a r.b counts known room c.near_codes.result c.near_codes-old.result c.parts-parts_a.result c.parts-parts_b.result c.greater.result
      c.near_codes.ensures.codes c.near_codes-old.ensures.codes c.parts-parts_a.ensures c.parts-parts_b.ensures c.greater.ensures (sym c.is_over.ensures ∙ c.if-is_over.false) in
      let values = both_values s r.a r.b counts known room c.near_codes.result c.near_codes-old.result c.parts-parts_a.result c.parts-parts_b.result c.greater.result
      c.near_codes.ensures.codes c.near_codes-old.ensures.codes c.parts-parts_a.ensures c.parts-parts_b.ensures c.greater.ensures (sym c.is_over.ensures ∙ c.if-is_over.false) in
      combined_is c.args.reversed s r counts c.in-Some.ensures.counts known room.0 room.1 (omega arith) c.in-Some.ensures.apart
      c.is_minus.result c.is_minus-minus_b.result c.is_minus.ensures c.is_minus-minus_b.ensures (not_differing _ _ c.if-minus_a-minus_b.false)
      c.near_codes-old.result c.sum-digits.result c.near_codes-old.ensures.codes c.sum-digits.ensures.sixteen c.sum-digits.ensures.digits numbers.0 numbers.1
      (c.sum-digits.ensures.number ∙ ap (λ n. n + number (map digit_of_part c.parts-parts_b.result)) values.0 ∙ ap (λ n. value (codes_ending s r.a counts.a) + n) values.1)
      (g.C.Core.cells c.put_near_codes-2.new.self) c.pass-2.new.self c.pass-2.ensures c.is_over-2.result
      (c.put_near_codes-2.ensures ∙ ap (put_codes s (r.b - 15)) c.write_digits-2.ensures.codes)
      (c.is_over-2.ensures ∙ ap (list_any (λ l. ltb 0 l)) c.last_of.ensures),
  λ no. absurd (cc),
)
