use Rattle.std.proofs.Common.{◌≡◌, ◌<◌, arith, length}
use Rattle.arith.proofs.SumSigns.{sum_put, sum_carried, no_overflow, same_size, difference_put, recomplement_put}
use Rattle.arith.proofs.sums.join_signed.Goals as goal

pub returns-then-minus_a-minus_b-clause-codes : goal.returns-then-minus_a-minus_b-clause-codes
returns-then-minus_a-minus_b-clause-codes g c =
    sum_put (g.C.Core.cells c.args.core.now) c.args.a c.args.counts.a c.args.b c.args.counts.b c.requires.counts c.args.minus_a c.is_minus-minus_b.result c.is_minus-minus_b.ensures c.if-minus_a-minus_b.true
    c.zone-zone.result c.get.result (g.C.Core.cells c.join.new.core) c.zone-zone.ensures c.get.ensures c.join.ensures.codes

pub returns-then-minus_a-minus_b-clause-overflows : goal.returns-then-minus_a-minus_b-clause-overflows
returns-then-minus_a-minus_b-clause-overflows g c =
    sum_carried (g.C.Core.cells c.args.core.now) c.args.a c.args.counts.a c.args.b c.args.counts.b c.requires.counts c.args.minus_a c.is_minus-minus_b.result c.is_minus-minus_b.ensures c.if-minus_a-minus_b.true c.join.result c.join.ensures.carry

pub join-requires-then-not-join-clause-a_in : goal.join-requires-then-not-join-clause-a_in
join-requires-then-not-join-clause-a_in g c =
    let size : length (g.C.Core.cells c.join-2.new.core) ≡ length (g.C.Core.cells c.args.core.now) =
    same_size (g.C.Core.cells c.args.core.now) c.args.a c.args.counts.a c.args.b c.args.counts.b c.requires.counts c.args.minus_a c.is_minus-minus_b.result c.is_minus-minus_b.ensures c.if-minus_a-minus_b.false c.join-2.result c.sign_zone.result (g.C.Core.cells c.join-2.new.core) c.join-2.ensures.carry c.join-2.ensures.codes in
    let inside : c.args.a < length (g.C.Core.cells c.args.core.now) = c.requires.counts.a_in in
    omega arith

pub join-requires-then-not-join-clause-b_in : goal.join-requires-then-not-join-clause-b_in
join-requires-then-not-join-clause-b_in g c =
    let size : length (g.C.Core.cells c.join-2.new.core) ≡ length (g.C.Core.cells c.args.core.now) =
    same_size (g.C.Core.cells c.args.core.now) c.args.a c.args.counts.a c.args.b c.args.counts.b c.requires.counts c.args.minus_a c.is_minus-minus_b.result c.is_minus-minus_b.ensures c.if-minus_a-minus_b.false c.join-2.result c.sign_zone.result (g.C.Core.cells c.join-2.new.core) c.join-2.ensures.carry c.join-2.ensures.codes in
    let inside : c.args.b < length (g.C.Core.cells c.args.core.now) = c.requires.counts.b_in in
    omega arith

pub returns-then-not-join-clause-codes : goal.returns-then-not-join-clause-codes
returns-then-not-join-clause-codes g c =
    recomplement_put (g.C.Core.cells c.args.core.now) c.args.a c.args.counts.a c.args.b c.args.counts.b c.requires.counts c.args.minus_a c.is_minus-minus_b.result c.is_minus-minus_b.ensures c.if-minus_a-minus_b.false c.join-2.result c.sign_zone.result (g.C.Core.cells c.join-2.new.core) c.join-2.ensures.carry c.join-2.ensures.codes
    c.if-not-join.true c.sign_zone-then-not-join.result (g.C.Core.cells c.join-then-not-join.new.core) c.sign_zone-then-not-join.ensures c.join-then-not-join.ensures.codes

pub returns-then-not-join-clause-overflows : goal.returns-then-not-join-clause-overflows
returns-then-not-join-clause-overflows g c =
    no_overflow (g.C.Core.cells c.args.core.now) c.args.a c.args.counts.a c.args.b c.args.counts.b c.requires.counts c.args.minus_a c.is_minus-minus_b.result c.is_minus-minus_b.ensures c.if-minus_a-minus_b.false

pub returns-else-not-join-clause-codes : goal.returns-else-not-join-clause-codes
returns-else-not-join-clause-codes g c =
    difference_put (g.C.Core.cells c.args.core.now) c.args.a c.args.counts.a c.args.b c.args.counts.b c.requires.counts c.args.minus_a c.is_minus-minus_b.result c.is_minus-minus_b.ensures c.if-minus_a-minus_b.false c.join-2.result c.sign_zone.result (g.C.Core.cells c.join-2.new.core) c.join-2.ensures.carry c.join-2.ensures.codes
    c.if-not-join.false c.sign_zone.ensures

pub returns-else-not-join-clause-overflows : goal.returns-else-not-join-clause-overflows
returns-else-not-join-clause-overflows g c =
    no_overflow (g.C.Core.cells c.args.core.now) c.args.a c.args.counts.a c.args.b c.args.counts.b c.requires.counts c.args.minus_a c.is_minus-minus_b.result c.is_minus-minus_b.ensures c.if-minus_a-minus_b.false
