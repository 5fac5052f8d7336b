use Rattle.std.proofs.Common.{◌≡◌, ◌+◌, ◌-◌, ◌≤◌, ◌∙◌, sym, arith}
use Rattle.core_store.specs.Storage.{codes_ending}
use Rattle.arith.specs.Order.{order}
use Rattle.arith.proofs.RankOrders.{place_low, place_high, place_rest, order_none}
use Rattle.arith.proofs.ranks.order.Goals as goal

pub loop-left-preserved : goal.loop-left-preserved
loop-left-preserved g c =
    let s = g.C.Core.cells c.args.core.now in
    let left = c.loop-left.left - 1 in
    let a_from : left ≤ c.args.a = omega arith in
    let b_from : left ≤ c.args.b = omega arith in
    let one : c.loop-left.left ≡ left + 1 = omega arith in
    record {
      rest = place_rest s c.args.a c.args.b left c.loop-left.left c.requires.a_in c.requires.b_in a_from b_from one c.rank_at-rank_a.result c.rank_at-rank_b.result
          c.rank_at-rank_a.ensures c.rank_at-rank_b.ensures (order (codes_ending s c.args.a c.args.count) (codes_ending s c.args.b c.args.count)) c.loop-left.invariant.rest c.if-rank_b-rank_a.false c.if-rank_a-rank_b.false;
      most = omega arith;
    }

pub returns-then-rank_b-rank_a : goal.returns-then-rank_b-rank_a
returns-then-rank_b-rank_a g c =
    let s = g.C.Core.cells c.args.core.now in
    let left = c.loop-left.left - 1 in
    let a_from : left ≤ c.args.a = omega arith in
    let b_from : left ≤ c.args.b = omega arith in
    let one : c.loop-left.left ≡ left + 1 = omega arith in
    place_low s c.args.a c.args.b left c.loop-left.left c.requires.a_in c.requires.b_in a_from b_from one c.rank_at-rank_a.result c.rank_at-rank_b.result
    c.rank_at-rank_a.ensures c.rank_at-rank_b.ensures (order (codes_ending s c.args.a c.args.count) (codes_ending s c.args.b c.args.count)) c.loop-left.invariant.rest c.if-rank_b-rank_a.true

pub returns-then-rank_a-rank_b : goal.returns-then-rank_a-rank_b
returns-then-rank_a-rank_b g c =
    let s = g.C.Core.cells c.args.core.now in
    let left = c.loop-left.left - 1 in
    let a_from : left ≤ c.args.a = omega arith in
    let b_from : left ≤ c.args.b = omega arith in
    let one : c.loop-left.left ≡ left + 1 = omega arith in
    place_high s c.args.a c.args.b left c.loop-left.left c.requires.a_in c.requires.b_in a_from b_from one c.rank_at-rank_a.result c.rank_at-rank_b.result
    c.rank_at-rank_a.ensures c.rank_at-rank_b.ensures (order (codes_ending s c.args.a c.args.count) (codes_ending s c.args.b c.args.count)) c.loop-left.invariant.rest c.if-rank_a-rank_b.true

pub returns : goal.returns
returns g c =
    let end : c.loop-left.left ≡ 0 = omega arith in
    sym (c.loop-left.invariant.rest ∙ order_none (g.C.Core.cells c.args.core.now) c.args.a c.args.b c.loop-left.left end)
