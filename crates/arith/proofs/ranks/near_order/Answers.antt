use Rattle.std.proofs.Common.{◌∙◌, ap, arith, not, eqb}
use Rattle.std.specs.Simd.Lanes.{mask_l, zip2}
use Rattle.core_store.specs.Storage.{codes_ending}
use Rattle.arith.proofs.RankDifferences.{order_equal, inside, lower, higher}
use Rattle.arith.proofs.ranks.near_order.Goals as goal

pub returns-then-differ-eq0 : goal.returns-then-differ-eq0
returns-then-differ-eq0 g c =
    order_equal (g.C.Core.cells c.args.core.now) c.args.a c.args.b c.args.count c.differences.result c.requires.a_in c.requires.b_in c.requires.a_room c.requires.b_room c.requires.some c.requires.most
    (c.differences.ensures ∙ ap (λ xs. mask_l (zip2 (λ x y. not (eqb x y)) xs c.near_codes-2.result)) c.near_codes.ensures.codes
    ∙ ap (λ ys. mask_l (zip2 (λ x y. not (eqb x y)) (codes_ending (g.C.Core.cells c.args.core.now) c.args.a 16) ys)) c.near_codes-2.ensures.codes)
    c.if-differ-eq0.true

pub overflow_sub-left-2 : goal.overflow_sub-left-2
overflow_sub-left-2 g c =
    let below = inside (g.C.Core.cells c.args.core.now) c.args.a c.args.b c.args.count c.differences.result c.requires.a_in c.requires.b_in c.requires.a_room c.requires.b_room c.requires.some c.requires.most
    (c.differences.ensures ∙ ap (λ xs. mask_l (zip2 (λ x y. not (eqb x y)) xs c.near_codes-2.result)) c.near_codes.ensures.codes
    ∙ ap (λ ys. mask_l (zip2 (λ x y. not (eqb x y)) (codes_ending (g.C.Core.cells c.args.core.now) c.args.a 16) ys)) c.near_codes-2.ensures.codes)
    c.if-differ-eq0.false in
    omega (arith, below)

pub returns-then-rank_at : goal.returns-then-rank_at
returns-then-rank_at g c =
    lower (g.C.Core.cells c.args.core.now) c.args.a c.args.b c.args.count c.differences.result c.requires.a_in c.requires.b_in c.requires.a_room c.requires.b_room c.requires.some c.requires.most
    (c.differences.ensures ∙ ap (λ xs. mask_l (zip2 (λ x y. not (eqb x y)) xs c.near_codes-2.result)) c.near_codes.ensures.codes
    ∙ ap (λ ys. mask_l (zip2 (λ x y. not (eqb x y)) (codes_ending (g.C.Core.cells c.args.core.now) c.args.a 16) ys)) c.near_codes-2.ensures.codes)
    c.if-differ-eq0.false c.rank_at-2.result c.rank_at.result c.rank_at-2.ensures c.rank_at.ensures c.if-rank_at.true

pub returns-else-rank_at : goal.returns-else-rank_at
returns-else-rank_at g c =
    higher (g.C.Core.cells c.args.core.now) c.args.a c.args.b c.args.count c.differences.result c.requires.a_in c.requires.b_in c.requires.a_room c.requires.b_room c.requires.some c.requires.most
    (c.differences.ensures ∙ ap (λ xs. mask_l (zip2 (λ x y. not (eqb x y)) xs c.near_codes-2.result)) c.near_codes.ensures.codes
    ∙ ap (λ ys. mask_l (zip2 (λ x y. not (eqb x y)) (codes_ending (g.C.Core.cells c.args.core.now) c.args.a 16) ys)) c.near_codes-2.ensures.codes)
    c.if-differ-eq0.false c.rank_at-2.result c.rank_at.result c.rank_at-2.ensures c.rank_at.ensures
    (rw c.near_codes.ensures.codes at c.near_codes.ensures.below) (rw c.near_codes-2.ensures.codes at c.near_codes-2.ensures.below) c.if-rank_at.false
